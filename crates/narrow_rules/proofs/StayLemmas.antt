-- A member is kept as itself on at least one side of each test.
use Rattle.std.proofs.Common.{◌≡◌, Bool, true, false, List, [], ◌∷◌, ◌++◌, map, inl, inr, ◌⊎◌, sym, subst}
use Rattle.std.specs.List.{Contains}
use Rattle.std.proofs.lemmas.List.Elements.{Contains-append_left, Contains-append_right}
use Rattle.type_terms.specs.declared.atom.Atom.{Atom, out-Atom}
use Rattle.type_terms.specs.declared.atom.Atom.TheOpen.{Atom-F}
use Rattle.type_terms.specs.declared.narrowing.Test.{Test, map-Test, roll-Test, fold-roll-Test, ind-Test}
use Rattle.type_terms.specs.declared.narrowing.Test.TheOpen.{Test-F}
use Rattle.type_terms.specs.Facts.{NameTable}
use Rattle.type_terms.specs.Types.{type_of}
use Rattle.class_rows.specs.Rows.{ClassRow}
use Rattle.narrow_rules.specs.declared.sides.Kept.{Kept}
use Rattle.narrow_rules.specs.declared.sides.Kept.TheVariants.{Itself, Nothing}
use Rattle.narrow_rules.specs.Keep.{Row, only_true, only_false, on_both, becomes, leaves, side, members, both, of_kept, any_true, all_false, several, entry_row, entry_keeps, as_set, level_set, set_of, level_kept, step, whole_step, kept, keep}
use Rattle.narrow_rules.specs.Laws.{HaveSame}
use Rattle.narrow_rules.proofs.MemberLemmas.{first_in, flat_in, both_same, of_kept_same}

-- the member is left itself
abbrev Stays : Kept → Atom → Type 0
Stays k a = Contains (members k a) a

abbrev StaysSomewhere : (Bool → Atom → Kept) → Atom → Type 0
StaysSomewhere keeps a = Stays (keeps true a) a ⊎ Stays (keeps false a) a

itself : (a : Atom) → Stays Itself a
itself a = first_in a []

row_stays : (row : Row) (a : Atom) → StaysSomewhere (λ positive b. side positive row) a
row_stays only_true a = inl (itself a)
row_stays only_false a = inr (itself a)
row_stays on_both a = inl (itself a)
row_stays (becomes atoms) a = inr (itself a)
row_stays (leaves atoms) a = inl (itself a)

abbrev StayAll : List (Bool → Atom → Kept) → Atom → Type 0
StayAll [] a = Unit {0}
StayAll (test ∷ tests) a = StaysSomewhere test a × StayAll tests a

entries_stay : (entries : List Atom) (a : Atom) → StayAll (map entry_keeps entries) a
entries_stay [] a = tt
entries_stay (entry ∷ entries) a = (row_stays (entry_row entry a) a, entries_stay entries a)

module _ (types : (xs : List Atom) → HaveSame (type_of xs) xs) where
  first_stays : (a : Atom) (one other : Kept) → Stays one a → Stays (both a one other) a
  first_stays a one other h = (both_same types a one other).1 a (Contains-append_left (members one a) (members other a) a h)

  second_stays : (a : Atom) (one other : Kept) → Stays other a → Stays (both a one other) a
  second_stays a one other h = (both_same types a one other).1 a (Contains-append_right (members one a) (members other a) a h)

  left_stays : (keeps : Atom → Kept) (a : Atom) (left : Kept) → Stays left a → Stays (keeps a) a → Stays (of_kept keeps a left) a
  left_stays keeps a left h k = (of_kept_same types keeps a left).1 a (flat_in (λ b. members (keeps b) b) (members left a) a a h k)

  any_stays : (tests : List (Bool → Atom → Kept)) (a : Atom) (so_far : Kept) → Stays so_far a → Stays (any_true tests a so_far) a
  any_stays [] a so_far h = h
  any_stays (test ∷ tests) a so_far h = any_stays tests a (both a so_far (test true a)) (first_stays a so_far (test true a) h)

  some_stays : (tests : List (Bool → Atom → Kept)) (a : Atom) (so_far left : Kept) → StayAll tests a → Stays left a → Stays (any_true tests a so_far) a ⊎ Stays (all_false tests a left) a
  some_stays [] a so_far left each h = inr h
  some_stays (test ∷ tests) a so_far left each h = elim each.0 [
    | inl here ↦ inl (any_stays tests a (both a so_far (test true a)) (second_stays a so_far (test true a) here))
    | inr there ↦ some_stays tests a (both a so_far (test true a)) (of_kept (test false) a left) each.1 (left_stays (test false) a left h there)
  ]

  several_stays : (tests : List (Bool → Atom → Kept)) (a : Atom) → StayAll tests a → StaysSomewhere (several tests) a
  several_stays tests a each = some_stays tests a Nothing Itself each (itself a)

  module _ (classes : List ClassRow) (names : NameTable) where
    abbrev C : Type 0
    C = Bool → Atom → Kept

    -- of a member that is no set, and of a test all of whose parts keep it somewhere
    abbrev Told : Test → Type 0
    Told t = (a : Atom) → set_of names a ≡ [] → StaysSomewhere (kept classes names t) a

    abbrev Known : Type 0
    Known = (t : Test) × Told t

    known_all : (tests : List Known) (a : Atom) → set_of names a ≡ [] → StayAll (map (kept classes names) (map (λ t. t.0) tests)) a
    known_all [] a none = tt
    known_all (t ∷ tests) a none = (t.1 a none, known_all tests a none)

    swapped_stays : (positive other : Kept) (a : Atom) → Stays positive a ⊎ Stays other a → Stays other a ⊎ Stays positive a
    swapped_stays positive other a (inl h) = inr h
    swapped_stays positive other a (inr h) = inl h

    abbrev below : Test-F Known → Test-F Test
    below = map-Test Known Test (λ t. t.0)

    abbrev level : Test-F Test → Bool → Atom → Kept
    level x = step classes names (map-Test Test C (kept classes names) x)

    step_stays : (y : Test-F Known) (a : Atom) → set_of names a ≡ [] → StaysSomewhere (level (below y)) a
    step_stays Test-F.IsNone a none = row_stays _ a
    step_stays (Test-F.IsLit l) a none = row_stays _ a
    step_stays (Test-F.EqualsLit l) a none = row_stays _ a
    step_stays (Test-F.Instance listed) a none = row_stays _ a
    step_stays (Test-F.Subclass listed) a none = row_stays _ a
    step_stays (Test-F.ExactClass class) a none = row_stays _ a
    step_stays Test-F.CanCall a none = row_stays _ a
    step_stays (Test-F.Guard type) a none = row_stays (becomes type) a
    step_stays (Test-F.GuardBoth type) a none = row_stays _ a
    step_stays Test-F.Truthy a none = row_stays _ a
    step_stays (Test-F.Within entries) a none = several_stays (map entry_keeps entries) a (entries_stay entries a)
    step_stays (Test-F.Swapped t) a none = swapped_stays (kept classes names t.0 true a) (kept classes names t.0 false a) a (t.1 a none)
    step_stays Test-F.KeepBoth a none = inl (itself a)
    step_stays Test-F.KeepTrue a none = inl (itself a)
    step_stays (Test-F.WithParts class) a none = inr (itself a)
    step_stays (Test-F.Either tests) a none = several_stays (map (kept classes names) (map (λ t. t.0) tests)) a (known_all tests a none)

    level_stays : (keeps : Bool → Atom → Kept) (a : Atom) (x : Atom-F Atom) → level_set names x ≡ [] → StaysSomewhere keeps a → StaysSomewhere (λ positive b. level_kept names (keeps positive) b x) a
    level_stays keeps a Atom-F.Unbound none h = inl (itself a)
    level_stays keeps a Atom-F.Open none h = inl (itself a)
    level_stays keeps a Atom-F.Here none h = inl (itself a)
    level_stays keeps a (Atom-F.Inst class) none h = subst (λ atoms. StaysSomewhere (λ positive b. as_set (keeps positive) b atoms) a) (sym none) h
    level_stays keeps a other none h = h

    kept_roll : (x : Test-F Test) → kept classes names (roll-Test x) ≡ whole_step classes names (map-Test Test C (kept classes names) x)
    unfolding kept
    kept_roll x = fold-roll-Test C (whole_step classes names) x

    pub stays_somewhere : (t : Test) → Told t
    stays_somewhere = ind-Test Told (λ x y below_is a none.
        subst (λ keeps. StaysSomewhere keeps a) (sym (kept_roll x))
        (subst (λ z. StaysSomewhere (whole_step classes names (map-Test Test C (kept classes names) z)) a) below_is
        (level_stays (level (below y)) a (out-Atom a) none (step_stays y a none))))

    pub stays : (t : Test) (a : Atom) → set_of names a ≡ [] → Contains (keep classes names t true a ++ keep classes names t false a) a
    stays t a none = elim (stays_somewhere t a none) [
      | inl h ↦ Contains-append_left (keep classes names t true a) (keep classes names t false a) a h
      | inr h ↦ Contains-append_right (keep classes names t true a) (keep classes names t false a) a h
    ]
