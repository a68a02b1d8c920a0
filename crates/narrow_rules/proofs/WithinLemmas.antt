-- What a test keeps of a member of a list stays in the list, where the list has what the test puts in place of others.
use Rattle.std.proofs.Common.{◌≡◌, ◌==◌, ◌||◌, ◌&&◌, Bool, true, false, not, pos, List, [], ◌∷◌, map, inl, inr, refl, sym, subst, ◌∙◌}
use Rattle.std.specs.Prelude.{Option, Some, None, filter, if◌then◌else◌}
use Rattle.std.specs.List.{Contains, flat_map, list_any}
use Rattle.std.proofs.lemmas.List.{append-nil}
use Rattle.std.proofs.lemmas.List.Concat.{flat_map-cons}
use Rattle.std.proofs.lemmas.List.Elements.{Contains-append_left, Contains-append_right, Contains-append_cases}
use Rattle.py_base.specs.declared.ids.ClassId.{ClassId}
use Rattle.py_base.specs.declared.builtin.Builtin.TheVariants as builtin
use Rattle.type_terms.specs.declared.literal.Literal.{Literal}
use Rattle.type_terms.specs.declared.literal.Literal.TheVariants as literal
use Rattle.type_terms.specs.declared.atom.Atom.{Atom, out-Atom, roll-Atom, roll-out-Atom}
use Rattle.type_terms.specs.declared.atom.Atom.TheVariants as atom
use Rattle.type_terms.specs.declared.atom.Atom.TheOpen.{Atom-F}
use Rattle.type_terms.specs.declared.narrowing.Test.{Test, map-Test, roll-Test, fold-roll-Test, ind-Test}
use Rattle.type_terms.specs.declared.narrowing.Test.TheOpen.{Test-F}
use Rattle.type_terms.specs.Order.{literal_class}
use Rattle.type_terms.specs.Facts.{NameTable}
use Rattle.type_terms.specs.Types.{type_of}
use Rattle.class_rows.specs.Rows.{ClassRow, is_sub_of, is_open_of}
use Rattle.narrow_rules.specs.declared.sides.Kept.{Kept}
use Rattle.narrow_rules.specs.declared.sides.Kept.TheVariants.{Itself, Nothing, Others}
use Rattle.narrow_rules.specs.Ground.{is_class, class_of, has_some, is_under, instances, same, set_members}
use Rattle.narrow_rules.specs.Keep.{Row, only_true, only_false, on_both, becomes, leaves, side, instead_of, members, both, of_kept, any_true, all_false, several, none_row, is_over, literal_level, literal_row, is_of_class, equal_level, equal_row, entry_level, entry_row, entry_keeps, class_itself, class_row, instance_row, subclass_row, exact_row, is_object, can_be_called, callable_class, callable_level, known_row, guard_both_level, is_either, either_or_true, true_or_false, is_zero, literal_truth, instance_truth, truth_row, as_set, level_set, level_kept, step, whole_step, kept, keep, narrowed}
use Rattle.narrow_rules.specs.Laws.{IsInside, HaveSame, HasSets, falsy_literals, made_step, made_by}
use Rattle.narrow_rules.proofs.MemberLemmas.{none_in, first_in, later_in, in_cases, flat_all, flat_rises, both_same, of_kept_same}

kept_of_filter : {X : Type 0} (p : X → Bool) (xs : List X) (y : X) → Contains (filter p xs) y → Contains xs y
kept_of_filter p [] y h = h
kept_of_filter p (x ∷ xs) y h = elim (p x) as (λ b. p x ≡ b → Contains (x ∷ xs) y) [
  | true ↦ λ is. elim (in_cases x (filter p xs) y (subst (λ b. Contains (if b then x ∷ filter p xs else filter p xs) y) is h)) [
    | inl first ↦ subst (Contains (x ∷ xs)) first (first_in x xs)
    | inr rest ↦ later_in x xs y (kept_of_filter p xs y rest)
  ]
  | false ↦ λ is. later_in x xs y (kept_of_filter p xs y (subst (λ b. Contains (if b then x ∷ filter p xs else filter p xs) y) is h))
] refl

module _ (universe : List Atom) where
  -- what a row puts in place of a member is there
  abbrev pub Says : Row → Type 0
  Says (becomes atoms) = IsInside atoms universe
  Says (leaves atoms) = IsInside atoms universe
  Says other = Unit {0}

  one_within : (a : Atom) → Contains universe a → IsInside (a ∷ []) universe
  one_within a at b h = elim (in_cases a [] b h) [
    | inl first ↦ subst (Contains universe) first at
    | inr rest ↦ absurd (none_in b rest)
  ]

  none_within : IsInside [] universe
  none_within b h = absurd (none_in b h)

  says_if : (b : Bool) (one other : Row) → Says one → Says other → Says (if b then one else other)
  says_if true one other h k = h
  says_if false one other h k = k

  says_none : Contains universe atom.None → (x : Atom-F Atom) → Says (none_row x)
  says_none at Atom-F.None = tt
  says_none at Atom-F.Unknown = one_within atom.None at
  says_none at (Atom-F.Inst class) = says_if (is_class class builtin.Object) (becomes (atom.None ∷ [])) only_false (one_within atom.None at) tt
  says_none at other = tt

  says_equal_level : (l : Atom) → Contains universe l → (x : Atom-F Atom) → Says (equal_level l x)
  says_equal_level l at (Atom-F.Inst class) = says_if (is_of_class (class_of l) class) (becomes (l ∷ [])) on_both (one_within l at) tt
  says_equal_level l at (Atom-F.Lit value) = says_if (is_of_class (class_of l) (literal_class value)) only_false on_both tt tt
  says_equal_level l at Atom-F.None = tt
  says_equal_level l at other = tt

  says_equal : (l : Atom) → Contains universe l → (a : Atom) → Says (equal_row l a)
  says_equal l at a = says_if (same a l) only_true (equal_level l (out-Atom a)) tt (says_equal_level l at (out-Atom a))

  says_entry_level : (entry : Atom) → Contains universe entry → (x : Atom-F Atom) → roll-Atom x ≡ entry → (a : Atom) → Says (entry_level entry x a)
  says_entry_level entry at Atom-F.None e a = says_none (subst (Contains universe) (sym e ∙ atom.rolls-None) at) (out-Atom a)
  says_entry_level entry at other e a = says_equal entry at a

  says_entry : (entry : Atom) → Contains universe entry → (a : Atom) → Says (entry_row entry a)
  says_entry entry at a = says_entry_level entry at (out-Atom entry) (roll-out-Atom entry) a

  says_either : (b : Bool) → Says (either_or_true b)
  says_either true = tt
  says_either false = tt

  says_truth_of : (b : Bool) → Says (true_or_false b)
  says_truth_of true = tt
  says_truth_of false = tt

  module _ (classes : List ClassRow) where
    says_literal_level : (l : Atom) → Contains universe l → (x : Atom-F Atom) → Says (literal_level classes l x)
    says_literal_level l at Atom-F.Unknown = one_within l at
    says_literal_level l at (Atom-F.Inst class) = says_if (is_over classes (class_of l) class) (becomes (l ∷ [])) only_false (one_within l at) tt
    says_literal_level l at other = tt

    says_literal : (l : Atom) → Contains universe l → (a : Atom) → Says (literal_row classes l a)
    says_literal l at a = says_if (same a l) only_true (literal_level classes l (out-Atom a)) tt (says_literal_level l at (out-Atom a))

    says_class : (make : ClassId → List Atom) (listed : List ClassId) → IsInside (flat_map make listed) universe → (class : ClassId) → Says (class_row classes make listed class)
    says_class make listed made class =
        let below = filter (λ low. is_sub_of classes low class) listed in
        says_if (is_open_of classes class && has_some listed) on_both (if list_any (is_sub_of classes class) listed then only_true else becomes (flat_map make below)) tt
        (says_if (list_any (is_sub_of classes class) listed) only_true (becomes (flat_map make below)) tt
        (λ b at. made b (flat_rises make below listed (kept_of_filter (λ low. is_sub_of classes low class) listed) b at)))

    says_subclass : (listed : List ClassId) → IsInside (flat_map class_itself listed) universe → (x : Atom-F Atom) → Says (subclass_row classes listed x)
    says_subclass listed made (Atom-F.Class class) = says_class class_itself listed made class
    says_subclass listed made Atom-F.Unknown = made
    says_subclass listed made other = tt

    says_callable_class : (class : Option ClassId) → Says (callable_class classes class)
    says_callable_class None = tt
    says_callable_class (Some class) = says_if (can_be_called classes class) only_true only_false tt tt

    says_callable : (a : Atom) (x : Atom-F Atom) → Says (callable_level classes a x)
    says_callable a x = says_if (is_object x) on_both (callable_class classes (class_of a)) tt (says_callable_class (class_of a))

    says_known : (type : List Atom) → IsInside type universe → (a : Atom) → Says (known_row classes type a)
    says_known type made a =
        says_if (list_any (is_under classes a) type) only_true (becomes (filter (λ t. is_under classes t a) type)) tt
        (λ b at. made b (kept_of_filter (λ t. is_under classes t a) type b at))

    says_guard_both : (type : List Atom) → IsInside type universe → (a : Atom) (x : Atom-F Atom) → Says (guard_both_level classes type a x)
    says_guard_both type made a Atom-F.Unknown = made
    says_guard_both type made a other = says_known type made a

    says_literal_truth : (value : Literal) → Says (literal_truth classes value)
    says_literal_truth (literal.Int z) = says_truth_of (not (is_zero z))
    says_literal_truth (literal.Bool b) = says_truth_of b
    says_literal_truth (literal.Str t) = says_truth_of (has_some t)
    says_literal_truth (literal.Bytes bs) = says_truth_of (has_some bs)
    says_literal_truth (literal.Member class place) = says_either (is_either classes class)

    says_instance_truth : IsInside falsy_literals universe → (class : ClassId) → Says (instance_truth classes class)
    says_instance_truth made class =
        let zero_atom = atom.Lit (literal.Int (pos 0)) in
        let text_atom = atom.Lit (literal.Str []) in
        let bytes_atom = atom.Lit (literal.Bytes []) in
        let zero = made zero_atom (first_in zero_atom (text_atom ∷ bytes_atom ∷ [])) in
        let text = made text_atom (later_in zero_atom (text_atom ∷ bytes_atom ∷ []) text_atom (first_in text_atom (bytes_atom ∷ []))) in
        let bytes = made bytes_atom (later_in zero_atom (text_atom ∷ bytes_atom ∷ []) bytes_atom (later_in text_atom (bytes_atom ∷ []) bytes_atom (first_in bytes_atom []))) in
        says_if (is_class class builtin.Int) _ _ (one_within zero_atom zero)
        (says_if (is_class class builtin.Str) _ _ (one_within text_atom text)
        (says_if (is_class class builtin.Bytes) _ _ (one_within bytes_atom bytes) (says_either (is_class class builtin.Object || is_either classes class))))

    says_truth : IsInside falsy_literals universe → (x : Atom-F Atom) → Says (truth_row classes x)
    says_truth made Atom-F.None = tt
    says_truth made (Atom-F.Lit value) = says_literal_truth value
    says_truth made (Atom-F.Inst class) = says_instance_truth made class
    says_truth made (Atom-F.Site site) = says_either (not (is_class site.class builtin.Function))
    says_truth made (Atom-F.Gen class slots) = tt
    says_truth made (Atom-F.Super class) = tt
    says_truth made (Atom-F.Mod name) = tt
    says_truth made (Atom-F.Special name) = tt
    says_truth made Atom-F.Unknown = tt
    says_truth made other = tt

    module _ (names : NameTable) where
      says_instance : (listed : List ClassId) → IsInside (flat_map (instances names) listed) universe → (class : Option ClassId) → Says (instance_row classes names listed class)
      says_instance listed made (Some class) = says_class (instances names) listed made class
      says_instance listed made None = made

      says_exact : (t : ClassId) → IsInside (instances names t) universe → (class : Option ClassId) → Says (exact_row classes names t class)
      says_exact t made (Some class) =
          says_if (is_open_of classes class || (class.0 == t.0)) on_both (if is_sub_of classes t class then becomes (instances names t) else only_false) tt
          (says_if (is_sub_of classes t class) (becomes (instances names t)) only_false made tt)
      says_exact t made None = made

  module _ (types : (xs : List Atom) → HaveSame (type_of xs) xs) where
    instead_within : (atoms : List Atom) (a : Atom) → IsInside atoms universe → IsInside (members (instead_of atoms) a) universe
    instead_within [] a h = none_within
    instead_within (b ∷ atoms) a h = λ c at. h c ((types (b ∷ atoms)).0 c at)

    row_within : (row : Row) (a : Atom) → Contains universe a → Says row → (positive : Bool) → IsInside (members (side positive row) a) universe
    row_within only_true a at says true = one_within a at
    row_within only_true a at says false = none_within
    row_within only_false a at says true = none_within
    row_within only_false a at says false = one_within a at
    row_within on_both a at says positive = one_within a at
    row_within (becomes atoms) a at says true = instead_within atoms a says
    row_within (becomes atoms) a at says false = one_within a at
    row_within (leaves atoms) a at says true = one_within a at
    row_within (leaves atoms) a at says false = instead_within atoms a says

    -- each side of a test keeps a member inside
    abbrev pub StaysIn : (Bool → Atom → Kept) → Type 0
    StaysIn keeps = (a : Atom) → Contains universe a → (positive : Bool) → IsInside (members (keeps positive a) a) universe

    abbrev pub StayIn : List (Bool → Atom → Kept) → Type 0
    StayIn [] = Unit {0}
    StayIn (test ∷ tests) = StaysIn test × StayIn tests

    entries_within : (entries : List Atom) → IsInside entries universe → StayIn (map entry_keeps entries)
    entries_within [] made = tt
    entries_within (entry ∷ entries) made = (
      λ a at. row_within (entry_row entry a) a at (says_entry entry (made entry (first_in entry entries)) a),
      entries_within entries (λ b at. made b (later_in entry entries b at)),
    )

    both_within : (a : Atom) (one other : Kept) → IsInside (members one a) universe → IsInside (members other a) universe → IsInside (members (both a one other) a) universe
    both_within a one other h k b at = elim (Contains-append_cases (members one a) (members other a) b ((both_same types a one other).0 b at)) [
      | inl first ↦ h b first
      | inr second ↦ k b second
    ]

    each_within : (keeps : Atom → Kept) → ((b : Atom) → Contains universe b → IsInside (members (keeps b) b) universe) → (a : Atom) (left : Kept) → IsInside (members left a) universe
        → IsInside (members (of_kept keeps a left) a) universe
    each_within keeps h a left k b at =
        flat_all (Contains universe) (λ c. members (keeps c) c) (members left a) (λ c d i j. h c (k c i) d j) b ((of_kept_same types keeps a left).0 b at)

    any_within : (tests : List (Bool → Atom → Kept)) → StayIn tests → (a : Atom) → Contains universe a → (so_far : Kept) → IsInside (members so_far a) universe → IsInside (members (any_true tests a so_far) a) universe
    any_within [] each a at so_far h = h
    any_within (test ∷ tests) each a at so_far h = any_within tests each.1 a at (both a so_far (test true a)) (both_within a so_far (test true a) h (each.0 a at true))

    all_within : (tests : List (Bool → Atom → Kept)) → StayIn tests → (a : Atom) (left : Kept) → IsInside (members left a) universe → IsInside (members (all_false tests a left) a) universe
    all_within [] each a left h = h
    all_within (test ∷ tests) each a left h = all_within tests each.1 a (of_kept (test false) a left) (each_within (test false) (λ b at. each.0 b at false) a left h)

    several_within : (tests : List (Bool → Atom → Kept)) → StayIn tests → StaysIn (several tests)
    several_within tests each a at true = any_within tests each a at Nothing none_within
    several_within tests each a at false = all_within tests each a Itself (one_within a at)

    set_within : (keeps : Atom → Kept) → ((b : Atom) → Contains universe b → IsInside (members (keeps b) b) universe) → (a : Atom) → Contains universe a → (atoms : List Atom) → IsInside atoms universe
        → IsInside (members (as_set keeps a atoms) a) universe
    set_within keeps h a at [] inside = h a at
    set_within keeps h a at (c ∷ atoms) inside = each_within keeps h a (Others (c ∷ atoms)) inside

    module _ (classes : List ClassRow) (names : NameTable) (sets : HasSets names universe) where
      abbrev C : Type 0
      C = Bool → Atom → Kept

      abbrev Told : Test → Type 0
      Told t = IsInside (made_by names t) universe → StaysIn (kept classes names t)

      abbrev Known : Type 0
      Known = (t : Test) × Told t

      abbrev below : Test-F Known → Test-F Test
      below = map-Test Known Test (λ t. t.0)

      abbrev level : Test-F Test → Bool → Atom → Kept
      level x = step classes names (map-Test Test C (kept classes names) x)

      abbrev made_level : Test-F Test → List Atom
      made_level x = made_step names (map-Test Test (List Atom) (made_by names) x)

      known_all : (tests : List Known) → IsInside (flat_map (λ made. made) (map (made_by names) (map (λ t. t.0) tests))) universe → StayIn (map (kept classes names) (map (λ t. t.0) tests))
      known_all [] made = tt
      known_all (t ∷ tests) made =
          let rest = map (made_by names) (map (λ u. u.0) tests) in
          let e = flat_map-cons (λ more. more) (made_by names t.0) rest in (
            t.1 (λ b at. made b (subst (λ bs. Contains bs b) (sym e) (Contains-append_left (made_by names t.0) (flat_map (λ more. more) rest) b at))),
            known_all tests (λ b at. made b (subst (λ bs. Contains bs b) (sym e) (Contains-append_right (made_by names t.0) (flat_map (λ more. more) rest) b at))),
          )

      one_class : (class : ClassId) (b : Atom) → Contains (flat_map (instances names) (class ∷ [])) b → Contains (instances names class) b
      one_class class b h = subst (λ bs. Contains bs b) (flat_map-cons (instances names) class [] ∙ append-nil (instances names class)) h

      swapped_within : (keeps : Bool → Atom → Kept) → StaysIn keeps → StaysIn (λ positive. keeps (not positive))
      swapped_within keeps h a at positive = h a at (not positive)

      parts_within : (class : ClassId) → IsInside (instances names class) universe → (a : Atom) → Contains universe a → (positive : Bool)
          → IsInside (members (step classes names (Test-F.WithParts class) positive a) a) universe
      parts_within class made a at true =
          row_within (instance_row classes names (class ∷ []) (class_of a)) a at (says_instance classes names (class ∷ []) (λ b h. made b (one_class class b h)) (class_of a)) true
      parts_within class made a at false = one_within a at

      step_within : (y : Test-F Known) → IsInside (made_level (below y)) universe → StaysIn (level (below y))
      step_within Test-F.IsNone made a at positive = row_within _ a at (says_none (made atom.None (first_in atom.None [])) (out-Atom a)) positive
      step_within (Test-F.IsLit l) made a at positive = row_within _ a at (says_literal classes l (made l (first_in l [])) a) positive
      step_within (Test-F.EqualsLit l) made a at positive = row_within _ a at (says_equal l (made l (first_in l [])) a) positive
      step_within (Test-F.Instance listed) made a at positive = row_within _ a at (says_instance classes names listed made (class_of a)) positive
      step_within (Test-F.Subclass listed) made a at positive = row_within _ a at (says_subclass classes listed made (out-Atom a)) positive
      step_within (Test-F.ExactClass class) made a at positive = row_within _ a at (says_exact classes names class made (class_of a)) positive
      step_within Test-F.CanCall made a at positive = row_within _ a at (says_callable classes a (out-Atom a)) positive
      step_within (Test-F.Guard type) made a at positive = row_within (becomes type) a at made positive
      step_within (Test-F.GuardBoth type) made a at positive = row_within _ a at (says_guard_both classes type made a (out-Atom a)) positive
      step_within Test-F.Truthy made a at positive = row_within _ a at (says_truth classes made (out-Atom a)) positive
      step_within (Test-F.Within entries) made a at positive = several_within (map entry_keeps entries) (entries_within entries made) a at positive
      step_within (Test-F.Swapped t) made a at positive = swapped_within (kept classes names t.0) (t.1 made) a at positive
      step_within Test-F.KeepBoth made a at positive = one_within a at
      step_within Test-F.KeepTrue made a at positive = row_within only_true a at tt positive
      step_within (Test-F.WithParts class) made a at positive = parts_within class made a at positive
      step_within (Test-F.Either tests) made a at positive = several_within (map (kept classes names) (map (λ t. t.0) tests)) (known_all tests made) a at positive

      level_within : (keeps : Bool → Atom → Kept) → StaysIn keeps → (a : Atom) → Contains universe a → (x : Atom-F Atom) → IsInside (level_set names x) universe → (positive : Bool)
          → IsInside (members (level_kept names (keeps positive) a x) a) universe
      level_within keeps h a at Atom-F.Unbound inside positive = one_within a at
      level_within keeps h a at Atom-F.Open inside positive = one_within a at
      level_within keeps h a at Atom-F.Here inside positive = one_within a at
      level_within keeps h a at (Atom-F.Inst class) inside positive = set_within (keeps positive) (λ b i. h b i positive) a at (set_members names class) inside
      level_within keeps h a at other inside positive = h a at positive

      kept_roll : (x : Test-F Test) → kept classes names (roll-Test x) ≡ whole_step classes names (map-Test Test C (kept classes names) x)
      unfolding kept
      kept_roll x = fold-roll-Test C (whole_step classes names) x

      made_roll : (x : Test-F Test) → made_by names (roll-Test x) ≡ made_level x
      unfolding made_by
      made_roll x = fold-roll-Test (List Atom) (made_step names) x

      stays_in : (t : Test) → Told t
      stays_in = ind-Test Told (λ x y below_is made a at positive.
          subst (λ keeps. IsInside (members (keeps positive a) a) universe) (sym (kept_roll x))
          (subst (λ z. IsInside (members (whole_step classes names (map-Test Test C (kept classes names) z) positive a) a) universe) below_is
          (level_within (level (below y)) (step_within y (subst (λ z. IsInside (made_level z) universe) (sym below_is) (subst (λ atoms. IsInside atoms universe) (made_roll x) made)))
          a at (out-Atom a) (sets a at) positive)))

      pub narrowed_within : (t : Test) → IsInside (made_by names t) universe → (positive : Bool) (type : List Atom) → IsInside type universe → IsInside (narrowed classes names t positive type) universe
      narrowed_within t made positive type inside b at =
          flat_all (Contains universe) (keep classes names t positive) type (λ a c i k. stays_in t made a (inside a i) positive c k) b
          ((types (flat_map (keep classes names t positive) type)).0 b at)
