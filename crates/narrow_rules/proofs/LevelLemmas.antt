-- Swapped tests and alternatives, opened by one level.
use Rattle.std.proofs.Common.{◌≡◌, ℕ, zero, suc, ◌+◌, Bool, true, false, not, List, [], ◌∷◌, ◌++◌, map, inl, inr, ◌⊎◌, refl, sym, ap, subst, ◌∙◌}
use Rattle.std.specs.Prelude.{if◌then◌else◌}
use Rattle.std.specs.List.{flat_map}
use Rattle.std.proofs.lemmas.List.{map-append}
use Rattle.std.proofs.lemmas.List.Concat.{flat_map-cons}
use Rattle.py_base.specs.declared.ids.ClassId.{ClassId}
use Rattle.py_base.specs.declared.builtin.Builtin.TheVariants as builtin
use Rattle.type_terms.specs.declared.literal.Literal.{Literal}
use Rattle.type_terms.specs.declared.literal.Literal.TheVariants as literal
use Rattle.type_terms.specs.declared.atom.Atom.{Atom, out-Atom}
use Rattle.type_terms.specs.declared.atom.Atom.TheVariants as atom
use Rattle.type_terms.specs.declared.atom.Atom.TheOpen.{Atom-F}
use Rattle.type_terms.specs.declared.narrowing.Test.{Test}
use Rattle.type_terms.specs.declared.narrowing.Test.TheVariants as test
use Rattle.type_terms.specs.Facts.{NameTable}
use Rattle.type_terms.specs.Types.{type_of, both_bools}
use Rattle.type_terms.specs.Widen.{members_from, all_members}
use Rattle.class_rows.specs.Rows.{ClassRow}
use Rattle.narrow_rules.specs.declared.sides.Kept.{Kept}
use Rattle.narrow_rules.specs.declared.sides.Kept.TheVariants.{Itself, Nothing, Others}
use Rattle.narrow_rules.specs.Ground.{is_class, set_members}
use Rattle.narrow_rules.specs.Keep.{members, both, of_kept, any_true, all_false, several, as_set, level_set, set_of, level_kept, kept, by_table, keep}
use Rattle.narrow_rules.specs.Laws.{HaveSame}
use Rattle.narrow_rules.proofs.KeptLemmas.{kept_level, by_swapped, by_either}
use Rattle.narrow_rules.proofs.MemberLemmas.{same_twice, both_same, of_kept_same}
use Rattle.narrow_rules.proofs.OutOf.{out-Lit}

-- what holds of each of some atoms
abbrev AreAll : (Atom → Type 0) → List Atom → Type 0
AreAll P [] = Unit {0}
AreAll P (a ∷ atoms) = P a × AreAll P atoms

all_from : (P : Atom → Type 0) → ((value : Literal) → P (atom.Lit value)) → (class : ClassId) (place count : ℕ) → AreAll P (members_from class place count)
all_from P each class place zero = tt
all_from P each class place (suc more) = (each (literal.Member class place), all_from P each class (place + 1) more)

all_either : (P : Atom → Type 0) (b : Bool) (xs ys : List Atom) → AreAll P xs → AreAll P ys → AreAll P (if b then xs else ys)
all_either P true xs ys h k = h
all_either P false xs ys h k = k

-- the members of a set are literals
all_of_set : (P : Atom → Type 0) → ((value : Literal) → P (atom.Lit value)) → (names : NameTable) (class : ClassId) → AreAll P (set_members names class)
all_of_set P each names class =
    all_either P (is_class class builtin.Bool) both_bools (all_members names class) (each (literal.Bool false), (each (literal.Bool true), tt)) (all_from P each class 0 _)

flat_equal : (f g : Atom → List Atom) (atoms : List Atom) → AreAll (λ b. f b ≡ g b) atoms → flat_map f atoms ≡ flat_map g atoms
flat_equal f g [] h = refl
flat_equal f g (a ∷ atoms) h =
    flat_map-cons f a atoms ∙ ap (λ xs. xs ++ flat_map f atoms) h.0 ∙ ap (λ ys. g a ++ ys) (flat_equal f g atoms h.1) ∙ sym (flat_map-cons g a atoms)

any_snoc : (tests : List (Bool → Atom → Kept)) (last : Bool → Atom → Kept) (a : Atom) (so_far : Kept) → any_true (tests ++ last ∷ []) a so_far ≡ both a (any_true tests a so_far) (last true a)
any_snoc [] last a so_far = refl
any_snoc (one ∷ tests) last a so_far = any_snoc tests last a (both a so_far (one true a))

all_snoc : (tests : List (Bool → Atom → Kept)) (last : Bool → Atom → Kept) (a : Atom) (left : Kept) → all_false (tests ++ last ∷ []) a left ≡ of_kept (last false) a (all_false tests a left)
all_snoc [] last a left = refl
all_snoc (one ∷ tests) last a left = all_snoc tests last a (of_kept (one false) a left)

module _ (classes : List ClassRow) (names : NameTable) where
  -- a literal is kept by the row
  at_literal : (t : Test) (positive : Bool) (value : Literal) → kept classes names t positive (atom.Lit value) ≡ by_table classes names t positive (atom.Lit value)
  at_literal t positive value =
      kept_level classes names t positive (atom.Lit value) ∙ ap (level_kept names (by_table classes names t positive) (atom.Lit value)) (out-Lit value)

  -- a set, and a mark, twice is once
  set_again : (t : Test) (positive : Bool) (a : Atom) (atoms : List Atom)
      → AreAll (λ b. members (kept classes names t positive b) b ≡ members (by_table classes names t positive b) b) atoms
      → kept classes names t positive a ≡ as_set (by_table classes names t positive) a atoms → as_set (kept classes names t positive) a atoms ≡ kept classes names t positive a
  set_again t positive a [] h e = refl
  set_again t positive a (b ∷ atoms) h e =
      ap (λ xs. Others (type_of xs)) (flat_equal (λ c. members (kept classes names t positive c) c) (λ c. members (by_table classes names t positive c) c) (b ∷ atoms) h) ∙ sym e

  level_again : (t : Test) (positive : Bool) (a : Atom) (x : Atom-F Atom) → kept classes names t positive a ≡ level_kept names (by_table classes names t positive) a x
      → level_kept names (kept classes names t positive) a x ≡ kept classes names t positive a
  level_again t positive a Atom-F.Unbound e = sym e
  level_again t positive a Atom-F.Open e = sym e
  level_again t positive a Atom-F.Here e = sym e
  level_again t positive a (Atom-F.Inst class) e =
      set_again t positive a (set_members names class)
      (all_of_set (λ b. members (kept classes names t positive b) b ≡ members (by_table classes names t positive b) b) (λ value. ap (λ k. members k (atom.Lit value)) (at_literal t positive value)) names class) e
  level_again t positive a other e = refl

  pub swapped : (t : Test) (positive : Bool) (a : Atom) → kept classes names (test.Swapped t) positive a ≡ kept classes names t (not positive) a
  swapped t positive a =
      kept_level classes names (test.Swapped t) positive a
      ∙ ap (λ keeps. level_kept names keeps a (out-Atom a)) (by_swapped classes names t positive)
      ∙ level_again t (not positive) a (out-Atom a) (kept_level classes names t (not positive) a)

  not_twice : (b : Bool) → not (not b) ≡ b
  not_twice true = refl
  not_twice false = refl

  pub swapped_twice : (t : Test) (positive : Bool) (a : Atom) → kept classes names (test.Swapped (test.Swapped t)) positive a ≡ kept classes names t positive a
  swapped_twice t positive a = swapped (test.Swapped t) positive a ∙ swapped t (not positive) a ∙ ap (λ b. kept classes names t b a) (not_twice positive)

  -- a member that is no set is kept whole by every test, or by the rows
  plain : (a : Atom) (x : Atom-F Atom) → level_set names x ≡ [] → ((keeps : Atom → Kept) → level_kept names keeps a x ≡ Itself) ⊎ ((keeps : Atom → Kept) → level_kept names keeps a x ≡ keeps a)
  plain a Atom-F.Unbound none = inl (λ keeps. refl)
  plain a Atom-F.Open none = inl (λ keeps. refl)
  plain a Atom-F.Here none = inl (λ keeps. refl)
  plain a (Atom-F.Inst class) none = inr (λ keeps. ap (as_set keeps a) none)
  plain a other none = inr (λ keeps. refl)

  whole : (a : Atom) → ((keeps : Atom → Kept) → level_kept names keeps a (out-Atom a) ≡ Itself) → (t : Test) (positive : Bool) → kept classes names t positive a ≡ Itself
  whole a h t positive = kept_level classes names t positive a ∙ h (by_table classes names t positive)

  by_rows : (a : Atom) → ((keeps : Atom → Kept) → level_kept names keeps a (out-Atom a) ≡ keeps a) → (t : Test) (positive : Bool) → kept classes names t positive a ≡ by_table classes names t positive a
  by_rows a h t positive = kept_level classes names t positive a ∙ h (by_table classes names t positive)

  alternatives : (a : Atom) → ((keeps : Atom → Kept) → level_kept names keeps a (out-Atom a) ≡ keeps a) → (tests : List Test) (positive : Bool)
      → kept classes names (test.Either tests) positive a ≡ several (map (kept classes names) tests) positive a
  alternatives a h tests positive = by_rows a h (test.Either tests) positive ∙ ap (λ keeps. keeps a) (by_either classes names tests positive)

  more_true : (a : Atom) → ((keeps : Atom → Kept) → level_kept names keeps a (out-Atom a) ≡ keeps a) → (tests : List Test) (t : Test)
      → kept classes names (test.Either (tests ++ t ∷ [])) true a ≡ both a (kept classes names (test.Either tests) true a) (kept classes names t true a)
  more_true a h tests t =
      alternatives a h (tests ++ t ∷ []) true
      ∙ ap (λ ks. any_true ks a Nothing) (map-append (kept classes names) tests (t ∷ []))
      ∙ any_snoc (map (kept classes names) tests) (kept classes names t) a Nothing
      ∙ ap (λ k. both a k (kept classes names t true a)) (sym (alternatives a h tests true))

  more_false : (a : Atom) → ((keeps : Atom → Kept) → level_kept names keeps a (out-Atom a) ≡ keeps a) → (tests : List Test) (t : Test)
      → kept classes names (test.Either (tests ++ t ∷ [])) false a ≡ of_kept (kept classes names t false) a (kept classes names (test.Either tests) false a)
  more_false a h tests t =
      alternatives a h (tests ++ t ∷ []) false
      ∙ ap (λ ks. all_false ks a Itself) (map-append (kept classes names) tests (t ∷ []))
      ∙ all_snoc (map (kept classes names) tests) (kept classes names t) a Itself
      ∙ ap (of_kept (kept classes names t false) a) (sym (alternatives a h tests false))

  pub nothing_tested : (a : Atom) → set_of names a ≡ [] → keep classes names (test.Either []) false a ≡ a ∷ []
  nothing_tested a none = elim (plain a (out-Atom a) none) [
    | inl mark ↦ ap (λ k. members k a) (whole a mark (test.Either []) false)
    | inr rows ↦ ap (λ k. members k a) (alternatives a rows [] false)
  ]

  module _ (types : (xs : List Atom) → HaveSame (type_of xs) xs) where
    pub joins : (tests : List Test) (t : Test) (a : Atom) → set_of names a ≡ []
        → HaveSame (keep classes names (test.Either (tests ++ t ∷ [])) true a) (keep classes names (test.Either tests) true a ++ keep classes names t true a)
    joins tests t a none = elim (plain a (out-Atom a) none) [
      | inl mark ↦ subst (λ k. HaveSame (members k a) (keep classes names (test.Either tests) true a ++ keep classes names t true a)) (sym (whole a mark (test.Either (tests ++ t ∷ [])) true))
          (subst (λ k. HaveSame (a ∷ []) (members k a ++ keep classes names t true a)) (sym (whole a mark (test.Either tests) true))
          (subst (λ k. HaveSame (a ∷ []) ((a ∷ []) ++ members k a)) (sym (whole a mark t true)) (same_twice a)))
      | inr rows ↦ subst (λ k. HaveSame (members k a) (keep classes names (test.Either tests) true a ++ keep classes names t true a)) (sym (more_true a rows tests t))
          (both_same types a (kept classes names (test.Either tests) true a) (kept classes names t true a))
    ]

    pub chains : (tests : List Test) (t : Test) (a : Atom) → set_of names a ≡ []
        → HaveSame (keep classes names (test.Either (tests ++ t ∷ [])) false a) (flat_map (keep classes names t false) (keep classes names (test.Either tests) false a))
    chains tests t a none = elim (plain a (out-Atom a) none) [
      | inl mark ↦
          let e = whole a mark (test.Either (tests ++ t ∷ [])) false ∙ sym (whole a mark t false) ∙ ap (of_kept (kept classes names t false) a) (sym (whole a mark (test.Either tests) false)) in
          subst (λ k. HaveSame (members k a) (flat_map (keep classes names t false) (keep classes names (test.Either tests) false a))) (sym e)
          (of_kept_same types (kept classes names t false) a (kept classes names (test.Either tests) false a))
      | inr rows ↦
          subst (λ k. HaveSame (members k a) (flat_map (keep classes names t false) (keep classes names (test.Either tests) false a))) (sym (more_false a rows tests t))
          (of_kept_same types (kept classes names t false) a (kept classes names (test.Either tests) false a))
    ]
