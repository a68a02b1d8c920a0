-- What a test keeps, opened by one level, and what several tests keep.
use Rattle.std.proofs.Common.{◌≡◌, ℕ, ◌+◌, ◌<◌, Bool, true, false, not, Result, List, [], ◌∷◌, ◌≤◌, length, get_or, drop, map, refl, sym, ap, subst, ◌∙◌}
use Rattle.std.proofs.lemmas.List.{drop_more, drop_all}
use Rattle.type_terms.specs.declared.atom.Atom.{Atom, out-Atom}
use Rattle.type_terms.specs.declared.narrowing.Test.{Test, fold-Test, fold-roll-Test, map-Test, out-Test, roll-out-Test}
use Rattle.type_terms.specs.declared.narrowing.Test.TheVariants as test
use Rattle.narrow_rules.proofs.OutOfTest.{out-Swapped, out-Either}
use Rattle.std.specs.Prelude.{IfOk}
use Rattle.type_terms.specs.Facts.{NameTable}
use Rattle.class_rows.specs.Rows.{ClassRow}
use Rattle.narrow_rules.specs.declared.sides.Kept.{Kept}
use Rattle.narrow_rules.specs.declared.sides.Kept.TheVariants.{Itself, Nothing, Others}
use Rattle.narrow_rules.specs.Keep.{IsOthers, both, of_kept, of_each, any_true, all_false, several, step, level_kept, whole_step, kept, by_table}

pub kept_level : (classes : List ClassRow) (names : NameTable) (test : Test) (positive : Bool) (a : Atom)
    → kept classes names test positive a ≡ level_kept names (by_table classes names test positive) a (out-Atom a)
unfolding kept by_table
kept_level classes names test positive a =
    ap (λ t. fold-Test (Bool → Atom → Kept) (whole_step classes names) t positive a) (sym (roll-out-Test test))
    ∙ ap (λ k. k positive a) (fold-roll-Test (Bool → Atom → Kept) (whole_step classes names) (out-Test test))

-- the rows of a swapped test and of alternatives
pub by_swapped : (classes : List ClassRow) (names : NameTable) (t : Test) (positive : Bool) → by_table classes names (test.Swapped t) positive ≡ kept classes names t (not positive)
unfolding by_table
by_swapped classes names t positive = ap (λ x. step classes names (map-Test Test (Bool → Atom → Kept) (kept classes names) x) positive) (out-Swapped t)

pub by_either : (classes : List ClassRow) (names : NameTable) (tests : List Test) (positive : Bool) → by_table classes names (test.Either tests) positive ≡ several (map (kept classes names) tests) positive
unfolding by_table
by_either classes names tests positive = ap (λ x. step classes names (map-Test Test (Bool → Atom → Kept) (kept classes names) x) positive) (out-Either tests)

pub either_side : {E : Type 0} (classes : List ClassRow) (names : NameTable) (t : Test) (tests : List Test) (positive side : Bool) (a : Atom) (r : Result Kept E) → t ≡ test.Either tests → positive ≡ side
    → IfOk r (λ k. k ≡ several (map (kept classes names) tests) side a) → IfOk r (λ k. k ≡ by_table classes names t positive a)
either_side classes names t tests positive side a r is at value =
    let e = ap (λ u. by_table classes names u positive a) is ∙ ap (λ keeps. keeps a) (by_either classes names tests positive) ∙ ap (λ b. several (map (kept classes names) tests) b a) at in
    subst (λ k. IfOk r (λ left. left ≡ k)) (sym e) value

-- others stay others
pub both-others : (a : Atom) (one other : Kept) → IsOthers other → IsOthers (both a one other)
both-others a Nothing other o = o
both-others a Itself Itself o = elim o [ ]
both-others a Itself Nothing o = elim o [ ]
both-others a (Others more) Itself o = elim o [ ]
both-others a (Others more) Nothing o = elim o [ ]
both-others a Itself (Others type) o = o
both-others a (Others more) (Others type) o = o

pub both-so_far : (a : Atom) (one other : Kept) → IsOthers one → IsOthers (both a one other)
both-so_far a Itself other o = elim o [ ]
both-so_far a Nothing other o = elim o [ ]
both-so_far a (Others type) Nothing o = o
both-so_far a (Others type) Itself o = o
both-so_far a (Others type) (Others more) o = o

pub any_true-others : (tests : List (Bool → Atom → Kept)) (a : Atom) (so_far : Kept) → IsOthers so_far → IsOthers (any_true tests a so_far)
any_true-others [] a so_far o = o
any_true-others (test ∷ tests) a so_far o = any_true-others tests a (both a so_far (test true a)) (both-so_far a so_far (test true a) o)

pub all_false-others : (tests : List (Bool → Atom → Kept)) (a : Atom) (so_far : Kept) → IsOthers so_far → IsOthers (all_false tests a so_far)
all_false-others [] a so_far o = o
all_false-others (test ∷ tests) a Itself o = elim o [ ]
all_false-others (test ∷ tests) a Nothing o = elim o [ ]
all_false-others (test ∷ tests) a (Others type) o = all_false-others tests a (of_each (test false) type) o

-- nothing stays nothing
pub all_false-nothing : (tests : List (Bool → Atom → Kept)) (a : Atom) → all_false tests a Nothing ≡ Nothing
all_false-nothing [] a = refl
all_false-nothing (test ∷ tests) a = all_false-nothing tests a

-- one test more of several
module _ {T : Type 0} (keeps : T → Bool → Atom → Kept) (tests : List T) (i : ℕ) (x : T) (a : Atom) where
  next : i < length tests → x ≡ get_or tests i x → map keeps (drop i tests) ≡ keeps x ∷ map keeps (drop (i + 1) tests)
  next within is = ap (map keeps) (drop_more tests i x within ∙ ap (λ y. y ∷ drop (i + 1) tests) (sym is))

  pub any_more : (so_far more new whole : Kept) → i < length tests → x ≡ get_or tests i x → any_true (map keeps (drop i tests)) a so_far ≡ whole
      → more ≡ keeps x true a → new ≡ both a so_far more → any_true (map keeps (drop (i + 1) tests)) a new ≡ whole
  any_more so_far more new whole within is so e f =
      ap (any_true (map keeps (drop (i + 1) tests)) a) (f ∙ ap (both a so_far) e) ∙ sym (ap (λ ts. any_true ts a so_far) (next within is)) ∙ so

  pub any_failed : (so_far whole : Kept) → i < length tests → x ≡ get_or tests i x → any_true (map keeps (drop i tests)) a so_far ≡ whole
      → IsOthers (both a so_far (keeps x true a)) → IsOthers whole
  any_failed so_far whole within is so o =
      subst IsOthers (sym (ap (λ ts. any_true ts a so_far) (next within is)) ∙ so) (any_true-others (map keeps (drop (i + 1) tests)) a (both a so_far (keeps x true a)) o)

  pub all_more : (left new whole : Kept) → i < length tests → x ≡ get_or tests i x → all_false (map keeps (drop i tests)) a left ≡ whole
      → new ≡ of_kept (keeps x false) a left → all_false (map keeps (drop (i + 1) tests)) a new ≡ whole
  all_more left new whole within is so e =
      ap (all_false (map keeps (drop (i + 1) tests)) a) e ∙ sym (ap (λ ts. all_false ts a left) (next within is)) ∙ so

  pub all_failed : (left whole : Kept) → i < length tests → x ≡ get_or tests i x → all_false (map keeps (drop i tests)) a left ≡ whole
      → IsOthers (of_kept (keeps x false) a left) → IsOthers whole
  all_failed left whole within is so o =
      subst IsOthers (sym (ap (λ ts. all_false ts a left) (next within is)) ∙ so) (all_false-others (map keeps (drop (i + 1) tests)) a (of_kept (keeps x false) a left) o)

module _ {T : Type 0} (keeps : T → Bool → Atom → Kept) (tests : List T) (i : ℕ) (a : Atom) where
  pub any_done : (so_far whole : Kept) → length tests ≤ i → any_true (map keeps (drop i tests)) a so_far ≡ whole → so_far ≡ whole
  any_done so_far whole past so = sym (ap (λ ts. any_true (map keeps ts) a so_far) (drop_all i tests past)) ∙ so

  pub all_done : (left whole : Kept) → length tests ≤ i → all_false (map keeps (drop i tests)) a left ≡ whole → left ≡ whole
  all_done left whole past so = sym (ap (λ ts. all_false (map keeps ts) a left) (drop_all i tests past)) ∙ so
