-- What a merge says of the classes in it, and what follows for a table that grows by a row.
use Rattle.std.proofs.Common.{◌≡◌, ◌==◌, ◌<◌, ◌≤◌, ℕ, Bool, true, not, cond, List, [], ◌∷◌, map, get_or, refl, ⊎_elim, subst, sym, ap, ◌∙◌, arith}
use Rattle.std.specs.Prelude.{Some, All, find}
use Rattle.std.proofs.lemmas.List.Elements.{All-nil, All-cons, All-head, All-tail, All-map, All-filter, filter_passes}
use Rattle.std.proofs.lemmas.Bool.{cases_Bool, cond-true, cond-false, eqb-true}
use Rattle.std.proofs.lemmas.Bool.Decides.{nat_tests}
use Rattle.py_base.specs.declared.ids.ClassId.{ClassId}
use Rattle.class_rows.specs.Merge.{heads, is_good, without, IsMerge}
use Rattle.class_rows.specs.Waits.{AreBelow, occurrences}
use Rattle.class_rows.proofs.Counting.{occurrences_cons}

module _ (P : ClassId → Type 0) where
  -- what is found among the heads of lists is one of their classes
  found_all : (p : ClassId → Bool) (c : ClassId) (lists : List (List ClassId)) → find p (heads lists) ≡ Some c → All (All P) lists → P c
  found_all p c [] e all = absurd (cc)
  found_all p c ([] ∷ lists) e all = found_all p c lists e (All-tail (All P) [] lists all)
  found_all p c ((d ∷ list) ∷ lists) e all =
      ⊎_elim
      (λ yes. let same : d ≡ c = let f = sym (cond-true (p d) (Some d) (find p (heads lists)) yes) ∙ e in cc in subst P same (All-head P d list (All-head (All P) (d ∷ list) lists all)))
      (λ no. found_all p c lists (sym (cond-false (p d) (Some d) (find p (heads lists)) no) ∙ e) (All-tail (All P) (d ∷ list) lists all))
      (cases_Bool (p d))

  all_without : (c : ClassId) (lists : List (List ClassId)) → All (All P) lists → All (All P) (map (without c) lists)
  all_without c lists all =
      All-map (All P) (without c) lists (λ k d within. All-filter (λ x. not (x.0 == c.0)) P (get_or lists k d) (all k d within))

  -- what holds of each class of the lists holds of each class of their merge
  pub merge_all : (order : List ClassId) (lists : List (List ClassId)) → IsMerge lists order → All (All P) lists → All P order
  merge_all [] lists m all = All-nil P
  merge_all (c ∷ order) lists m all =
      All-cons P c order (found_all (is_good lists) c lists m.0 all) (merge_all order (map (without c) lists) m.1 (all_without c lists all))

-- a class that differs from each of a list doesn't occur in it
none_occurs : (n : ℕ) (list : List ClassId) → All (λ d. not (d.0 == n) ≡ true) list → occurrences n list ≡ 0
none_occurs n [] all = refl
none_occurs n (d ∷ list) all =
    let differs = All-head (λ (x : ClassId). not (x.0 == n) ≡ true) d list all in
    let rest = none_occurs n list (All-tail (λ (x : ClassId). not (x.0 == n) ≡ true) d list all) in
    let step = occurrences_cons n d list in
    grind (arith, nat_tests)

lacks_itself : (c : ClassId) (lists : List (List ClassId)) → All (All (λ d. not (d.0 == c.0) ≡ true)) (map (without c) lists)
lacks_itself c lists = All-map (All (λ (d : ClassId). not (d.0 == c.0) ≡ true)) (without c) lists (λ k d within. filter_passes (λ (x : ClassId). not (x.0 == c.0)) (get_or lists k d))

-- no class comes twice in a merge
pub merge_once : (n : ℕ) (order : List ClassId) (lists : List (List ClassId)) → IsMerge lists order → occurrences n order ≤ 1
merge_once n [] lists m = omega arith
merge_once n (c ∷ order) lists m =
    let step = occurrences_cons n c order in
    ⊎_elim
    (λ same.
    let none : occurrences c.0 order ≡ 0 = none_occurs c.0 order (merge_all (λ d. not (d.0 == c.0) ≡ true) order (map (without c) lists) m.1 (lacks_itself c lists)) in
    let one : ◌≡◌ {A = ℕ} (cond (c.0 == n) 1 0) 1 = ap (λ b. cond b 1 0) same in
    omega (arith, step, one, none, ap (λ k. occurrences k order) (eqb-true c.0 n same)))
    (λ other.
    let zero : ◌≡◌ {A = ℕ} (cond (c.0 == n) 1 0) 0 = ap (λ b. cond b 1 0) other in
    omega (arith, step, zero, merge_once n order (map (without c) lists) m.1))
    (cases_Bool (c.0 == n))

-- a class at or above a number doesn't occur among classes below it
pub below_lacks : (n : ℕ) (list : List ClassId) → AreBelow n list → occurrences n list ≡ 0
below_lacks n list below = none_occurs n list (λ k d within. differs (get_or list k d).0 (below k d within))
  where
    differs : (m : ℕ) → m < n → not (m == n) ≡ true
    differs m less = grind (arith, nat_tests)
