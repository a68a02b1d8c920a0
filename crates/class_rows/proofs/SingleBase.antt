-- A class with one base: the order of the base is the merge.
use Rattle.std.proofs.Common.{◌≡◌, ◌==◌, ◌<◌, ◌≤◌, ◌||◌, ℕ, Bool, true, false, not, cond, List, [], ◌∷◌, length, get_or, drop, refl, subst, sym, ap, arith}
use Rattle.std.specs.Prelude.{Some, slice_get, find}
use Rattle.std.proofs.lemmas.Bool.Decides.{nat_tests}
use Rattle.py_base.specs.declared.ids.ClassId.{ClassId}
use Rattle.class_rows.specs.Merge.{has, is_good, without, IsMerge}
use Rattle.class_rows.specs.Rows.{merged_lists}
use Rattle.class_rows.specs.Waits.{occurrences}
use Rattle.class_rows.proofs.Counting.{occurrences_cons, has_is}
use Rattle.class_rows.proofs.Picking.{head_some, without_head}

absent : (k : ℕ) (h : Bool) → h ≡ not (k == 0) → k ≡ 0 → h ≡ false
absent k h a b = grind (arith, nat_tests)

same_counts : (n : ℕ) → ◌≡◌ {A = ℕ} (cond (n == n) 1 0) 1
same_counts n = grind (arith, nat_tests)

-- the first of classes of which none comes twice doesn't come again
first_lacks : (c : ClassId) (list : List ClassId) → ((n : ℕ) → occurrences n (c ∷ list) ≤ 1) → has c list ≡ false
first_lacks c list once =
    absent (occurrences c.0 list) (has c list) (has_is c list) (omega (arith, once c.0, occurrences_cons c.0 c list, same_counts c.0))

rest_once : (c : ClassId) (list : List ClassId) → ((n : ℕ) → occurrences n (c ∷ list) ≤ 1) → (n : ℕ) → occurrences n list ≤ 1
rest_once c list once n = omega (arith, once n, occurrences_cons n c list)

-- a list beside an empty one
own_merge : (list : List ClassId) → ((n : ℕ) → occurrences n list ≤ 1) → IsMerge (list ∷ [] ∷ []) list
own_merge [] once = refl
own_merge (c ∷ list) once =
    let lacks = first_lacks c list once in
    let good : is_good ((c ∷ list) ∷ [] ∷ []) c ≡ true = ap (λ b. not (b || false)) lacks in
    let P : List ClassId → Type 0 = λ l. IsMerge (l ∷ [] ∷ []) list in
    (ap (λ b. cond b (Some c) (find (is_good ((c ∷ list) ∷ [] ∷ [])) [])) good, subst P (sym (without_head c list lacks)) (own_merge list (rest_once c list once)))

beside_itself : (c : ClassId) (list : List ClassId) → ((n : ℕ) → occurrences n (c ∷ list) ≤ 1) → IsMerge ((c ∷ list) ∷ (c ∷ []) ∷ []) (c ∷ list)
beside_itself c list once =
    let lacks = first_lacks c list once in
    let lists : List (List ClassId) = (c ∷ list) ∷ (c ∷ []) ∷ [] in
    let good : is_good lists c ≡ true = ap (λ b. not (b || false)) lacks in
    let P : List ClassId → Type 0 = λ l. IsMerge (l ∷ without c (c ∷ []) ∷ []) list in
    let Q : List ClassId → Type 0 = λ l. IsMerge (list ∷ l ∷ []) list in (
      ap (λ b. cond b (Some c) (find (is_good lists) (c ∷ []))) good,
      subst P (sym (without_head c list lacks)) (subst Q (sym (without_head c [] refl)) (own_merge list (rest_once c list once))),
    )

-- an order that begins with the base, beside the list of that base
pub single_merge : (c : ClassId) (order : List ClassId) → slice_get order 0 ≡ Some c → ((n : ℕ) → occurrences n order ≤ 1) → IsMerge (order ∷ (c ∷ []) ∷ []) order
single_merge c order first once =
    let P : List ClassId → Type 0 = λ l. IsMerge (l ∷ (c ∷ []) ∷ []) l in
    let Q : List ClassId → Type 0 = λ l. (n : ℕ) → occurrences n l ≤ 1 in
    let split = head_some c order first in
    subst P (sym split) (beside_itself c (drop 1 order) (subst Q split once))

-- the order of the one base is what its lists merge to
pub base_order : (f : ClassId → List ClassId) (bases : List ClassId) (d : ClassId) → 1 ≤ length bases → length bases < 2 → slice_get (f (get_or bases 0 d)) 0 ≡ Some (get_or bases 0 d)
    → ((n : ℕ) → occurrences n (f (get_or bases 0 d)) ≤ 1) → IsMerge (merged_lists f bases) (f (get_or bases 0 d))
base_order f [] d some few first once = absurd (omega (arith, some))
base_order f (c ∷ []) d some few first once = single_merge c (f c) first once
base_order f (c ∷ b ∷ bases) d some few first once = absurd (omega (arith, few))
