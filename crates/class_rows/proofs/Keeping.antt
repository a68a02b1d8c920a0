-- The laws of merges: there is at most one, and it keeps the order of each list.
use Rattle.std.proofs.Common.{◌≡◌, ◌==◌, false, List, [], ◌∷◌, map, drop, get_or, refl, inl, inr, ⊎_elim, subst, ap, ◌∙◌, arith}
use Rattle.std.specs.Prelude.{None, All, find}
use Rattle.std.proofs.lemmas.List.{get_or-map, length-map}
use Rattle.std.proofs.lemmas.List.Elements.{All-nil, All-cons}
use Rattle.std.proofs.lemmas.Bool.{cases_Bool, eqb-true}
use Rattle.py_base.specs.declared.ids.ClassId.{ClassId}
use Rattle.class_rows.specs.Merge.{has, heads, is_good, pick, without, IsMerge}
use Rattle.class_rows.specs.Laws.{IsPartOf, OneMerge, MergeKeeps}
use Rattle.class_rows.proofs.Picking.{good_tail, pick_good, without_head, without_other}

pub one_merge : OneMerge
one_merge lists [] [] m n = refl
one_merge lists [] (c ∷ b) m n = absurd (let e : pick lists ≡ None = ap (λ hs. find (is_good lists) hs) m in let f = n.0 in cc)
one_merge lists (c ∷ a) [] m n = absurd (let e : pick lists ≡ None = ap (λ hs. find (is_good lists) hs) n in let f = m.0 in cc)
one_merge lists (c ∷ a) (d ∷ b) m n =
    let same : c ≡ d = let e = m.0 in let f = n.0 in cc in
    let P : ClassId → Type 0 = λ x. IsMerge (map (without x) lists) a in
    ap (λ x. x ∷ a) same ∙ ap (λ rest. d ∷ rest) (one_merge (map (without d) lists) a b (subst P same m.1) n.1)

-- lists without heads are empty
all_empty : (lists : List (List ClassId)) → heads lists ≡ [] → All (λ list. IsPartOf list []) lists
all_empty [] e = All-nil (λ (list : List ClassId). IsPartOf list [])
all_empty ([] ∷ lists) e = All-cons (λ list. IsPartOf list []) [] lists tt (all_empty lists e)
all_empty ((c ∷ list) ∷ lists) e = absurd (cc)

-- one list, where the class is taken first
part_taken : (c : ClassId) (list order : List ClassId) → has c (drop 1 list) ≡ false → IsPartOf (without c list) order → IsPartOf list (c ∷ order)
part_taken c [] order e p = tt
part_taken c (d ∷ list) order e p =
    let P : List ClassId → Type 0 = λ part. IsPartOf part order in
    ⊎_elim
    (λ same.
    let is : d ≡ c = ap (λ n. record { 0 = n }) (eqb-true d.0 c.0 same) in
    let Q : ClassId → Type 0 = λ x. IsPartOf (without c (x ∷ list)) order in
    inl (is, subst P (without_head c list e) (subst Q is p)))
    (λ other. inr (subst P (without_other c d list other e) p))
    (cases_Bool (d.0 == c.0))

pub merge_keeps : MergeKeeps
merge_keeps lists [] m = all_empty lists m
merge_keeps lists (c ∷ order) m = λ k d within.
    let rest = merge_keeps (map (without c) lists) order m.1 k (without c d) (omega (arith, within, length-map lists (without c))) in
    let P : List ClassId → Type 0 = λ part. IsPartOf part order in
    part_taken c (get_or lists k d) order (good_tail lists c k d (pick_good lists c m.0) within) (subst P (get_or-map (without c) lists k d (without c d) within) rest)
