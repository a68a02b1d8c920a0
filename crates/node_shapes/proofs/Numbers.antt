-- Nodes in the order of their numbers, and the place of one among them.
use Rattle.std.proofs.Common.{◌≡◌, ℕ, ◌+◌, ◌<◌, ◌≤◌, ◌==◌, Bool, true, false, List, [], ◌∷◌, ◌++◌, length, get_or, sym, ap, subst, ◌∙◌, arith, if◌then◌else◌, inl, inr, ltb, cond}
use Rattle.std.specs.Prelude.{Some, None, slice_get, filter}
use Rattle.std.specs.List.Sorted.{IsPartitionPoint}
use Rattle.std.specs.List.{position_or_len}
use Rattle.std.proofs.lemmas.Bool.{eqb-false, ne_eqb, cases_lt, lt-ltb, le-ltb}
use Rattle.std.proofs.lemmas.List.Elements.{filter-append}
use Rattle.std.proofs.lemmas.List.Kept.{IsNonDecreasingBy-filter}
use Rattle.std.proofs.lemmas.List.Sums.{position_or_len_is, length-filter, count_by-le-length}
use Rattle.std.proofs.lemmas.Option.{get_or_from_slice_get, slice_get_within, slice_get_cases}
use Rattle.py_base.specs.declared.ids.NodeId.{NodeId}
use Rattle.node_shapes.specs.Items.{first_ids, number_among}
use Rattle.node_shapes.specs.Tables.{IsRising}
use Rattle.node_shapes.proofs.IdLists.{get-ids, length-ids, ids-next}

ids-rise : (n : ℕ) → IsRising (first_ids n)
ids-rise n i j d le lt =
    let within : j < n = subst (λ k. j < k) (length-ids n) lt in
    let at : (k : ℕ) → k < n → (get_or (first_ids n) k d).0 ≡ k = λ k h. ap (λ (x : NodeId). x.0) (get_or_from_slice_get (first_ids n) k (record { 0 = k }) d (get-ids n k h)) in
    omega (arith, at i (omega (arith, le, within)), at j within, le)

pub kept-rise : (passes : NodeId → Bool) (n : ℕ) → IsRising (filter passes (first_ids n))
kept-rise passes n = IsNonDecreasingBy-filter (λ (x : NodeId). x.0) passes (first_ids n) (ids-rise n)

-- the next number, if it passes
pub kept-next : (passes : NodeId → Bool) (n : ℕ) (old new : List NodeId) (b : Bool) → b ≡ passes (record { 0 = n }) → new ≡ old ++ (if b then record { 0 = n } ∷ [] else []) → old ≡ filter passes (first_ids n)
    → new ≡ filter passes (first_ids (n + 1))
kept-next passes n old new b is made before =
    made ∙ ap (λ l. l ++ (if b then record { 0 = n } ∷ [] else [])) before ∙ ap (λ l. filter passes (first_ids n) ++ l) (one b is)
    ∙ sym (ap (filter passes) (ids-next n) ∙ filter-append passes (first_ids n) (record { 0 = n } ∷ []))
  where
    one : (b : Bool) → b ≡ passes (record { 0 = n }) → (if b then record { 0 = n } ∷ [] else []) ≡ filter passes (record { 0 = n } ∷ [])
    one true e = sym (ap (λ t. if t then record { 0 = n } ∷ [] else []) (sym e))
    one false e = sym (ap (λ t. if t then record { 0 = n } ∷ [] else []) (sym e))

-- THE PLACE OF A NODE, by how many stand before it

before : (xs : List NodeId) (n : NodeId) (k : ℕ) → IsPartitionPoint (λ (p : NodeId). p.0 < n.0) (λ p. n.0 ≤ p.0) xs k → (i : ℕ) (d : NodeId) → i < k → ((get_or xs i d).0 == n.0) ≡ false
before xs n k parts i d lt = let less : (get_or xs i d).0 < n.0 = parts.0 i d (omega arith) lt in ne_eqb (get_or xs i d).0 n.0 (λ e. omega (arith, less, e))

pub found-number : (xs : List NodeId) (n : NodeId) (k : ℕ) (p : NodeId) → IsPartitionPoint (λ (p : NodeId). p.0 < n.0) (λ p. n.0 ≤ p.0) xs k → slice_get xs k ≡ Some p → (p.0 == n.0) ≡ true
    → number_among xs n ≡ Some k
found-number xs n k p parts here hit =
    let test : NodeId → Bool = λ x. x.0 == n.0 in
    let within = slice_get_within xs k p here in
    let first : position_or_len test xs ≡ k = position_or_len_is test xs k p (omega (arith, within)) (λ i lt. before xs n k parts i p lt) (λ h. ap test (get_or_from_slice_get xs k p p here) ∙ hit) in
    ap (λ m. cond (ltb m (length xs)) (Some m) None) first ∙ ap (λ b. cond b (Some k) None) (lt-ltb k (length xs) within)

no-number : (xs : List NodeId) (n : NodeId) → ((i : ℕ) (d : NodeId) → i < length xs → ((get_or xs i d).0 == n.0) ≡ false) → number_among xs n ≡ None
no-number xs n none =
    let test : NodeId → Bool = λ x. x.0 == n.0 in
    let all : position_or_len test xs ≡ length xs = position_or_len_is test xs (length xs) n (omega arith) (λ i lt. none i n lt) (λ h. absurd (omega (arith, h))) in
    ap (λ m. cond (ltb m (length xs)) (Some m) None) all ∙ ap (λ b. cond b (Some (length xs)) None) (le-ltb (length xs) (length xs) (omega arith))

pub past-number : (xs : List NodeId) (n : NodeId) (k : ℕ) → IsPartitionPoint (λ (p : NodeId). p.0 < n.0) (λ p. n.0 ≤ p.0) xs k → slice_get xs k ≡ None → number_among xs n ≡ None
past-number xs n k parts gone = no-number xs n (λ i d lt. before xs n k parts i d (past i lt))
  where
    past : (i : ℕ) → i < length xs → i < k
    past i lt = elim (slice_get_cases xs k).1 [
      | inl h ↦ absurd (cc (h.2, gone))
      | inr h ↦ omega (arith, h.0, lt)
    ]

pub other-number : (xs : List NodeId) (n : NodeId) (k : ℕ) (p : NodeId) → IsRising xs → IsPartitionPoint (λ (p : NodeId). p.0 < n.0) (λ p. n.0 ≤ p.0) xs k → slice_get xs k ≡ Some p → (p.0 == n.0) ≡ false
    → number_among xs n ≡ None
other-number xs n k p rising parts here miss = no-number xs n (λ i d lt. elim (cases_lt i k) [
  | inl h ↦ before xs n k parts i d h
  | inr h ↦
      let within = slice_get_within xs k p here in
      let at : (get_or xs k d).0 ≡ p.0 = ap (λ (x : NodeId). x.0) (get_or_from_slice_get xs k p d here) in
      let least : n.0 ≤ (get_or xs k d).0 = parts.1 k d (omega arith) within in
      let apart = eqb-false p.0 n.0 miss in
      let beyond : n.0 < p.0 = elim (cases_lt n.0 p.0) [ inl l ↦ l | inr g ↦ absurd (apart (omega (arith, g, at, least))) ] in
      let rise : (get_or xs k d).0 ≤ (get_or xs i d).0 = rising k i d (omega (arith, h)) lt in
      ne_eqb (get_or xs i d).0 n.0 (λ e. omega (arith, at, beyond, rise, e))
])

pub kept-few : (passes : NodeId → Bool) (n : ℕ) → length (filter passes (first_ids n)) ≤ n
kept-few passes n = omega (arith, length-filter passes (first_ids n), count_by-le-length passes (first_ids n), length-ids n)
