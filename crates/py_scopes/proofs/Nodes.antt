-- The occurrences of a module stand in the order of their nodes, so one pass over both finds for each node its own.
use Rattle.std.proofs.Common.{◌≡◌, ℕ, zero, suc, ◌+◌, ◌<◌, ◌≤◌, ◌==◌, Bool, true, false, List, [], ◌∷◌, ◌++◌, length, refl, sym, ap, subst, ◌∙◌, arith, if◌then◌else◌, inl, inr}
use Rattle.std.specs.Prelude.{Option, Some, None, IfSome, filter_map, slice_get, bytes_eq, codes}
use Rattle.std.specs.List.{cons_option}
use Rattle.std.proofs.lemmas.Bool.{eqb-true, eq-eqb, cases_lt}
use Rattle.std.proofs.lemmas.List.{length-append}
use Rattle.std.proofs.lemmas.List.Elements.{filter_map-append}
use Rattle.py_base.specs.declared.ids.NodeId.{NodeId}
use Rattle.py_base.specs.declared.ids.NameId.{NameId}
use Rattle.py_base.specs.Tree.{Arena}
use Rattle.py_scopes.specs.declared.way.Step.{Step}
use Rattle.py_scopes.specs.declared.occurrence.Occurrence.{Occurrence}
use Rattle.py_scopes.specs.Way.{way_out}
use Rattle.py_scopes.specs.Occurrences.{counts, text_of, occurrence_on, occurrence_if, leaf_name, occurrence_at, first_ids}
use Rattle.py_scopes.specs.Tables.{if_node}

-- an occurrence is at the node that it is asked of
abbrev pub IsAt : NodeId → Option Occurrence → Type 0
IsAt id o = IfSome o (λ p. p.node ≡ id)

at-node : (a : Arena) (id : NodeId) → IsAt id (occurrence_at a id)
at-node a id = go (leaf_name (slice_get a.nodes id.0))
  where
    way : List Step
    way = way_out a.nodes id

    counted : (n : NameId) (b : Bool) → IsAt id (if b then Some (occurrence_on a id n way) else None)
    counted n true = refl
    counted n false = tt

    go : (n : Option NameId) → IsAt id (occurrence_if a id way n)
    go None = tt
    go (Some n) = counted n (counts (bytes_eq (text_of a.names n) (codes "_")) way)

own : (o : Option Occurrence) (id : NodeId) → IsAt id o → if_node id o ≡ o
own None id h = refl
own (Some o) id h = ap (λ b. if b then Some o else None) (ap (λ m. m.0 == id.0) h ∙ eq-eqb id.0 id.0 refl)

unequal : (m n : ℕ) → n < m → (m == n) ≡ false
unequal m n lt = go (m == n) refl
  where
    go : (b : Bool) → (m == n) ≡ b → (m == n) ≡ false
    go true e = let same = eqb-true m n e in absurd (omega (arith, same, lt))
    go false e = e

other : (o : Option Occurrence) (id : NodeId) (m : ℕ) → IsAt (record { 0 = m }) o → id.0 < m → if_node id o ≡ None
other None id m h lt = refl
other (Some o) id m h lt = ap (λ b. if b then Some o else None) (ap (λ q. q.0 == id.0) h ∙ unequal m id.0 lt)

last : (xs : List Occurrence) (o : Option Occurrence) → slice_get (xs ++ cons_option o []) (length xs) ≡ o
last [] None = refl
last [] (Some o) = refl
last (x ∷ xs) o = last xs o

stays : (xs : List Occurrence) (o : Option Occurrence) (i : ℕ) (id : NodeId) → if_node id o ≡ None → if_node id (slice_get (xs ++ cons_option o []) i) ≡ if_node id (slice_get xs i)
stays [] None i id e = refl
stays [] (Some p) zero id e = e
stays [] (Some p) (suc i) id e = refl
stays (x ∷ xs) o zero id e = refl
stays (x ∷ xs) o (suc i) id e = stays xs o i id e

-- the number of the occurrences of the nodes before
abbrev pub passed : Arena → ℕ → ℕ
passed a n = length (filter_map (occurrence_at a) (first_ids n))

one-more : (a : Arena) (m : ℕ) → filter_map (occurrence_at a) (first_ids (suc m)) ≡ filter_map (occurrence_at a) (first_ids m) ++ cons_option (occurrence_at a (record { 0 = m })) []
one-more a m = filter_map-append (occurrence_at a) (first_ids m) (record { 0 = m } ∷ [])

next-among : (a : Arena) (count n : ℕ) → n < count → if_node (record { 0 = n }) (slice_get (filter_map (occurrence_at a) (first_ids count)) (passed a n)) ≡ occurrence_at a (record { 0 = n })
next-among a zero n lt = absurd (omega arith)
next-among a (suc m) n lt =
    let xs : List Occurrence = filter_map (occurrence_at a) (first_ids m) in
    let o : Option Occurrence = occurrence_at a (record { 0 = m }) in
    ap (λ l. if_node (record { 0 = n }) (slice_get l (passed a n))) (one-more a m)
    ∙ elim (cases_lt n m) [
      | inl h ↦ stays xs o (passed a n) (record { 0 = n }) (other o (record { 0 = n }) m (at-node a (record { 0 = m })) h) ∙ next-among a m n h
      | inr h ↦ let same : m ≡ n = omega arith in
          subst (λ k. if_node (record { 0 = k }) (slice_get (xs ++ cons_option o []) (passed a k)) ≡ occurrence_at a (record { 0 = k })) same
          (ap (if_node (record { 0 = m })) (last xs o) ∙ own o (record { 0 = m }) (at-node a (record { 0 = m })))
    ]

-- what stands at the number of those passed is the occurrence of the next node, if it has one
pub next-is : (a : Arena) (all : List Occurrence) (k n : ℕ) (o : Option Occurrence) → all ≡ filter_map (occurrence_at a) (first_ids (length a.nodes)) → k ≡ passed a n → n < length a.nodes
    → o ≡ if_node (record { 0 = n }) (slice_get all k) → o ≡ occurrence_at a (record { 0 = n })
next-is a all k n o e f lt is =
    is ∙ ap (λ l. if_node (record { 0 = n }) (slice_get l k)) e ∙ ap (λ j. if_node (record { 0 = n }) (slice_get (filter_map (occurrence_at a) (first_ids (length a.nodes))) j)) f
    ∙ next-among a (length a.nodes) n lt

-- the number of those passed with the next node's
pub passed-next : (a : Arena) (n : ℕ) (o : Option Occurrence) → o ≡ occurrence_at a (record { 0 = n }) → passed a (n + 1) ≡ passed a n + length (cons_option o [])
passed-next a n o e =
    let next : n + 1 ≡ suc n = omega arith in
    ap (passed a) next ∙ ap length (one-more a n) ∙ length-append (filter_map (occurrence_at a) (first_ids n)) (cons_option (occurrence_at a (record { 0 = n })) [])
    ∙ ap (λ p. passed a n + length (cons_option p [])) (sym e)

one-at-most : (o : Option Occurrence) → length (cons_option o []) ≤ 1
one-at-most None = omega arith
one-at-most (Some o) = omega arith

pub passed-room : (k n : ℕ) (o : Option Occurrence) → k ≤ n → k + length (cons_option o []) ≤ n + 1
passed-room k n o le = omega (arith, le, one-at-most o)
