-- What is seen of lines, line by line.
use Rattle.std.proofs.Common.{◌≡◌, ℕ, zero, suc, ◌+◌, ◌<◌, ◌≤◌, List, [], ◌∷◌, ◌++◌, length, drop, get_or, map, sym, ◌∙◌, ap, arith, append_assoc, append-nil, drop-cons}
use Rattle.std.proofs.Math.ListN.{drop_of_length-le}
use Rattle.py_base.specs.Tree.{Arena}
use Rattle.py_blocks.specs.declared.fault.BlockLine.{BlockLine}
use Rattle.py_blocks.specs.declared.facts.LineFacts.{LineFacts}
use Rattle.py_blocks.specs.Facts.{facts_of}
use Rattle.py_blocks.specs.Faults.{row_of, rows_of, IsNodeOf, AreNodesOf}

pub node-at : (n : ℕ) (lines : List BlockLine) (i : ℕ) (d : BlockLine) → AreNodesOf n lines → i < length lines → IsNodeOf n (get_or lines i d).tree
node-at n [] i d h lt = absurd (omega arith)
node-at n (x ∷ lines) zero d (h, k) lt = h
node-at n (x ∷ lines) (suc i) d (h, k) lt = node-at n lines i d k (omega arith)

pub rows-next : (a : Arena) (lines : List BlockLine) (i : ℕ) (d : BlockLine) (old new all : List LineFacts) (fact : LineFacts) → i < length lines → new ≡ old ++ fact ∷ [] → fact ≡ facts_of (row_of a (get_or lines i d)) → old ++ map facts_of (rows_of a (drop i lines)) ≡ all → new ++ map facts_of (rows_of a (drop (i + 1) lines)) ≡ all
rows-next a lines i d old new all fact lt e f h =
    let behind = map facts_of (rows_of a (drop (i + 1) lines)) in
    let one : i + 1 ≡ suc i = omega arith in
    let split : drop i lines ≡ get_or lines i d ∷ drop (i + 1) lines = rw one (drop-cons lines i d lt) in
    ap (λ xs. xs ++ behind) e ∙ (append_assoc old (fact ∷ []) behind ∙ (ap (λ x. old ++ x ∷ behind) f ∙ (ap (λ ls. old ++ map facts_of (rows_of a ls)) (sym split) ∙ h)))

pub rows-end : (a : Arena) (lines : List BlockLine) (i : ℕ) (old all : List LineFacts) → length lines ≤ i → old ++ map facts_of (rows_of a (drop i lines)) ≡ all → old ≡ all
rows-end a lines i old all le h =
    sym (append-nil old) ∙ (ap (λ ls. old ++ map facts_of (rows_of a ls)) (sym (drop_of_length-le lines le)) ∙ h)
