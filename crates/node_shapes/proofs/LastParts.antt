-- The parts before the last, with and without a comma.
use Rattle.std.proofs.Common.{◌≡◌, true, false, List, [], ◌∷◌, ◌++◌, refl, ap}
use Rattle.py_base.specs.declared.ids.NodeId.{NodeId}
use Rattle.py_base.specs.declared.node.Node.{Node}
use Rattle.py_base.specs.Nodes.{kind_at}
use Rattle.node_shapes.specs.Parts.{is_last_comma, without_comma, but_last}

pub but_last_end : (xs : List NodeId) (p : NodeId) → but_last (xs ++ p ∷ []) ≡ xs
but_last_end [] p = refl
but_last_end (x ∷ []) p = refl
but_last_end (x ∷ y ∷ xs) p = ap (λ ys. x ∷ ys) (but_last_end (y ∷ xs) p)

pub without_comma_at : (nodes : List Node) (xs : List NodeId) (p : NodeId) → is_last_comma (kind_at nodes p) ≡ true → without_comma nodes (xs ++ p ∷ []) ≡ xs
without_comma_at nodes [] p e = rw e refl
without_comma_at nodes (x ∷ []) p e = rw e refl
without_comma_at nodes (x ∷ y ∷ xs) p e = ap (λ ys. x ∷ ys) (without_comma_at nodes (y ∷ xs) p e)

pub without_comma_other : (nodes : List Node) (xs : List NodeId) (p : NodeId) → is_last_comma (kind_at nodes p) ≡ false → without_comma nodes (xs ++ p ∷ []) ≡ xs ++ p ∷ []
without_comma_other nodes [] p e = rw e refl
without_comma_other nodes (x ∷ []) p e = rw e refl
without_comma_other nodes (x ∷ y ∷ xs) p e = ap (λ ys. x ∷ ys) (without_comma_other nodes (y ∷ xs) p e)
