-- Laws of how often a node is a part: the parts of nodes side by side are those of the first and then those of the others.
use Rattle.std.proofs.Common.{◌≡◌, ℕ, suc, ◌+◌, ◌==◌, Bool, true, false, List, [], ◌∷◌, ◌++◌, refl, sym, ◌∙◌, ap, arith, append_assoc, zero-add, if◌then◌else◌}
use Rattle.py_base.specs.declared.ids.NodeId.{NodeId}
use Rattle.py_base.specs.declared.node.Node.{Node}
use Rattle.py_base.specs.OneTree.{times, all_parts}

-- one more, or none, before a sum
one_more : (b : Bool) (m n : ℕ) → (if b then suc (m + n) else (m + n)) ≡ (if b then suc m else m) + n
one_more true m n = omega arith
one_more false m n = refl

pub times-append : (n : ℕ) (xs ys : List NodeId) → times n (xs ++ ys) ≡ times n xs + times n ys
times-append n [] ys = sym (zero-add (times n ys))
times-append n (x ∷ xs) ys = ap (λ k. if x.0 == n then suc k else k) (times-append n xs ys) ∙ one_more (x.0 == n) (times n xs) (times n ys)

pub all_parts-append : (xs ys : List Node) → all_parts (xs ++ ys) ≡ all_parts xs ++ all_parts ys
all_parts-append [] ys = refl
all_parts-append (x ∷ xs) ys = ap (λ l. x.parts ++ l) (all_parts-append xs ys) ∙ sym (append_assoc x.parts (all_parts xs) (all_parts ys))
