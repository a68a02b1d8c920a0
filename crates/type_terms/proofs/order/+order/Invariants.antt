use Rattle.std.proofs.Common.{◌≡◌, ◌≤◌, ◌+◌, ◌*◌, length, List, ℕ, drop, map}
use Rattle.type_terms.specs.Order.{key, members_key}
use Rattle.type_terms.specs.SortKey.{SortKey, key_cmp, listed}
use Rattle.type_terms.proofs.order.+order.Given as goal

-- what has been passed is equal, so what is left decides
abbrev SoFar : {T : Type 0} → (T → SortKey) → List T → List T → ℕ → Type 0
SoFar f xs ys place =
    (place ≤ length ys) × (key_cmp (listed (map f xs)) (listed (map f ys)) ≡ key_cmp (listed (map f (drop place xs))) (listed (map f (drop place ys))))

abbrev pub invariant-compare_members-loop-place : goal.invariant-compare_members-loop-place
invariant-compare_members-loop-place l = (l.a-items ≡ l.left) × (l.others ≡ l.right) × SoFar key l.left l.right l.place

abbrev pub invariant-compare_types-loop-place : goal.invariant-compare_types-loop-place
invariant-compare_types-loop-place l = SoFar members_key l.left l.right l.place

-- four steps for each level: the rest of an atom, the atom, the members of a type, the types of the slots
abbrev pub decreases-compare_rest : goal.decreases-compare_rest
decreases-compare_rest l = 4 * goal.size-compare_rest l

abbrev pub decreases-compare : goal.decreases-compare
decreases-compare l = 4 * goal.size-compare l + 1

abbrev pub decreases-compare_members : goal.decreases-compare_members
decreases-compare_members l = 4 * goal.size-compare_members l + 2

abbrev pub decreases-compare_types : goal.decreases-compare_types
decreases-compare_types l = 4 * goal.size-compare_types l + 3
