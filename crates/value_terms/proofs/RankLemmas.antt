-- How deep parts go.
use Rattle.std.proofs.Common.{ℕ, ◌≤◌, List, [], ◌∷◌, ◌++◌, max, arith, zero-le}
use Rattle.std.proofs.Math.Nat.{le-max_left, le-max_right, max-le}
use Rattle.value_terms.specs.declared.part.Part.{Part}
use Rattle.value_terms.specs.Ranks.{part_rank, ReachAtMost}

module _ {R : Type 0} (rank : R → ℕ) where
  -- the rank of the deepest part
  pub deepest : List (Part R) → ℕ
  deepest [] = 0
  deepest (part ∷ parts) = max (part_rank rank part) (deepest parts)

  pub deepest_most : (most : ℕ) (parts : List (Part R)) → ReachAtMost rank most parts → deepest parts ≤ most
  unfolding deepest
  deepest_most most [] h = zero-le
  deepest_most most (part ∷ parts) h = max-le h.0 (deepest_most most parts h.1)

  pub deepest_start : (parts more : List (Part R)) → deepest parts ≤ deepest (parts ++ more)
  unfolding deepest
  deepest_start [] more = zero-le
  deepest_start (part ∷ parts) more =
      let rest = deepest_start parts more in
      let later = le-max_right (part_rank rank part) (deepest (parts ++ more)) in
      max-le (le-max_left (part_rank rank part) (deepest (parts ++ more))) (omega (arith, rest, later))

  pub deepest_last : (parts : List (Part R)) (last : Part R) → part_rank rank last ≤ deepest (parts ++ last ∷ [])
  unfolding deepest
  deepest_last [] last = le-max_left (part_rank rank last) 0
  deepest_last (part ∷ parts) last =
      let rest = deepest_last parts last in
      let later = le-max_right (part_rank rank part) (deepest (parts ++ last ∷ [])) in
      omega (arith, rest, later)
