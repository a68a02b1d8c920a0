use Rattle.std.proofs.Common.{◌≢◌, ℕ, replicate, refl, subst, arith}
use Rattle.std.specs.List.{Contains}
use Rattle.std.proofs.lemmas.List.Elements.{All-replicate, All-contains}
use Rattle.cancel_flags.specs.Ends.{Raising}
use Rattle.call_tests.proofs.flags.flags_of_7.Goals as goal

pub claim-requires-clause-new : goal.claim-requires-clause-new
claim-requires-clause-new c = λ there.
    let P : ℕ → Type 0 = λ n. n ≢ 7 in
    let zeros : Contains (replicate 320 0) 7 = subst (λ (r : Raising). Contains r.claimed 7) c.in_ok-flags.ensures.raiser there in
    All-contains P (replicate 320 0) 7 (All-replicate P 320 0 (λ e. omega arith)) zeros refl
