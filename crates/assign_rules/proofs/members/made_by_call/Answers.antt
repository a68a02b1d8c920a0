use Rattle.assign_rules.proofs.Plain.{members_more}
use Rattle.assign_rules.proofs.members.made_by_call.Goals as goal

pub loop-place-preserved : goal.loop-place-preserved
loop-place-preserved g c =
    members_more c.args.class c.loop-place.place _ c.loop-place.members c.push.new.items _ c.loop-place-test.true c.loop-place.invariant c.in_ok-push.ensures
