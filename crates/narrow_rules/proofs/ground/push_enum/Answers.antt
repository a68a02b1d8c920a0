use Rattle.narrow_rules.proofs.ListLemmas.{members_more}
use Rattle.narrow_rules.proofs.ground.push_enum.Goals as goal

pub loop-place-preserved : goal.loop-place-preserved
loop-place-preserved c =
    members_more c.args.class c.loop-place.place c.args.count c.loop-place.atoms.items c.push.new.atoms.items _ c.loop-place-test.true c.loop-place.invariant c.in_ok-push.ensures
