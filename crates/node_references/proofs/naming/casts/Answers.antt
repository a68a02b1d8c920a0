use Rattle.node_references.specs.Casts.{names_cast}
use Rattle.node_references.proofs.CastMarking.{answer_more}
use Rattle.node_references.proofs.naming.casts.Goals as goal

pub loop-place-preserved : goal.loop-place-preserved
loop-place-preserved c = answer_more (names_cast c.args.tree.now c.args.scopes.now) c.loop-place.place c.loop-place.list c.push.new.self c.names_cast.result
    c.in_ok-push.ensures.ok c.names_cast.ensures c.loop-place.invariant
