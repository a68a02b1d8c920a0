use Rattle.std.proofs.Common.{get_or, arith}
use Rattle.std.proofs.lemmas.Option.{slice_get-get_or}
use Rattle.node_shapes.specs.Bodies.{with_once, member_name}
use Rattle.node_shapes.proofs.Members.{fold-next}
use Rattle.node_shapes.proofs.bodies.add_members.Goals as goal

pub loop-line-preserved : goal.loop-line-preserved
loop-line-preserved c =
    let lines = c.args.lines.now in
    let i = c.loop-line.line-index in
    fold-next with_once c.args.members.now.keys c.loop-line.members.keys c.add_member.new.members.keys (member_name c.args.tree.now) lines i (get_or lines i (record { 0 = 0 })) c.member_name.result
    (slice_get-get_or lines i (record { 0 = 0 }) (omega arith)) c.in_ok-add_member.ensures c.member_name.ensures c.loop-line.invariant
