use Rattle.std.proofs.Common.{[], get_or, arith}
use Rattle.std.proofs.lemmas.Option.{slice_get-get_or}
use Rattle.node_shapes.specs.Bodies.{with_once, member_name}
use Rattle.node_shapes.specs.Statements.{flat}
use Rattle.node_shapes.proofs.Members.{fold-flat}
use Rattle.node_shapes.proofs.bodies.body_members.Goals as goal

pub loop-line-preserved : goal.loop-line-preserved
loop-line-preserved c =
    let lines = c.statement_parts-lines.result.now in
    let i = c.loop-line.line-index in
    fold-flat with_once [] c.loop-line.members.keys c.add_members.new.members.keys (member_name c.args.tree.now) (flat c.args.tree.now.nodes) lines i (get_or lines i (record { 0 = 0 })) c.side_by_side.result.now
    (slice_get-get_or lines i (record { 0 = 0 }) (omega arith)) c.in_ok-add_members.ensures c.side_by_side.ensures c.loop-line.invariant
