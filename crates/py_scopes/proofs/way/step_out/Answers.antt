use Rattle.std.proofs.Common.{arith, sym}
use Rattle.py_scopes.proofs.Outward.{table-length, step-is, none-beyond}
use Rattle.py_scopes.proofs.way.step_out.Goals as goal

pub step_at-requires : goal.step_at-requires
step_at-requires c =
    let count = table-length c.args.tree.now.nodes c.args.outward.now c.requires in
    omega (arith, count, c.if-id-node_count.true, c.node_count.ensures.count)

pub returns-then-id-node_count : goal.returns-then-id-node_count
returns-then-id-node_count c =
    step-is c.args.tree.now.nodes c.args.id c.args.outward.now c.step_at.result c.requires (omega (arith, c.if-id-node_count.true, c.node_count.ensures.count)) c.step_at.ensures

pub returns-else-id-node_count : goal.returns-else-id-node_count
returns-else-id-node_count c =
    sym (none-beyond c.args.tree.now c.args.id c.node_count.ensures.linked (omega (arith, c.if-id-node_count.false, c.node_count.ensures.count)))
