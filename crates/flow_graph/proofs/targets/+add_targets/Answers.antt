use Rattle.std.proofs.Common.{◌-◌, rules, ◌≡◌, false}
use Rattle.flow_graph.specs.Targets.{targets, is_place}
use Rattle.py_base.specs.Nodes.{kind_at}
use Rattle.flow_graph.proofs.Gathering.{targets_inner, level_done}
use Rattle.flow_graph.proofs.targets.+add_targets.Goals as goal

pub returns : goal.returns
returns t c =
    let off : is_place (kind_at c.args.tree.now.nodes c.args.node) ≡ false = search (c.is_place.ensures, c.kind-kind.ensures, c.if-is_place.false, rules) in
    level_done (targets (c.args.left - 1) c.args.tree.now.nodes) c.inner_targets-part-items.result.now c.loop-part.part-index
    c.args.list.now c.loop-part.list (targets c.args.left c.args.tree.now.nodes c.args.node)
    c.loop-part-test.false c.loop-part.invariant
    (rw (c.inner_targets-part-items.ensures, c.kind-kind.ensures, c.parts.ensures) (targets_inner c.args.left c.args.tree.now.nodes c.args.node c.if-left-eq0.false off))
