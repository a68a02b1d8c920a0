use Rattle.std.proofs.Common.{◌≡◌, take, fold, filter_map}
use Rattle.node_shapes.specs.Bodies.{with_once, member_name}
use Rattle.node_shapes.proofs.bodies.add_members.Given as goal

abbrev pub invariant-loop-line : goal.invariant-loop-line
invariant-loop-line l = l.members.keys ≡ fold with_once l.fn.members.keys (filter_map (member_name l.tree) (take l.line-index l.lines))
