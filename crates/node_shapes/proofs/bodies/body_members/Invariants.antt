use Rattle.std.proofs.Common.{◌≡◌, [], take, fold, filter_map, flat_map}
use Rattle.node_shapes.specs.Bodies.{with_once, member_name}
use Rattle.node_shapes.specs.Statements.{flat}
use Rattle.node_shapes.proofs.bodies.body_members.Given as goal

abbrev pub invariant-loop-line : goal.invariant-loop-line
invariant-loop-line l = l.members.keys ≡ fold with_once [] (filter_map (member_name l.tree) (flat_map (flat l.tree.nodes) (take l.line-index l.lines)))
