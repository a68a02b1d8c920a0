use Rattle.std.proofs.Common.{◌≡◌, ◌++◌, take}
use Rattle.std.specs.List.{flat_map}
use Rattle.flow_rows.specs.Around.{targets}
use Rattle.flow_rows.specs.Edges.{part_edges, edges_around}
use Rattle.flow_rows.proofs.emit.+emit.Given as goal

abbrev pub decreases-emit : goal.decreases-emit
decreases-emit l = l.node.0

abbrev pub invariant-loop-kid : goal.invariant-loop-kid
invariant-loop-kid l =
    l.edges ≡ l.initial.edges ++ flat_map (part_edges (edges_around l.forms l.ends) l.node (targets l.frame)) (take l.kid-index l.kid-items)
