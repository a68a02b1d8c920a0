use Rattle.point_graph.proofs.graph.PointGraph.+point.Given as goal

abbrev pub decreases-point : goal.decreases-point
decreases-point l = l.node.0
