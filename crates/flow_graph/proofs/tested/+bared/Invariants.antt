use Rattle.flow_graph.proofs.tested.+bared.Given as goal

abbrev pub decreases-bared : goal.decreases-bared
decreases-bared l = l.left
