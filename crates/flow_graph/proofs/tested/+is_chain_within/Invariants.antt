use Rattle.flow_graph.proofs.tested.+is_chain_within.Given as goal

abbrev pub decreases-is_chain_within : goal.decreases-is_chain_within
decreases-is_chain_within l = l.left
