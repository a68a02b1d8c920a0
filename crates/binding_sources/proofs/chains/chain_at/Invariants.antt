use Rattle.std.proofs.Common.{◌≡◌, suc, ◌-◌}
use Rattle.std.specs.Option.{option_map}
use Rattle.node_shapes.specs.Chains.{chain, chain_within}
use Rattle.binding_sources.specs.Meanings.{short_chain}
use Rattle.binding_sources.proofs.Linking.{ended_chain}
use Rattle.binding_sources.proofs.chains.chain_at.Given as goal

abbrev pub invariant-loop : goal.invariant-loop
invariant-loop l = option_map (ended_chain l.behind) (chain_within (suc l.fn.node.0 - l.counter) l.fn.tree.nodes l.here) ≡ option_map short_chain (chain l.fn.tree.nodes l.fn.node)
