use Rattle.std.proofs.Common.{◌≡◌, ◌-◌, ◌+◌, suc, sym, ap, ◌∙◌, arith}
use Rattle.std.specs.Option.{option_map}
use Rattle.node_shapes.specs.Chains.{chain, chain_within}
use Rattle.binding_sources.specs.declared.chains.NamesBehind.TheVariants as behinds
use Rattle.binding_sources.proofs.Linking.{ended_chain, ended-start, first-step, last-step, further-step}
use Rattle.binding_sources.proofs.chains.chain_at.Goals as goal

pub loop-init : goal.loop-init
loop-init c =
    let nodes = c.args.tree.now.nodes in
    let n = c.args.node in
    let all : suc n.0 - 0 ≡ suc n.0 = omega arith in
    ap (λ k. option_map (ended_chain behinds.Nothing) (chain_within k nodes n)) all ∙ ended-start (chain nodes n)

pub returns-in-First : goal.returns-in-First
returns-in-First c =
    sym (first-step c.args.tree.now.nodes c.loop.here (suc c.args.node.0 - c.loop.counter) c.loop.behind (omega (arith, c.loop-test.true)) c.in-First.ensures) ∙ c.loop.invariant

pub returns-in-NoLink : goal.returns-in-NoLink
returns-in-NoLink c = sym (last-step c.args.tree.now.nodes c.loop.here (suc c.args.node.0 - c.loop.counter) c.loop.behind c.in-NoLink.ensures) ∙ c.loop.invariant

pub loop-preserved : goal.loop-preserved
loop-preserved c =
    let left = suc c.args.node.0 - c.loop.counter in
    let fewer = suc c.args.node.0 - (c.loop.counter + 1) in
    sym (further-step c.args.tree.now.nodes c.loop.here c.in-Further.inner c.in-Further.name left fewer c.loop.behind c.with_name-behind.result (omega (arith, c.loop-test.true)) c.in-Further.ensures
    c.with_name-behind.ensures) ∙ c.loop.invariant
