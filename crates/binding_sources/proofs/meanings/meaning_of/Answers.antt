use Rattle.std.proofs.Common.{ap, sym, ◌∙◌}
use Rattle.std.specs.Option.{option_map}
use Rattle.node_shapes.specs.Chains.{chain}
use Rattle.binding_sources.specs.Meanings.{meaning_of, short_chain}
use Rattle.binding_sources.specs.Joining.{short_named}
use Rattle.binding_sources.proofs.Shortened.{named-short}
use Rattle.binding_sources.proofs.meanings.meaning_of.Goals as goal

pub returns : goal.returns
unfolding meaning_of
returns c =
    let a = c.args.names.now.arena in
    let t = c.args.names.now.table in
    let n = c.args.node in
    c.meaning_by.ensures ∙ ap (short_named t) (c.chain_at.ensures ∙ ap (λ x. option_map short_chain (chain x.nodes n)) c.tree.ensures) ∙ sym (named-short t (chain a.nodes n))
