use Rattle.std.proofs.Common.{ap, sym, ◌∙◌}
use Rattle.std.specs.Option.{option_map}
use Rattle.node_shapes.specs.Chains.{chain}
use Rattle.binding_sources.specs.Meanings.{meaning_of, short_chain}
use Rattle.binding_sources.specs.Verdicts.{by_named}
use Rattle.binding_sources.specs.Joining.{setter_short}
use Rattle.binding_sources.proofs.Shortened.{setter-short}
use Rattle.binding_sources.proofs.verdicts.decorator_of.Goals as goal

pub returns : goal.returns
returns c =
    let a = c.args.names.now.arena in
    let t = c.args.names.now.table in
    let n = c.args.node in
    let other = by_named a (meaning_of a t n) in
    c.setter_short.ensures ∙ ap (λ o. setter_short a t o c.named_decorator.result) (c.chain_at.ensures ∙ ap (λ x. option_map short_chain (chain x.nodes n)) c.tree.ensures)
    ∙ ap (setter_short a t (option_map short_chain (chain a.nodes n))) c.named_decorator.ensures ∙ sym (setter-short a t (chain a.nodes n) other)
