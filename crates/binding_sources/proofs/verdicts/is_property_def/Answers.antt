use Rattle.std.proofs.Common.{ap, sym, ◌∙◌}
use Rattle.std.specs.List.{list_any}
use Rattle.py_base.specs.Nodes.{parts_at}
use Rattle.node_shapes.specs.Definitions.{decorator_in}
use Rattle.binding_sources.specs.Joining.{has_property_decorator}
use Rattle.binding_sources.proofs.Decorators.{any-flat}
use Rattle.binding_sources.proofs.verdicts.is_property_def.Goals as goal

pub returns : goal.returns
returns c =
    let a = c.args.names.now.arena in
    let s = c.args.statement in
    let test = has_property_decorator a c.args.names.now.table in
    c.has_property_part.ensures ∙ ap (list_any (λ p. list_any test (decorator_in a.nodes p))) (c.parts.ensures ∙ ap (λ x. parts_at x.nodes s) c.tree.ensures)
    ∙ sym (any-flat test (decorator_in a.nodes) (parts_at a.nodes s))
