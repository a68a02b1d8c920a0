use Rattle.std.proofs.Common.{List, ap, ◌∙◌, arith, fold, map, flat_map}
use Rattle.std.proofs.lemmas.List.{take_all}
use Rattle.py_base.specs.declared.ids.NodeId.{NodeId}
use Rattle.py_base.specs.Nodes.{parts_at}
use Rattle.node_shapes.specs.Definitions.{decorator_in, decorators_of}
use Rattle.binding_sources.specs.declared.verdicts.Decoration.{Decoration}
use Rattle.binding_sources.specs.Verdicts.{decorator_of}
use Rattle.binding_sources.specs.Joining.{with_below}
use Rattle.binding_sources.proofs.Decorators.{untouched, all-decorators}
use Rattle.binding_sources.proofs.verdicts.decoration_of.Goals as goal

pub returns : goal.returns
returns c =
    let a = c.args.names.now.arena in
    let t = c.args.names.now.table in
    let s = c.args.statement in
    let parts = c.parts-parts.result.now in
    let gathered : List NodeId → Decoration = λ l. fold with_below untouched (map (decorator_of a t) (flat_map (decorator_in a.nodes) l)) in
    c.loop-part.invariant ∙ ap gathered (take_all c.loop-part.part-index parts (omega (arith, c.loop-part-test.false)) ∙ c.parts-parts.ensures ∙ ap (λ x. parts_at x.nodes s) c.tree.ensures)
    ∙ all-decorators (map (decorator_of a t) (decorators_of a.nodes s))
