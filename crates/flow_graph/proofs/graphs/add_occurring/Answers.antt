use Rattle.std.proofs.Common.{◌≡◌, ◌++◌, ◌∙◌, List, Option, slice_get, ap, sym}
use Rattle.py_base.specs.declared.ids.RefId.{RefId}
use Rattle.node_references.specs.Numbers.{flat}
use Rattle.point_graph.specs.Order.{added_once}
use Rattle.point_graph.proofs.Ordering.{added_both as items_both}
use Rattle.flow_graph.specs.Table.{read_at, bound_id, same_id, at_most_one}
use Rattle.flow_graph.proofs.graphs.add_occurring.Goals as goal

pub returns-clause-once : goal.returns-clause-once
returns-clause-once c = λ before. c.in_ok-add_some-2.ensures.once (c.in_ok-add_some.ensures.once before)

pub returns-clause-listed : goal.returns-clause-listed
returns-clause-listed c =
    let old = c.args.refs.now.keys in
    let read : Option RefId = c.read_at.result in
    let bound : Option RefId = c.bound_at.result in
    let both : c.add_some-2.new.refs.keys ≡ added_once same_id old (at_most_one read ++ at_most_one bound) =
    c.in_ok-add_some-2.ensures.listed ∙ ap (λ (l : List RefId). added_once same_id l (at_most_one bound)) c.in_ok-add_some.ensures.listed
    ∙ sym (items_both same_id old (at_most_one read) (at_most_one bound)) in
    both ∙ ap (λ (o : Option RefId). added_once same_id old (at_most_one o ++ at_most_one bound)) c.read_at.ensures
    ∙ ap (λ (o : Option RefId). added_once same_id old (at_most_one (read_at c.args.reads.now (slice_get c.args.graph.now.points c.args.point.0)) ++ at_most_one o)) c.bound_at.ensures
