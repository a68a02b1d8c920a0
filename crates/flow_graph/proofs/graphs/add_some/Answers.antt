use Rattle.std.proofs.Common.{◌≡◌, ◌⊎◌, ◌↔◌, Option, Some, subst, sym}
use Rattle.point_graph.specs.Order.{added_once}
use Rattle.flow_graph.specs.Table.{same_id, at_most_one}
use Rattle.py_base.specs.declared.ids.RefId.{RefId}
use Rattle.flow_rows.specs.Flow.{Has}
use Rattle.flow_graph.proofs.Occurring.{added, once_of, id_added}
use Rattle.flow_graph.proofs.graphs.add_some.Goals as goal

pub returns-in_ok-insert-in-Some-clause-exact : goal.returns-in_ok-insert-in-Some-clause-exact
returns-in_ok-insert-in-Some-clause-exact c =
    subst (λ (f : Option RefId). (r : RefId) → Has c.insert.new.self.keys r ↔ (Has c.args.refs.now.keys r ⊎ (f ≡ Some r))) (sym c.in-Some.is)
    (added c.args.refs.now.keys c.in-Some.id c.insert.new.self.keys c.in_ok-insert-in-Some.ensures.keys)

pub returns-in_ok-insert-in-Some-clause-once : goal.returns-in_ok-insert-in-Some-clause-once
returns-in_ok-insert-in-Some-clause-once c = λ before. once_of c.insert.new.self.keys c.in_ok-insert-in-Some.ensures.unique

pub returns-in_ok-insert-in-Some-clause-listed : goal.returns-in_ok-insert-in-Some-clause-listed
returns-in_ok-insert-in-Some-clause-listed c =
    subst (λ (f : Option RefId). c.insert.new.self.keys ≡ added_once same_id c.args.refs.now.keys (at_most_one f)) (sym c.in-Some.is)
    (id_added c.args.refs.now.keys c.in-Some.id c.insert.new.self.keys c.in_ok-insert-in-Some.ensures.keys)
