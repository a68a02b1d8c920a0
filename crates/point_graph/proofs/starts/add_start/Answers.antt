use Rattle.std.proofs.Common.{◌≡◌, true, Some, refl, ap, subst, ◌∙◌, is_some, rules}
use Rattle.flow_rows.specs.declared.edge.EdgeKind.TheVariants as kinds
use Rattle.flow_rows.specs.Points.{own, start}
use Rattle.flow_rows.specs.declared.point.Point.{Point}
use Rattle.flow_rows.specs.Flow.{Has, run_at}
use Rattle.point_graph.specs.Numbers.{IsNumber}
use Rattle.point_graph.proofs.Keys.{has_at}
use Rattle.point_graph.proofs.Drafts.{has_too}
use Rattle.point_graph.proofs.Starting.{start_pushed}
use Rattle.point_graph.proofs.Ordering.{start_continues, start_no_point}
use Rattle.point_graph.proofs.starts.add_start.Goals as goal

pub returns-clause-steps : goal.returns-clause-steps
returns-clause-steps c =
    let points = c.args.points.now.keys in
    let yes : is_some (run_at c.args.forms.now c.args.root) ≡ true = search (c.has_graph.ensures, c.if-not-has_graph.false, rules) in
    let from : IsNumber points c.in-Some.from (own c.args.root 0) = c.in-Some.ensures.some ∙ ap Some c.own.ensures in
    let to : IsNumber points c.in-Some-find.to (start c.args.root) = c.in-Some-find.ensures.some ∙ ap Some c.start.ensures in
    start_pushed c.args.forms.now points c.args.root c.args.steps.now c.push.new.self
    (record { from = c.in-Some.from; to = c.in-Some-find.to; kind = kinds.Start })
    (has_too c.args.forms.now c.args.root yes) (has_at points c.in-Some.from.0 (own c.args.root 0) from) from to refl c.in_ok-push.ensures.ok

pub returns-clause-listed : goal.returns-clause-listed
returns-clause-listed c =
    let points = c.args.points.now.keys in
    let yes : is_some (run_at c.args.forms.now c.args.root) ≡ true = search (c.has_graph.ensures, c.if-not-has_graph.false, rules) in
    let from : IsNumber points c.in-Some.from (own c.args.root 0) = c.in-Some.ensures.some ∙ ap Some c.own.ensures in
    let to : IsNumber points c.in-Some-find.to (start c.args.root) = c.in-Some-find.ensures.some ∙ ap Some c.start.ensures in
    start_continues c.args.forms.now points c.args.root c.args.steps.now c.push.new.self
    (record { from = c.in-Some.from; to = c.in-Some-find.to; kind = kinds.Start })
    yes (has_at points c.in-Some.from.0 (own c.args.root 0) from) from to refl c.in_ok-push.ensures.ok

pub returns-in_default-clause-listed : goal.returns-in_default-clause-listed
returns-in_default-clause-listed c =
    let points = c.args.points.now.keys in
    start_no_point c.args.forms.now points c.args.root c.args.steps.now (subst (λ (p : Point). Has points p → ⊥) c.own.ensures (c.in_default.ensures.none refl))
