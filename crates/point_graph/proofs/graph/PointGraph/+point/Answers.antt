use Rattle.std.proofs.Common.{Some, refl, ap, ◌∙◌, subst}
use Rattle.std.proofs.lemmas.Option.{slice_get_within}
use Rattle.flow_rows.specs.declared.point.Point.{Point}
use Rattle.flow_rows.specs.Points.{own}
use Rattle.flow_rows.specs.Flow.{Has}
use Rattle.point_graph.specs.Numbers.{IsNumber}
use Rattle.point_graph.specs.Operands.{itself}
use Rattle.point_graph.specs.Graph.{Numbered}
use Rattle.point_graph.proofs.Keys.{has_at}
use Rattle.point_graph.proofs.Places.{from_operand}
use Rattle.point_graph.proofs.graph.PointGraph.+point.Goals as goal

pub returns-in-Some-clause-some : goal.returns-in-Some-clause-some
returns-in-Some-clause-some t c =
    let own_point = own c.args.node c.args.copy in
    let number : IsNumber c.args.self.now.points c.in-Some.id own_point =
    subst (λ (g : Numbered). IsNumber g.points c.in-Some.id own_point) c.self.view_is (c.in-Some.ensures.some ∙ ap Some c.own.ensures) in
    (own_point, number, itself (has_at c.args.self.now.points c.in-Some.id.0 own_point number))

pub returns-in-Some-clause-within : goal.returns-in-Some-clause-within
returns-in-Some-clause-within t c =
    let number : IsNumber c.args.self.now.points c.in-Some.id c.own.result =
    subst (λ (g : Numbered). IsNumber g.points c.in-Some.id c.own.result) c.self.view_is c.in-Some.ensures.some in
    slice_get_within c.args.self.now.points c.in-Some.id.0 c.own.result number

pub returns-in-Some-operand-clause-some : goal.returns-in-Some-operand-clause-some
returns-in-Some-operand-clause-some t c =
    let away : Has c.args.self.now.points (own c.args.node c.args.copy) → ⊥ =
    subst (λ (g : Numbered). Has g.points (own c.args.node c.args.copy) → ⊥) c.self.view_is
    (subst (λ (p : Point). Has c.self.inside.points.keys p → ⊥) c.own.ensures (c.in-None.ensures.none refl)) in
    from_operand c.args.self.now.points c.args.self.now.operands c.args.node c.in-Some-operand.operand c.args.copy c.point.result away
    c.in-Some-operand.ensures.some.0 c.in-Some-operand.ensures.some.1 c.point.ensures.some
