use Rattle.std.proofs.Common.{◌<◌, length, take, ◌∙◌, sym, ap, subst, arith}
use Rattle.serial_session.specs.Typing.{is_bound_in}
use Rattle.serial_session.specs.LineTypes.{bound_behind, type_at}
use Rattle.serial_session.specs.Walks.{StepsBack, step_to}
use Rattle.serial_session.proofs.LineTypeLaws.{type_at-within}
use Rattle.serial_session.proofs.WalkLaws.{StepsBack-by, kept_at}
use Rattle.serial_session.proofs.walk.Walk.step.Goals as goal

pub returns-in-Some : goal.returns-in-Some
returns-in-Some c =
    kept_at _ _ _ c.args.line c.index.result.now c.in-Some.found c.self.invariant (omega (arith, ap length c.self.view_is)) c.index.ensures c.in-Some.is
    ∙ ap (λ forms. type_at forms c.args.line) c.self.view_is

pub returns-in-None : goal.returns-in-None
returns-in-None c =
    let forms = c.self.inside.forms.now in
    let known = is_bound_in forms in
    let within : c.args.line < length forms = omega (arith, ap length c.self.view_is) in
    c.literal_type.ensures known (bound_behind known (take c.args.line forms))
    ∙ sym (type_at-within forms c.args.line c.index-self-line.result within)
    ∙ ap (λ lines. type_at lines c.args.line) c.self.view_is

pub returns-in-Some-index : goal.returns-in-Some-index
returns-in-Some-index c =
    let forms = c.self.inside.forms.now in
    let within : c.args.line < length forms = omega (arith, ap length c.self.view_is) in
    let back : StepsBack forms c.args.line (step_to c.in-Some-index.antecedent) = StepsBack-by forms _ c.args.line c.index-2.result.now c.in-Some-index.antecedent c.self.invariant.are within c.index-2.ensures c.in-Some-index.is in
    subst (StepsBack c.args.self.now c.args.line) (sym c.step_to.ensures)
    (subst (λ lines. StepsBack lines c.args.line (step_to c.in-Some-index.antecedent)) c.self.view_is back)
