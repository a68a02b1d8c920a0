use Rattle.std.proofs.Common.{◌∙◌, ℕ, [], ◌∷◌, ◌++◌, subst, ap}
use Rattle.session_core.specs.declared.entry.Entry.{Entry}
use Rattle.session_core.specs.Finished.{Finished, IsOutcomeOf}
use Rattle.session_core.specs.Jobs.{IsOutOf, close_work}
use Rattle.session_core.proofs.Steps.{done_goes_on}
use Rattle.session_core.proofs.session.Session.finished.Goals as goal

pub returns-in_ok-push-in-Done-clause-steps : goal.returns-in_ok-push-in-Done-clause-steps
returns-in_ok-push-in-Done-clause-steps g c =
    rw (← c.self.view_is) (done_goes_on _ _ _ _ c.args.done c.in-Done.ensures.0 c.in_ok-entry-in-Done.ensures.out _ c.in-Done.ensures.1 c.in-Done.ensures.2
    (subst (λ (d : Finished). IsOutcomeOf g.A.Analyser.has_list g.A.Analyser.has_hover d.text d.work d.outcome) c.done.view_is c.done.invariant)
    (subst (λ (v : ℕ). IsOutOf v c.args.done.work c.args.done.outcome c.in_ok-entry-in-Done.ensures.out) c.in-Done.ensures.3 c.in_ok-entry-in-Done.ensures.out_is)
    c.in_ok-entry-in-Done.ensures.outs
    (c.close_work.ensures ∙ ap (λ (d : Finished). close_work c.self.inside.state d.work) c.done.view_is)
    (c.in_ok-push-in-Done.ensures.ok ∙ ap (λ (e : Entry). c.self.inside.journal ++ e ∷ []) c.in_ok-entry-in-Done.ensures.entry))
