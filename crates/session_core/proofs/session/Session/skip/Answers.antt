use Rattle.std.proofs.Common.{[], refl}
use Rattle.wire_json.specs.declared.message.WireStep.TheVariants.{Reply}
use Rattle.session_core.proofs.Steps.{line_goes_on}
use Rattle.session_core.proofs.session.Session.skip.Goals as goal

pub returns-clause-steps : goal.returns-clause-steps
returns-clause-steps g c reply =
    rw (← c.self.view_is) (line_goes_on _ _ _ _ (Reply reply) [] (rw (← c.self.view_is) at c.requires.going) c.skip.ensures refl (rw c.taken-number.ensures at c.in_ok-push.ensures.ok))
