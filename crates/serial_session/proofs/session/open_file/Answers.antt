use Rattle.serial_session.proofs.Partials.{partly_one, partly_two}
use Rattle.serial_session.proofs.session.open_file.Goals as goal

pub returns-in-Err-clause-took : goal.returns-in-Err-clause-took
returns-in-Err-clause-took g c = partly_one _ _ _ _ _ _ c.in-Err.ensures.broken

pub returns-in-Err-publish-clause-took : goal.returns-in-Err-publish-clause-took
returns-in-Err-publish-clause-took g c = partly_two _ _ _ _ _ _ _ _ c.in-Ok.ensures.noted c.in-Ok.ensures.written c.in-Err-publish.ensures.broken
