use Rattle.serial_session.proofs.Partials.{partly_none, partly_within}
use Rattle.serial_session.proofs.session.perform.Goals as goal

pub returns-in-Err-clause-broken : goal.returns-in-Err-clause-broken
returns-in-Err-clause-broken g c = partly_none _ _ _ _ c.in-Err.ensures.err

pub returns-in-Err-put_all-clause-broken : goal.returns-in-Err-put_all-clause-broken
returns-in-Err-put_all-clause-broken g c = partly_within _ _ c.in-Err-put_all.ensures.err.0 _ _ _ _ c.in-Ok.ensures.ok c.in-Err-put_all.ensures.err.1
