use Rattle.std.proofs.Common.{inr, refl}
use Rattle.serial_session.specs.declared.status.Status.TheVariants.{NoMemory}
use Rattle.serial_session.proofs.Sessions.{never_began}
use Rattle.serial_session.proofs.serve.serve_serial.Goals as goal

pub returns-in_default-clause-reports : goal.returns-in_default-clause-reports
returns-in_default-clause-reports g c = record {
  status = NoMemory;
  code_is = c.code.ensures;
  at_end = g.S.Source.ended c.args.source.now;
  at_end_is = inr refl;
  account = never_began _ _ _ _ c.new-session.ensures.journal;
}
