use Rattle.std.proofs.Common.{◌∙◌, ap, inr, refl}
use Rattle.serial_server.specs.declared.status.Status.TheVariants.{NoMemory}
use Rattle.session_core.specs.Journal.{serial}
use Rattle.serial_server.proofs.Sessions.{never_began}
use Rattle.serial_server.proofs.serve.serve_serial.Goals as goal

pub returns-in_default-clause-reports : goal.returns-in_default-clause-reports
returns-in_default-clause-reports g c = record {
  status = NoMemory;
  code_is = c.code.ensures;
  at_end = g.S.Source.ended c.args.source.now;
  at_end_is = inr refl;
  account = never_began _ _ _ _ _ _ (c.into_journal.ensures ∙ ap (λ v. v.journal) c.new-session.ensures);
}

pub returns-in_default-clause-determined : goal.returns-in_default-clause-determined
returns-in_default-clause-determined g c = λ lines one other first second. c.one_output.ensures lines (serial lines) one other first second

pub returns-clause-determined : goal.returns-clause-determined
returns-clause-determined g c = λ lines one other first second. c.one_output.ensures lines (serial lines) one other first second
