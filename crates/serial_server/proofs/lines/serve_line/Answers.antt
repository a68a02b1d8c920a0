use Rattle.std.proofs.Common.{refl}
use Rattle.serial_server.proofs.LineServed.{line_nothing}
use Rattle.serial_server.proofs.lines.serve_line.Goals as goal

pub returns-in-Err-clause-err : goal.returns-in-Err-clause-err
returns-in-Err-clause-err g c bytes is = line_nothing _ _ _ _ _ _ refl
