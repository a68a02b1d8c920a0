use Rattle.edge_io.specs.Line.{is_lf}
use Rattle.edge_io.proofs.Buffers.{unwrap_or-position}
use Rattle.edge_io.proofs.reader.run_len.Goals as goal

pub returns : goal.returns
returns c = rw (c.unwrap_or.ensures, c.first_lf.ensures) (unwrap_or-position is_lf c.args.bytes.now)
