use Rattle.class_rows.proofs.Tables.{one_table}
use Rattle.class_rows.proofs.laws.one_table.Goals as goal

pub returns : goal.returns
returns c = one_table
