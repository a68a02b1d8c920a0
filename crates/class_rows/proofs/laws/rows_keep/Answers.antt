use Rattle.class_rows.proofs.Tables.{rows_keep}
use Rattle.class_rows.proofs.laws.rows_keep.Goals as goal

pub returns : goal.returns
returns c = rows_keep
