use Rattle.class_rows.proofs.Keeping.{merge_keeps}
use Rattle.class_rows.proofs.laws.merge_keeps.Goals as goal

pub returns : goal.returns
returns c = merge_keeps
