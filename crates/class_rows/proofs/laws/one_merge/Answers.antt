use Rattle.class_rows.proofs.Keeping.{one_merge}
use Rattle.class_rows.proofs.laws.one_merge.Goals as goal

pub returns : goal.returns
returns c = one_merge
