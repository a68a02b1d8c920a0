use Rattle.diagnostics.proofs.OneList.{one_list}
use Rattle.diagnostics.proofs.list.one_sorted_list.Goals as goal

pub returns : goal.returns
returns c = one_list
