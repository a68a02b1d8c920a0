use Rattle.std.proofs.Common.{sym, ap, ◌∙◌, sum}
use Rattle.py_base.proofs.StartLaws.{count_of_table}
use Rattle.py_base.proofs.line_map.LineMap.char_count.Goals as goal

pub returns : goal.returns
returns c = sym (count_of_table c.self.inside.starts.items c.self.inside.count c.self.invariant) ∙ ap sum c.self.view_is
