use Rattle.std.proofs.lemmas.List.{length-map}
use Rattle.py_base.proofs.LineLaws.{some_line, sum-lengths}
use Rattle.py_base.proofs.laws.lines_have_all.Goals as goal

pub returns : goal.returns
returns c = record { some = λ text. rw length-map (some_line text); all = sum-lengths }
