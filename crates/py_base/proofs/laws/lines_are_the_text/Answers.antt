use Rattle.py_base.proofs.LineLaws.{ArePhysicalLines-physical_lines, ArePhysicalLines-unique}
use Rattle.py_base.proofs.laws.lines_are_the_text.Goals as goal

pub returns : goal.returns
returns c = record { lines = ArePhysicalLines-physical_lines; unique = ArePhysicalLines-unique }
