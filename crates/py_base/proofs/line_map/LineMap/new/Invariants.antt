use Rattle.std.specs.Str.Iter.{chars_rest}
use Rattle.py_base.proofs.ScanLaws.{IsScanned}
use Rattle.py_base.proofs.line_map.LineMap.new.Given as goal

abbrev pub invariant-loop-c : goal.invariant-loop-c
invariant-loop-c l =
    (goal.iterator-loop-c).can_next l.rest × (goal.iterator-loop-c).is_finite l.rest × IsScanned l.text l.starts.items l.count (chars_rest l.rest)
