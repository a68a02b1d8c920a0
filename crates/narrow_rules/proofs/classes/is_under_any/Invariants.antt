use Rattle.std.proofs.Common.{◌≡◌, drop}
use Rattle.std.specs.List.{list_any}
use Rattle.class_rows.specs.Rows.{is_sub_of}
use Rattle.narrow_rules.proofs.classes.is_under_any.Given as goal

abbrev pub invariant-loop-high : goal.invariant-loop-high
invariant-loop-high l = list_any (is_sub_of l.classes l.class) (drop l.high-index l.listed) ≡ list_any (is_sub_of l.classes l.class) l.listed
