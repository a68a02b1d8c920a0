use Rattle.std.proofs.Common.{◌≡◌, drop}
use Rattle.std.specs.List.{list_any}
use Rattle.narrow_rules.specs.Ground.{is_under}
use Rattle.narrow_rules.proofs.written.is_under_one.Given as goal

abbrev pub invariant-loop-other : goal.invariant-loop-other
invariant-loop-other l = list_any (is_under l.classes l.atom) (drop l.other-index l.others) ≡ list_any (is_under l.classes l.atom) l.others
