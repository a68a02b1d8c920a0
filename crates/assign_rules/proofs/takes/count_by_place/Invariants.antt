use Rattle.std.proofs.Common.{◌≡◌, ◌≤◌, length, take}
use Rattle.std.specs.List.{filter}
use Rattle.assign_rules.specs.Takes.{is_by_place}
use Rattle.assign_rules.proofs.takes.count_by_place.Given as goal

abbrev pub invariant-loop-param : goal.invariant-loop-param
invariant-loop-param l = (l.count ≡ length (filter (λ p. is_by_place p.kind) (take l.param-index l.params))) × (l.count ≤ l.param-index)
