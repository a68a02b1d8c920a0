use Rattle.std.proofs.Common.{◌≡◌, ◌++◌, ◌-◌}
use Rattle.type_terms.specs.Widen.{members_from}
use Rattle.narrow_rules.proofs.ground.push_enum.Given as goal

abbrev pub invariant-loop-place : goal.invariant-loop-place
invariant-loop-place l = l.atoms.items ++ members_from l.class l.place (l.count - l.place) ≡ l.initial.atoms.items ++ members_from l.class 0 l.count
