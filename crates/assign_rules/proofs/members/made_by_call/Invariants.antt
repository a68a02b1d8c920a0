use Rattle.std.proofs.Common.{◌≡◌, ◌++◌, ◌-◌}
use Rattle.type_terms.specs.Widen.{members_from}
use Rattle.assign_rules.proofs.members.made_by_call.Given as goal

-- the members so far, and those that are left
abbrev pub invariant-loop-place : goal.invariant-loop-place
invariant-loop-place g l = l.members ++ members_from l.class l.place (l.count - l.place) ≡ members_from l.class 0 l.count
