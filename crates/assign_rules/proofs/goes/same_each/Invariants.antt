use Rattle.std.proofs.Common.{◌≡◌, ◌++◌, drop}
use Rattle.assign_rules.specs.Goes.{same_each}
use Rattle.assign_rules.proofs.goes.same_each.Given as goal

-- what has been asked, and what is left to ask
abbrev pub invariant-loop-one : goal.invariant-loop-one
invariant-loop-one l = l.questions ++ same_each (drop l.one-index l.own) l.rest ≡ same_each l.own l.wanted
