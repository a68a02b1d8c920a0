use Rattle.std.proofs.Common.{◌≡◌, ◌++◌, drop}
use Rattle.assign_rules.specs.Goes.{accepted_each}
use Rattle.assign_rules.proofs.goes.accepted_each.Given as goal

-- what has been asked, and what is left to ask
abbrev pub invariant-loop-low : goal.invariant-loop-low
invariant-loop-low l = l.questions ++ accepted_each (drop l.low-index l.own) l.rest ≡ accepted_each l.own l.wanted
