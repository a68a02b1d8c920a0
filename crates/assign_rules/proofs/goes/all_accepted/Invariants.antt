use Rattle.std.proofs.Common.{◌≡◌, take}
use Rattle.assign_rules.specs.Goes.{all_accepted}
use Rattle.assign_rules.proofs.goes.all_accepted.Given as goal

abbrev pub invariant-loop-low : goal.invariant-loop-low
invariant-loop-low l = l.questions ≡ all_accepted (take l.low-index l.own) l.wanted
