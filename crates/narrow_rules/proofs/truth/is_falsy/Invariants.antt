use Rattle.std.proofs.Common.{◌≡◌, drop}
use Rattle.std.specs.List.{list_any}
use Rattle.narrow_rules.specs.Ground.{is_below}
use Rattle.narrow_rules.specs.Keep.{is_falsy}
use Rattle.narrow_rules.proofs.truth.is_falsy.Given as goal

abbrev pub invariant-loop-builtin : goal.invariant-loop-builtin
invariant-loop-builtin l = list_any (is_below l.classes l.class) (drop l.builtin-index l.builtin-items) ≡ is_falsy l.classes l.class
