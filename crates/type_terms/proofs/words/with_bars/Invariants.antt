use Rattle.std.proofs.Common.{◌≡◌, ◌++◌, take, string_bytes}
use Rattle.std.specs.List.{flat_map}
use Rattle.std.specs.Prelude.{codes}
use Rattle.type_terms.proofs.words.with_bars.Given as goal

abbrev pub invariant-loop-other : goal.invariant-loop-other
invariant-loop-other l = string_bytes l.all ≡ string_bytes l.initial.all ++ flat_map (λ u. codes " | " ++ u) (take l.other-index l.others)
