use Rattle.std.proofs.Common.{◌≡◌, map, take}
use Rattle.builtin_rows.specs.Rows.{builtin_named}
use Rattle.builtin_rows.proofs.types.types_of.Given as goal

abbrev pub invariant-loop-name : goal.invariant-loop-name
invariant-loop-name l = l.types ≡ map builtin_named (map (λ n. n.now) (take l.name-index l.names))
