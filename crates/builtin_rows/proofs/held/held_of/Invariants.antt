use Rattle.std.proofs.Common.{◌≡◌, map, take}
use Rattle.builtin_rows.specs.Held.{held_from}
use Rattle.builtin_rows.specs.Table.{rows}
use Rattle.builtin_rows.proofs.held.held_of.Given as goal

abbrev pub invariant-loop-name : goal.invariant-loop-name
invariant-loop-name l = l.held ≡ map (λ text. held_from text 0 rows) (map (λ n. n.now) (take l.name-index l.names))
