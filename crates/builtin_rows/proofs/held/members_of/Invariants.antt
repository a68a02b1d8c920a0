use Rattle.std.proofs.Common.{◌≡◌, map, take}
use Rattle.builtin_rows.specs.Held.{members_of}
use Rattle.builtin_rows.specs.Table.{entries}
use Rattle.builtin_rows.proofs.held.members_of.Given as goal

abbrev pub invariant-loop-name : goal.invariant-loop-name
invariant-loop-name l = l.members ≡ map (λ text. members_of text entries) (map (λ n. n.now) (take l.name-index l.names))
