use Rattle.std.proofs.Common.{◌≡◌, ◌++◌, drop, map}
use Rattle.builtin_rows.specs.Lines.{entry_in}
use Rattle.builtin_rows.specs.Held.{members_of}
use Rattle.builtin_rows.proofs.held.members_named.Given as goal

abbrev pub invariant-loop-entry : goal.invariant-loop-entry
invariant-loop-entry l = l.members ++ members_of l.text (map entry_in (drop l.entry-index l.lines)) ≡ members_of l.text (map entry_in l.lines)
