use Rattle.std.proofs.Common.{◌≡◌, drop, map}
use Rattle.narrow_rules.specs.declared.sides.Kept.TheVariants.{Nothing}
use Rattle.narrow_rules.specs.Keep.{any_true, entry_keeps}
use Rattle.narrow_rules.proofs.table.any_entry.Given as goal

abbrev pub invariant-loop-entry : goal.invariant-loop-entry
invariant-loop-entry l = any_true (map entry_keeps (drop l.entry-index l.entries)) l.atom l.kept ≡ any_true (map entry_keeps l.entries) l.atom Nothing
