use Rattle.std.proofs.Common.{◌≡◌, drop, map}
use Rattle.narrow_rules.specs.declared.sides.Kept.TheVariants.{Itself}
use Rattle.narrow_rules.specs.Keep.{all_false, entry_keeps}
use Rattle.narrow_rules.proofs.table.no_entry.Given as goal

abbrev pub invariant-loop-entry : goal.invariant-loop-entry
invariant-loop-entry l = all_false (map entry_keeps (drop l.entry-index l.entries)) l.atom Itself ≡ all_false (map entry_keeps l.entries) l.atom Itself
