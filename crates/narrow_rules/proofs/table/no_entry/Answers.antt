use Rattle.std.proofs.Common.{◌≡◌, ◌+◌, false, not, drop, map, sym, ap, ◌∙◌}
use Rattle.narrow_rules.specs.declared.sides.Kept.TheVariants.{Itself, Nothing}
use Rattle.narrow_rules.specs.Keep.{only_true, side, entry_keeps}
use Rattle.narrow_rules.proofs.KeptLemmas.{all_more, all_false-nothing}
use Rattle.narrow_rules.proofs.table.no_entry.Goals as goal

pub returns-then-is_entry : goal.returns-then-is_entry
returns-then-is_entry c =
    let x = c.entry-item.result in let a = c.args.atom.now in let i = c.loop-entry.entry-index in let entries = c.args.entries.now in
    let dropped : entry_keeps x false a ≡ Nothing = c.is_entry.ensures ∙ ap (λ b. side (not b) only_true) c.if-is_entry.true in
    sym (all_false-nothing (map entry_keeps (drop (i + 1) entries)) a) ∙ all_more entry_keeps entries i x a Itself Nothing _ c.loop-entry-test.true c.entry-item.is c.loop-entry.invariant (sym dropped)
