use Rattle.std.proofs.Common.{◌≡◌, ◌==◌, cond, arith, sym, ap, ◌∙◌}
use Rattle.std.specs.Prelude.{Some, is_some}
use Rattle.std.proofs.lemmas.Grind.{common_steps}
use Rattle.class_rows.specs.Rows.{symbol_in}
use Rattle.class_rows.proofs.Symbols.{added_present, added_absent}
use Rattle.class_rows.proofs.members.add_first.Goals as goal

pub returns-then-is_some : goal.returns-then-is_some
returns-then-is_some c = λ n.
    added_present n c.args.name c.args.symbol c.args.map.now.entries (ap is_some (sym c.find.ensures) ∙ sym c.is_some.ensures ∙ c.if-is_some.true)

pub returns-in-Ok : goal.returns-in-Ok
returns-in-Ok c = λ n.
    let f : symbol_in n c.insert.new.self.entries ≡ cond (c.args.name.0 == n.0) (Some c.args.symbol) (symbol_in n c.args.map.now.entries) = grind (arith, common_steps, c.in-Ok.ensures.updates.0 n) in
    added_absent n c.args.name c.args.symbol c.args.map.now.entries c.insert.new.self.entries (ap is_some (sym c.find.ensures) ∙ sym c.is_some.ensures ∙ c.if-is_some.false) f
