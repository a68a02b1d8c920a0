use Rattle.op_rules.specs.Members.{through_all}
use Rattle.op_rules.specs.Protocols.{behind_method, by_symbol}
use Rattle.op_rules.proofs.RuleLemmas.{own_unhidden}
use Rattle.op_rules.proofs.methods.with_row.Goals as goal

pub returns-in_ok-all-in_default : goal.returns-in_ok-all-in_default
returns-in_ok-all-in_default g c = λ y own.
    let w = g.P.Program.world c.args.program.now in
    own_unhidden w (by_symbol w) c.args.symbols.now (behind_method w c.args.class y) y c.in_ok-all-in_default.all c.in_default.len_at_least
    (c.in_ok-all-in_default.ensures w (through_all (by_symbol w) c.args.symbols.now) (behind_method w c.args.class y) (c.in_ok-parts-in_default.ensures w) (c.in_ok-behind-in_default.ensures y own))
