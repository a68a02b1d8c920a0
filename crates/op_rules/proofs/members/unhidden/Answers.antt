use Rattle.op_rules.specs.Members.{through_all}
use Rattle.op_rules.specs.Steps.{path_value}
use Rattle.op_rules.proofs.RuleLemmas.{own_unhidden}
use Rattle.op_rules.proofs.members.unhidden.Goals as goal

pub returns-in_ok-all-in_default : goal.returns-in_ok-all-in_default
returns-in_ok-all-in_default c = λ w y own.
    own_unhidden w (path_value w c.args.path) c.args.symbols.now y y c.in_ok-all-in_default.all c.in_default.len_at_least
    (c.in_ok-all-in_default.ensures w (through_all (path_value w c.args.path) c.args.symbols.now) y (c.in_ok-parts-in_default.ensures w) own)
