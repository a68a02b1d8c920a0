use Rattle.std.proofs.Common.{sym, subst}
use Rattle.op_rules.specs.Members.{through_all}
use Rattle.op_rules.specs.Steps.{IsValue, path_value}
use Rattle.op_rules.proofs.RuleLemmas.{is_all}
use Rattle.op_rules.proofs.members.through.Goals as goal

pub returns : goal.returns
returns c = λ w. subst (λ ps. IsValue w ps (through_all (path_value w c.args.path) c.args.symbols.now)) (sym c.in_ok-parts.ensures) (is_all w c.args.path c.args.symbols.now)
