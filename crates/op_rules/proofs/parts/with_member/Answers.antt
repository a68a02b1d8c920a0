use Rattle.std.proofs.Common.{sym, subst}
use Rattle.op_rules.specs.Steps.{IsFlat, step_weight}
use Rattle.value_terms.specs.Chain.{chain_rank}
use Rattle.op_rules.proofs.RuleLemmas.{flat_with}
use Rattle.op_rules.proofs.parts.with_member.Goals as goal

pub returns-clause-flat : goal.returns-clause-flat
returns-clause-flat c h = subst IsFlat (sym c.in_ok-push.ensures.ok) (flat_with (chain_rank step_weight) c.args.parts c.in_ok-ty.ty h)
