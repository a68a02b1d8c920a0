use Rattle.std.proofs.Common.{rules, ◌≡◌, ◌∷◌, [], sym, subst}
use Rattle.type_terms.specs.Widen.{widen, widened}
use Rattle.value_terms.specs.Told.{IsAlike}
use Rattle.op_rules.proofs.WidenLemmas.{widened_alone}
use Rattle.op_rules.proofs.step_rows.widened.Goals as goal

pub returns-clause-rule : goal.returns-clause-rule
returns-clause-rule g c =
    let w = g.P.Program.world c.args.program.now in
    let law = c.types_have_their_members.ensures in
    let is : c.in_ok-wide.wide ≡ widen w.names (c.args.member.now ∷ []) = search rules in
    c.in_ok-parts.ensures.rule w (widened w.names c.args.member.now) (subst (λ ty. IsAlike ty (widened w.names c.args.member.now)) (sym is) (widened_alone law.more law.fewer w.names c.args.member.now))
