use Rattle.std.proofs.Common.{◌≡◌, subst}
use Rattle.type_terms.specs.Text.{text}
use Rattle.diagnostics.proofs.message.both_shown.Goals as goal

pub returns-clause-value : goal.returns-clause-value
returns-clause-value g c =
    (c.in_ok-first.ensures.value, subst (λ m. c.in_ok-second.second ≡ text m 4 c.args.right.now) c.type_text.ensures.same c.in_ok-second.ensures.value)

pub returns-clause-stays : goal.returns-clause-stays
returns-clause-stays g c = g.V.Types.keeps_on _ _ _ c.type_text.ensures.stays c.type_text-2.ensures.stays
