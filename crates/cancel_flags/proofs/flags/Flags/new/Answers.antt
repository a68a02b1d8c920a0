use Rattle.std.proofs.Common.{◌≡◌, ℕ, List, [], replicate, ap, sym, subst, ◌∙◌}
use Rattle.atomic_table.specs.Table.{Me, opening}
use Rattle.cancel_flags.specs.declared.view.View.{View}
use Rattle.cancel_flags.specs.Rule.{IsRuled, new_raiser}
use Rattle.cancel_flags.specs.Ends.{Raising}
use Rattle.cancel_flags.proofs.Steps.{opens}
use Rattle.cancel_flags.proofs.flags.Flags.new.Goals as goal

pub of_words-requires : goal.of_words-requires
of_words-requires c = subst (λ (ws : List ℕ). IsRuled (opening ws [] new_raiser)) (sym c.all_zero-zeros.ensures) opens

pub returns-clause-raiser : goal.returns-clause-raiser
returns-clause-raiser c =
    let table = c.in_ok-table.ensures in
    let view = ap (λ (me : Me (Unit {0}) View). me.0) table.4 in
    c.in_ok-watchers.ensures.same ∙ (λ i. record { flags = table.2 i; claimed = (c.in_ok-claimed.ensures.items ∙ c.all_zero-zeros.ensures) i; view = view i })
