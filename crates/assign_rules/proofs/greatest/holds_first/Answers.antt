use Rattle.std.proofs.Common.{◌≡◌, length, true, replicate, sym, ap, ◌∙◌}
use Rattle.assign_rules.specs.Greatest.{is_marked}
use Rattle.assign_rules.proofs.Marks.{greatest, keeps_on}
use Rattle.assign_rules.proofs.greatest.holds_first.Goals as goal

pub returns : goal.returns
returns c =
    let clauses = c.args.clauses.now in
    let marks = c.take_away.new.set in
    let long : length marks ≡ length clauses = c.take_away.ensures.length ∙ c.passes.invariant.long in
    let keeps = keeps_on clauses (replicate (length clauses) true) c.passes.set marks c.passes.invariant.keeps c.take_away.ensures.keeps in
    let whole = greatest clauses marks 0 long keeps (c.take_away.ensures.holds c.passes-test.false) in
    let is : c.is_in.result ≡ is_marked marks 0 = c.is_in.ensures ∙ ap (λ m. is_marked m 0) c.as_slice.ensures in
    (λ h. whole.0 (sym is ∙ h), λ g. is ∙ whole.1 g)
