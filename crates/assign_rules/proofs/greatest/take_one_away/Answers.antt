use Rattle.std.proofs.Common.{◌≡◌, sym, ap, subst, ◌∙◌, ◌<◌}
use Rattle.assign_rules.specs.Greatest.{is_marked, IsMarked, HoldsBy, KeepsEach, count}
use Rattle.assign_rules.proofs.Marks.{taken_keeps, unmarked_fewer}
use Rattle.assign_rules.proofs.greatest.take_one_away.Goals as goal

pub returns-clause-keeps : goal.returns-clause-keeps
returns-clause-keeps c =
    let needs = c.args.clauses.now in let old = c.args.set.now in
    let fails : HoldsBy old c.index-clauses-place.result → ⊥ = λ h. let marks : c.as_slice-2.result.now ≡ old = c.as_slice-2.ensures in let no : ⊥ = cc (c.holds.ensures, c.if-holds.false, h) in absurd no in
    subst (KeepsEach needs old) (sym c.set.ensures) (taken_keeps needs old c.args.place c.index-clauses-place.result c.requires c.index-clauses-place.is fails)

pub returns-clause-fewer : goal.returns-clause-fewer
returns-clause-fewer c = λ _.
    let old = c.args.set.now in
    let here : IsMarked old c.args.place = ap (λ m. is_marked m c.args.place) (sym c.as_slice.ensures) ∙ sym c.is_in.ensures ∙ c.if-not-is_in.false in
    subst (λ m. count m < count old) (sym c.set.ensures) (unmarked_fewer old c.args.place here)
