use Rattle.std.proofs.Common.{◌≡◌, [], ◌∷◌, ◌++◌, sym, ap, subst, ◌∙◌}
use Rattle.std.specs.Prelude.{OnOk}
use Rattle.narrow_rules.proofs.RowLemmas.{instances_set, instances_one}
use Rattle.narrow_rules.proofs.ground.push_instances.Goals as goal

pub returns-then-is_set : goal.returns-then-is_set
returns-then-is_set g c =
    let names = g.N.Names.names c.args.names.now in
    subst (λ more. OnOk c.push_set.result (c.push_set.new.atoms.items ≡ c.args.atoms.now.items ++ more)) (sym (instances_set names c.args.class (sym c.is_set.ensures ∙ c.if-is_set.true))) c.push_set.ensures

pub returns : goal.returns
returns g c =
    let names = g.N.Names.names c.args.names.now in
    let one = ap (λ a. a ∷ []) c.in_ok-instance.ensures ∙ sym (instances_one names c.args.class (sym c.is_set.ensures ∙ c.if-is_set.false)) in
    subst (λ more. OnOk c.push.result (c.push.new.atoms.items ≡ c.args.atoms.now.items ++ more)) one c.push.ensures
