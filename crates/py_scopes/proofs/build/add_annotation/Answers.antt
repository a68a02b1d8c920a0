use Rattle.std.proofs.Common.{sym, ap, ◌∙◌}
use Rattle.std.specs.Prelude.{slice_get}
use Rattle.py_scopes.proofs.Passes.{adds-set, adds-unbound_annotation}
use Rattle.py_scopes.proofs.build.add_annotation.Goals as goal

pub returns-in-Some-number_bound-clause-adds : goal.returns-in-Some-number_bound-clause-adds
returns-in-Some-number_bound-clause-adds c =
    let number = c.in-Some-number_bound.number in
    adds-set c.args.instances.now c.args.numbers.now.keys c.args.occurrence.now number c.in-Some.annotation c.earliest_to-first.result c.so_far.result c.args.earliest.now c.set.new.self c.requires.unique
    (sym c.number_bound.ensures.value ∙ c.in-Some-number_bound.is) c.in-Some.is (ap (λ l. slice_get l number) (sym c.as_slice.ensures) ∙ c.so_far.ensures) c.earliest_to-first.ensures c.set.ensures

pub returns-in_default-number_bound-clause-adds : goal.returns-in_default-number_bound-clause-adds
returns-in_default-number_bound-clause-adds c =
    adds-unbound_annotation c.args.instances.now c.args.numbers.now.keys c.args.occurrence.now c.args.earliest.now c.requires.unique (sym c.number_bound.ensures.value ∙ c.in_default-number_bound.is)
