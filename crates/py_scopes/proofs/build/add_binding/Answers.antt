use Rattle.std.proofs.Common.{sym, ◌∙◌}
use Rattle.py_scopes.proofs.Passes.{adds-put, adds-unbound}
use Rattle.py_scopes.proofs.build.add_binding.Goals as goal

pub returns-in-Some-clause-adds : goal.returns-in-Some-clause-adds
returns-in-Some-clause-adds c =
    adds-put c.args.instances.now c.args.numbers.now.keys c.args.occurrence.now c.in-Some.number c.bound_node.result c.args.bound.now.items c.put_binding.new.lists.items c.put_binding.result c.requires.unique
    (sym c.number_bound.ensures.value ∙ c.in-Some.is) (sym c.does_give_value.ensures ∙ c.if-not-does_give_value.false) c.bound_node.ensures c.put_binding.ensures.puts

pub returns-in-None-clause-adds : goal.returns-in-None-clause-adds
returns-in-None-clause-adds c =
    adds-unbound c.args.instances.now c.args.numbers.now.keys c.args.occurrence.now c.args.bound.now.items c.requires.unique (sym c.number_bound.ensures.value ∙ c.in-None.is)
