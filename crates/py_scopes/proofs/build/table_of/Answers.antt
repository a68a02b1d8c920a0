use Rattle.std.proofs.Common.{◌∙◌}
use Rattle.py_scopes.proofs.Whole.{whole, made-of-parts}
use Rattle.py_scopes.proofs.build.table_of.Goals as goal

pub invariant_of-result : goal.invariant_of-result
invariant_of-result c =
    let a = c.args.tree.now in
    let keys = c.args.numbers.now.keys in
    whole a c.args.instances.now keys _ c.requires.room c.requires.below
    (made-of-parts a c.args.instances.now keys _ c.in_ok-owners.ensures (c.roles.view_is ∙ c.requires.roles) c.in_ok-facts.ensures c.in_ok-annotations.ensures c.in_ok-all_bindings.ensures c.in_ok-all_members.ensures)

pub returns : goal.returns
returns c =
    made-of-parts c.args.tree.now c.args.instances.now c.args.numbers.now.keys _ c.in_ok-owners.ensures (c.roles.view_is ∙ c.requires.roles) c.in_ok-facts.ensures c.in_ok-annotations.ensures c.in_ok-all_bindings.ensures
    c.in_ok-all_members.ensures
