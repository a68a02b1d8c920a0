use Rattle.std.proofs.Common.{◌∷◌, [], arith, length-append}
use Rattle.py_base.specs.TreeLaws.{IsLinked-add}
use Rattle.py_base.proofs.tree.Tree.add.Goals as goal

pub invariant_of-self : goal.invariant_of-self
invariant_of-self c = rw c.in_default.ensures.items c.self.invariant

pub invariant_of-self-2 : goal.invariant_of-self-2
invariant_of-self-2 c =
    let parts = rw (← c.self.view_is) at c.requires.parts in
    let named = rw (← c.self.view_is) at c.requires.name in
    let room = rw (← c.self.view_is) at c.requires.room in
    let more = length-append c.self.inside.nodes.items (c.args.node ∷ []) in
    rw c.in-Ok.ensures.items (IsLinked-add _ c.args.node c.self.invariant.0 parts named, c.self.invariant.1, omega (arith, more, room), c.self.invariant.3)
