use Rattle.std.proofs.Common.{◌<◌, ◌+◌, length, slice_get, Some, arith, sym, ◌≡◌, ◌∙◌, ap}
use Rattle.std.proofs.lemmas.Option.{slice_get-get_or}
use Rattle.py_base.specs.TreeLaws.{AreLinked-at, AreOlder-later}
use Rattle.py_base.proofs.tree.Tree.node.Goals as goal

pub returns-clause-older : goal.returns-clause-older
returns-clause-older c =
    let within : c.args.id.0 < length c.self.inside.nodes.items = rw (← c.self.view_is) at c.requires in
    let stored : slice_get c.self.inside.nodes.items c.args.id.0 ≡ Some c.index.result.now = slice_get-get_or c.self.inside.nodes.items c.args.id.0 c.index.result.now within ∙ ap (λ n. Some n) (sym c.index.ensures) in
    AreOlder-later (0 + c.args.id.0) c.args.id.0 c.index.result.now.parts (omega arith) (AreLinked-at _ 0 c.args.id.0 c.self.inside.nodes.items c.index.result.now c.self.invariant.0 stored).0
