use Rattle.std.proofs.Common.{◌≡◌, ◌≤◌, ◌+◌, length, map, fold, take}
use Rattle.py_base.specs.Tree.{with_name}
use Rattle.py_base.proofs.tree.Tree.intern_all.Given as goal

abbrev pub invariant-loop-name : goal.invariant-loop-name
invariant-loop-name l = (l.self.nodes ≡ l.fn.self.nodes) × (l.self.names ≡ fold with_name l.fn.self.names (map (λ n. n.now) (take l.name-index l.names))) × (length l.self.names ≤ length l.fn.self.names + l.name-index)
