-- What each target is (Python 3.12 language reference, 7.2 for the forms of targets; 8.3, 8.5 and 7.5 for where they stand).
use Rattle.std.specs.Prelude.{List, [], ◌∷◌}
use Rattle.py_base.specs.declared.node.Word.{Word}
use Rattle.py_base.specs.declared.node.Word.TheVariants as words
use Rattle.py_base.specs.declared.ids.NodeId.{NodeId}
use Rattle.py_base.specs.declared.node.Node.{Node}
use Rattle.py_base.specs.declared.node.NodeKind.{NodeKind}
use Rattle.py_base.specs.declared.node.NodeKind.TheVariants as kinds
use Rattle.py_base.specs.Nodes.{kind_at, parts_at, word_at}
use Rattle.node_shapes.specs.declared.targets.Target.{Target}
use Rattle.node_shapes.specs.declared.targets.Target.TheVariants as targets

abbrev pub target_by : NodeKind → Word → List NodeId → Target
target_by kinds.Name (words.Name m) parts = targets.Name m
target_by kinds.Attribute (words.Name m) (e ∷ []) = targets.Attribute e m
target_by kinds.Subscript word (e ∷ index ∷ []) = targets.Subscript e index
target_by kinds.Starred word (t ∷ []) = targets.Starred t
target_by kinds.Round word (t ∷ []) = targets.Group t
target_by kinds.Round word parts = targets.List
target_by kinds.Square word parts = targets.List
target_by kinds.Entries word parts = targets.List
target_by kinds.Targets word parts = targets.List
target_by kind word parts = targets.NoTarget

-- WHAT A TARGET IS; those of a list are its entries
abbrev pub target : List Node → NodeId → Target
target nodes n = target_by (kind_at nodes n) (word_at nodes n) (parts_at nodes n)
