-- Parts of a node by their kinds: the first of a kind, and all but the comma behind the last (Python 3.12 language reference, 6.15 and 6.2.3
-- for commas; the arena of nodes is this project's own).
use Rattle.std.specs.Prelude.{Bool, true, false, List, [], ◌∷◌, Option, None, Some, if◌then◌else◌}
use Rattle.std.specs.List.{find}
use Rattle.py_base.specs.declared.ids.NodeId.{NodeId}
use Rattle.py_base.specs.declared.node.Node.{Node}
use Rattle.py_base.specs.declared.node.NodeKind.{NodeKind}
use Rattle.py_base.specs.declared.node.NodeKind.TheVariants as kinds
use Rattle.py_base.specs.Nodes.{kind_at, parts_at}

abbrev pub is_last_comma : NodeKind → Bool
is_last_comma kinds.LastComma = true
is_last_comma _ = false

-- all but the comma behind the last
abbrev pub without_comma : List Node → List NodeId → List NodeId
without_comma nodes [] = []
without_comma nodes (p ∷ []) = if is_last_comma (kind_at nodes p) then [] else p ∷ []
without_comma nodes (p ∷ q ∷ more) = p ∷ without_comma nodes (q ∷ more)

abbrev pub head : List NodeId → Option NodeId
head [] = None
head (p ∷ more) = Some p

-- the first part of a kind
abbrev pub part_of : List Node → (NodeKind → Bool) → NodeId → Option NodeId
part_of nodes passes n = find (λ p. passes (kind_at nodes p)) (parts_at nodes n)

abbrev pub first_of : List Node → NodeId → Option NodeId
first_of nodes n = head (parts_at nodes n)

-- the last part, and of a node without parts the node
abbrev pub last_or : NodeId → List NodeId → NodeId
last_or here [] = here
last_or here (p ∷ more) = last_or p more

abbrev pub but_last : List NodeId → List NodeId
but_last [] = []
but_last (p ∷ []) = []
but_last (p ∷ q ∷ more) = p ∷ but_last (q ∷ more)
