-- Marks of nodes.
use Rattle.std.proofs.Common.{ℕ, ◌+◌, ◌<◌, Bool, List, [], ◌∷◌, ◌++◌, sym, subst, length, get_or, take}
use Rattle.std.proofs.lemmas.List.{take_more}
use Rattle.py_base.specs.declared.ids.NodeId.{NodeId}
use Rattle.node_references.specs.Marks.{AreMarks}

abbrev pub no_node : NodeId
no_node = record { 0 = 0 }

-- one more mark
pub mark_next : (nodes : List NodeId) (i count : ℕ) (marks : List Bool) → i < length nodes
    → AreMarks (take i nodes ++ get_or nodes i no_node ∷ []) count marks → AreMarks (take (i + 1) nodes) count marks
mark_next nodes i count marks lt h = subst (λ (l : List NodeId). AreMarks l count marks) (sym (take_more nodes i no_node lt)) h
