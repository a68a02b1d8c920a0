-- Tables by marks and numbers, while what is read, bound and tested is found (for proofs alone: no caller sees a mark).
use Rattle.std.specs.Prelude.{ℕ, ◌≡◌, ◌<◌, Bool, false, not, ◌&&◌, if◌then◌else◌, List, [], Option, None, Some, slice_get, slice_index_or, length}
use Rattle.py_base.specs.declared.ids.NodeId.{NodeId}
use Rattle.py_base.specs.declared.ids.RefId.{RefId}
use Rattle.py_base.specs.declared.node.Node.{Node}
use Rattle.py_base.specs.Tree.{Arena}
use Rattle.flow_rows.specs.declared.form.Form.{Form}
use Rattle.flow_rows.specs.declared.point.Point.{Point}
use Rattle.py_base.specs.Nodes.{kind_at, parts_at}
use Rattle.py_scopes.specs.declared.owner.Owner.{Owner}
use Rattle.node_references.specs.Reference.{Reference}
use Rattle.node_references.specs.Numbers.{flat, IsNumberOf}
use Rattle.flow_graph.specs.declared.binding.Binder.{Binder}
use Rattle.node_references.specs.Marks.{is_among}
use Rattle.flow_graph.specs.Targets.{is_place}
use Rattle.flow_graph.specs.Bindings.{run_at, binder_by}
use Rattle.flow_graph.specs.declared.condition.Tests.{Tests}
use Rattle.flow_graph.specs.declared.condition.Tested.{Tested}
use Rattle.flow_graph.specs.Tests.{when, or_else, subject_in, subject_among, written, node_tests, tested_by, mirrored_by, running_reference}

-- the node of a point that is the node's own
abbrev pub run_of : Option Point → List NodeId
run_of None = []
run_of (Some p) = run_at p.role p.node

-- what is read at a node, by marks and numbers
abbrev pub is_read_by : List Node → List Bool → NodeId → Bool
is_read_by nodes bound n = is_place (kind_at nodes n) && not (slice_index_or bound n.0 false)

abbrev pub read_by : List Node → List Bool → List Bool → List (Option RefId) → NodeId → Option RefId
read_by nodes run bound table n =
    if slice_index_or run n.0 false && is_read_by nodes bound n then flat (slice_get table n.0) else None

-- what a point binds, by marks and numbers
abbrev pub with_node : Option RefId → NodeId → Option (RefId × NodeId)
with_node None n = None
with_node (Some id) n = Some (id, n)

abbrev pub id_of : List (Option RefId) → Option Binder → Option (RefId × NodeId)
id_of table None = None
id_of table (Some b) = with_node (flat (slice_get table b.target.0)) b.node

abbrev pub binding_id : List Node → List Bool → List (Option RefId) → Option Point → Option (RefId × NodeId)
binding_id nodes bound table None = None
binding_id nodes bound table (Some p) =
    id_of table (binder_by nodes (slice_index_or bound p.node.0 false) p.node (kind_at nodes p.node) (parts_at nodes p.node) p.role)

-- for each node before a number the subject of the `match` whose case it is, by these forms
abbrev pub AreSubjects : List Form → ℕ → List (Option NodeId) → Type 0
AreSubjects forms count table = (length table ≡ count) × ((n : NodeId) → n.0 < count → flat (slice_get table n.0) ≡ subject_among n forms)

-- a subject, where the node is one of these cases
abbrev pub subject_if : List NodeId → NodeId → NodeId → Option NodeId
subject_if cases subject n = if is_among cases n then Some subject else None

-- the table after the subject is put behind those that stand for these cases
abbrev pub IsPut : List NodeId → NodeId → List (Option NodeId) → List (Option NodeId) → Type 0
IsPut cases subject old new =
    (length new ≡ length old) × ((n : NodeId) → n.0 < length old → flat (slice_get new n.0) ≡ or_else (flat (slice_get old n.0)) (subject_if cases subject n))

-- the same for the cases of a form
abbrev pub IsPutBy : Form → List (Option NodeId) → List (Option NodeId) → Type 0
IsPutBy form old new = (length new ≡ length old) × ((n : NodeId) → n.0 < length old → flat (slice_get new n.0) ≡ or_else (flat (slice_get old n.0)) (subject_in n form))

-- the number of the reference of a node that runs, by marks and numbers
abbrev pub running_by : List Bool → List (Option RefId) → ℕ → Option RefId
running_by run table n = when (slice_index_or run n false) (flat (slice_get table n))

-- for each node the number of its reference, where it runs
abbrev pub AreRunning : Arena → List Owner → List Point → List Reference → List (Option RefId) → Type 0
AreRunning a os points list table = (n : NodeId) → IsNumberOf list (flat (slice_get table n.0)) (running_reference a os points n)

-- what tests test, by the numbers of the references of nodes
abbrev pub tested_entry : List (Option RefId) → Tests → Tested
tested_entry table t = record {
  condition = tested_by (λ (n : NodeId). flat (slice_get table n.0)) t;
  mirrored = mirrored_by (λ (n : NodeId). flat (slice_get table n.0)) t;
}

-- the tests of a node that runs, by marks
abbrev pub tests_by : Arena → List Bool → List Bool → List (Option NodeId) → NodeId → Tests
tests_by a run bound subjects n =
    if slice_index_or run n.0 false then node_tests a (is_read_by a.nodes bound n) (flat (slice_get subjects n.0)) n (slice_get a.nodes n.0)
    else written None

-- what a node tests, by marks and the numbers of nodes that run
abbrev pub test_by : Arena → List Bool → List Bool → List (Option NodeId) → List (Option RefId) → NodeId → Tested
test_by a run bound subjects table n = tested_entry table (tests_by a run bound subjects n)

-- a list that has at each number what a function gives for it
abbrev pub IsTable : {A : Type 0} → (ℕ → A) → ℕ → List A → Type 0
IsTable f count list = (length list ≡ count) × ((i : ℕ) → i < count → slice_get list i ≡ Some (f i))
