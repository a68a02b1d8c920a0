-- The whole table is right, by its parts.
use Rattle.std.proofs.Common.{◌≡◌, ℕ, ◌-◌, ◌^◌, min, List, Bool, Option, Some, slice_get, length, subst, sym, ap, ◌∙◌}
use Rattle.py_base.specs.declared.ids.NodeId.{NodeId}
use Rattle.py_base.specs.declared.ids.RefId.{RefId}
use Rattle.py_base.specs.Tree.{Arena}
use Rattle.py_scopes.specs.declared.owner.Owner.{Owner}
use Rattle.flow_forms.specs.Forms.{forms_of}
use Rattle.point_graph.specs.Graph.{Numbered, points_or}
use Rattle.node_references.specs.declared.referred.NodeReferences.{NodeReferences}
use Rattle.node_references.specs.Numbers.{AreNodeReferences}
use Rattle.node_references.specs.Numbering.{AreKnown}
use Rattle.flow_graph.specs.declared.binding.NodeMarks.{NodeMarks}
use Rattle.flow_graph.specs.declared.condition.Tested.{Tested}
use Rattle.flow_graph.specs.Targets.{bound_nodes}
use Rattle.flow_graph.specs.Bindings.{run_nodes}
use Rattle.node_references.specs.Marks.{AreMarks}
use Rattle.flow_graph.specs.Numbering.{read_by, binding_id, running_by, AreRunning, test_by, AreSubjects, IsTable}
use Rattle.flow_graph.specs.Table.{AreOccurring, sizes, AreReferences}
use Rattle.flow_graph.proofs.Marking.{reads_right, bindings_right}
use Rattle.flow_graph.proofs.Subjecting.{running_right, AreTested, tests_right}

-- `seen_*` is what a call saw of a part of the table
pub references_right : (a : Arena) (os : List Owner) (g : Numbered) (nodes : NodeReferences) (marks : NodeMarks) (reads : List (Option RefId))
    (bindings : List (Option (RefId × NodeId))) (tests : List Tested) (graphs : List (List RefId)) (size : ℕ)
    (table : List (Option RefId)) (bound : List NodeId) (seen_bound : List Bool) (subjects : List (Option NodeId)) (seen_reads : List (Option RefId))
    (seen_bindings : List (Option (RefId × NodeId))) (seen_graphs : List (List RefId)) (run : List Bool) (running seen_running : List (Option RefId))
    → AreNodeReferences a os nodes → table ≡ nodes.numbers → bound ≡ bound_nodes a → AreSubjects (forms_of a) (length a.nodes) subjects
    → AreMarks (run_nodes g.points) (length a.nodes) marks.run → AreMarks bound (length a.nodes) marks.bound
    → IsTable (λ (i : ℕ). read_by a.nodes marks.run marks.bound table (record { 0 = i })) (length a.nodes) reads
    → seen_bound ≡ marks.bound → IsTable (λ (i : ℕ). binding_id a.nodes seen_bound table (slice_get g.points i)) (length g.points) bindings
    → run ≡ marks.run → IsTable (running_by run table) (length a.nodes) running
    → seen_running ≡ running
    → IsTable (λ (i : ℕ). test_by a marks.run marks.bound subjects seen_running (record { 0 = i })) (length a.nodes) tests
    → seen_reads ≡ reads → seen_bindings ≡ bindings → length graphs ≡ length a.nodes
    → ((n : ℕ) (refs : List RefId) → slice_get graphs n ≡ Some refs → AreOccurring g.points seen_reads seen_bindings (points_or (slice_get g.graphs n)) refs)
    → seen_graphs ≡ graphs → size ≡ min (sizes g 0 seen_graphs) (2 ^ 64 - 1)
    → AreReferences a os g (record { list = nodes.list; prefixes = nodes.prefixes; reads = reads; bindings = bindings; tests = tests; graphs = graphs; size = size })
references_right a os g nodes marks reads bindings tests graphs size table bound seen_bound subjects seen_reads seen_bindings seen_graphs run running seen_running
    right numbered binds subjected runs bounded read saw bind ran mask masked test readed binded long occur graphed sized =
    let known : AreKnown a os nodes.list table = subst (λ (l : List (Option RefId)). AreKnown a os nodes.list l) (sym numbered) right.exact in
    let bounds : AreMarks (bound_nodes a) (length a.nodes) marks.bound = subst (λ (l : List NodeId). AreMarks l (length a.nodes) marks.bound) binds bounded in
    let run_known : AreRunning a os g.points nodes.list running =
    running_right a os g.points nodes.list table running marks.run known (ap (λ (l : List (Option RefId)). length l) numbered ∙ right.long) runs
    (subst (λ (m : List Bool). IsTable (running_by m table) (length a.nodes) running) ran mask) in
    let tested : (n : NodeId) → AreTested a os g.points nodes.list tests n =
    tests_right a os g.points nodes.list running marks.run marks.bound subjects tests run_known runs bounds subjected
    (subst (λ (l : List (Option RefId)). IsTable (λ (i : ℕ). test_by a marks.run marks.bound subjects l (record { 0 = i })) (length a.nodes) tests) masked test) in
    record {
      apart = right.apart;
      each = λ i r at. let (n, lt, is) = right.each i r at in (n, is);
      ordered = right.ordered;
      prefixes = right.prefixes;
      reads = reads_right a os g.points nodes.list table marks.run marks.bound reads known runs bounds read;
      bindings = bindings_right a os g.points nodes.list table marks.bound bindings known bounds
          (subst (λ (b : List Bool). IsTable (λ (i : ℕ). binding_id a.nodes b table (slice_get g.points i)) (length g.points) bindings) saw bind);
      tests = λ n. (tested n).0;
      mirrors = λ n. (tested n).1;
      count = long;
      graphs = subst (λ (b : List (Option (RefId × NodeId))). (n : ℕ) (refs : List RefId) → slice_get graphs n ≡ Some refs
          → AreOccurring g.points reads b (points_or (slice_get g.graphs n)) refs) binded
          (subst (λ (l : List (Option RefId)). (n : ℕ) (refs : List RefId) → slice_get graphs n ≡ Some refs
          → AreOccurring g.points l seen_bindings (points_or (slice_get g.graphs n)) refs) readed occur);
      size = sized ∙ ap (λ (l : List (List RefId)). min (sizes g 0 l) (2 ^ 64 - 1)) graphed;
    }
