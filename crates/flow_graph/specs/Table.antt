-- What is known of the references of a tree's graphs, by numbers: which reference has which number, which of them occur in a graph, and
-- which are read, bound and tested where (numbers are this project's own; Python 3.12 language reference, 4.2, for what is bound).
use Rattle.std.specs.Prelude.{ℕ, ◌≡◌, ◌<◌, ◌+◌, ◌*◌, ◌^◌, ◌-◌, min, Bool, nat_eq, List, [], ◌∷◌, ◌++◌, Option, None, Some, slice_get, length, ◌⊎◌, ◌↔◌, IfSome}
use Rattle.py_base.specs.declared.ids.NodeId.{NodeId}
use Rattle.py_base.specs.declared.ids.PointId.{PointId}
use Rattle.py_base.specs.declared.ids.RefId.{RefId}
use Rattle.py_base.specs.Tree.{Arena}
use Rattle.py_scopes.specs.declared.owner.Owner.{Owner}
use Rattle.flow_rows.specs.declared.point.Point.{Point}
use Rattle.flow_rows.specs.declared.point.Role.{Role}
use Rattle.flow_rows.specs.declared.point.Role.TheVariants as roles
use Rattle.flow_rows.specs.Flow.{Has}
use Rattle.point_graph.specs.Graph.{Numbered, points_or}
use Rattle.point_graph.specs.Order.{added_once}
use Rattle.std.specs.List.{flat_map}
use Rattle.node_references.specs.Reference.{Reference}
use Rattle.node_references.specs.References.{reference_of}
use Rattle.node_references.specs.Numbers.{AreApart, flat, IsNumberOf, IsPrefixOf, AreInOrder}
use Rattle.flow_graph.specs.declared.table.References.{References}
use Rattle.flow_graph.specs.Bindings.{read, binding}
use Rattle.flow_graph.specs.declared.condition.TestForm.{TestForm}
use Rattle.flow_graph.specs.declared.condition.Tested.{Tested}
use Rattle.flow_graph.specs.Tests.{tested, mirrored}

-- the number of the reference that is read at a point, which only a node itself does
abbrev pub read_by_role : List (Option RefId) → NodeId → Role → Option RefId
read_by_role reads n roles.Own = flat (slice_get reads n.0)
read_by_role reads n role = None

abbrev pub read_at : List (Option RefId) → Option Point → Option RefId
read_at reads None = None
read_at reads (Some p) = read_by_role reads p.node p.role

abbrev pub bound_id : Option (RefId × NodeId) → Option RefId
bound_id None = None
bound_id (Some x) = Some x.0

-- a reference occurs at a point that reads or binds it
abbrev pub OccursAt : List Point → List (Option RefId) → List (Option (RefId × NodeId)) → PointId → RefId → Type 0
OccursAt points reads bindings p r = (read_at reads (slice_get points p.0) ≡ Some r) ⊎ (bound_id (flat (slice_get bindings p.0)) ≡ Some r)

-- and in a graph at one of its points
abbrev pub OccursIn : List Point → List (Option RefId) → List (Option (RefId × NodeId)) → List PointId → RefId → Type 0
OccursIn points reads bindings ids r = (p : PointId) × Has ids p × OccursAt points reads bindings p r

-- what a point reads, and what it binds
abbrev pub at_most_one : Option RefId → List RefId
at_most_one None = []
at_most_one (Some r) = r ∷ []

abbrev pub occurring_at : List Point → List (Option RefId) → List (Option (RefId × NodeId)) → PointId → List RefId
occurring_at points reads bindings p = at_most_one (read_at reads (slice_get points p.0)) ++ at_most_one (bound_id (flat (slice_get bindings p.0)))

-- one number
abbrev pub same_id : RefId → RefId → Bool
same_id one other = nat_eq one.0 other.0

-- no reference stands twice
abbrev pub AreOnce : List RefId → Type 0
AreOnce refs = (i j : ℕ) (r : RefId) → slice_get refs i ≡ Some r → slice_get refs j ≡ Some r → i ≡ j

-- THE REFERENCES OF A GRAPH: those that occur in it, each once, in the order of its points
pub record AreOccurring (points : List Point) (reads : List (Option RefId)) (bindings : List (Option (RefId × NodeId))) (ids : List PointId) (refs : List RefId) : Type 0 where
  pub exact : (r : RefId) → Has refs r ↔ OccursIn points reads bindings ids r
  pub once : AreOnce refs
  pub listed : refs ≡ added_once same_id [] (flat_map (occurring_at points reads bindings) ids)

-- numbers of references, of which there are so many
abbrev pub AreBelow : ℕ → List RefId → Type 0
AreBelow count refs = (r : RefId) → Has refs r → r.0 < count

-- what a node tests, and what it tests beside that
abbrev pub condition_of : Option Tested → Option (RefId × TestForm)
condition_of None = None
condition_of (Some t) = t.condition

abbrev pub mirrored_of : Option Tested → Option (RefId × TestForm)
mirrored_of None = None
mirrored_of (Some t) = t.mirrored

abbrev pub reference_in : Option (RefId × TestForm) → Option RefId
reference_in None = None
reference_in (Some c) = Some c.0

-- each number that the table gives is that of a reference, and what stands before its last name is one too
pub record IsClosed (t : References) : Type 0 where
  pub prefixes : (i : ℕ) (r : Reference) → slice_get t.list i ≡ Some r → IsPrefixOf t.list (flat (slice_get t.prefixes i)) r
  pub reads : (n : ℕ) → IfSome (flat (slice_get t.reads n)) (λ r. r.0 < length t.list)
  pub bindings : (p : ℕ) → IfSome (flat (slice_get t.bindings p)) (λ b. b.0.0 < length t.list)
  pub tests : (n : ℕ) → IfSome (condition_of (slice_get t.tests n)) (λ c. c.0.0 < length t.list)
  pub mirrors : (n : ℕ) → IfSome (mirrored_of (slice_get t.tests n)) (λ c. c.0.0 < length t.list)
  pub graphs : (n : ℕ) (refs : List RefId) → slice_get t.graphs n ≡ Some refs → AreBelow (length t.list) refs

-- points times references, from the n-th graph on
abbrev pub sizes : Numbered → ℕ → List (List RefId) → ℕ
sizes g n [] = 0
sizes g n (refs ∷ more) = length (points_or (slice_get g.graphs n)) * length refs + sizes g (n + 1) more

-- the number is that of the reference that is bound, and both are bound to one node; or both are missing
abbrev pub IsBindingOf : List Reference → Option (RefId × NodeId) → Option (Reference × NodeId) → Type 0
IsBindingOf list None None = Unit {0}
IsBindingOf list None (Some b) = ⊥
IsBindingOf list (Some x) None = ⊥
IsBindingOf list (Some x) (Some b) = (slice_get list x.0.0 ≡ Some b.0) × (x.1 ≡ b.1)

-- the number is that of the reference that is tested, and both are tested in one form; or both are missing
abbrev pub IsConditionOf : List Reference → Option (RefId × TestForm) → Option (Reference × TestForm) → Type 0
IsConditionOf list None None = Unit {0}
IsConditionOf list None (Some c) = ⊥
IsConditionOf list (Some x) None = ⊥
IsConditionOf list (Some x) (Some c) = (slice_get list x.0.0 ≡ Some c.0) × (x.1 ≡ c.1)

-- THE REFERENCES OF A TREE'S GRAPHS
pub record AreReferences (a : Arena) (os : List Owner) (g : Numbered) (t : References) : Type 0 where
  pub apart : AreApart t.list
  pub each : (i : ℕ) (r : Reference) → slice_get t.list i ≡ Some r → (n : NodeId) × (reference_of a os n ≡ Some r)
  pub ordered : AreInOrder a os t.list
  pub prefixes : (i : ℕ) (r : Reference) → slice_get t.list i ≡ Some r → IsPrefixOf t.list (flat (slice_get t.prefixes i)) r
  pub reads : (n : NodeId) → IsNumberOf t.list (flat (slice_get t.reads n.0)) (read a os g.points n)
  pub bindings : (p : PointId) → IsBindingOf t.list (flat (slice_get t.bindings p.0)) (binding a os (slice_get g.points p.0))
  pub tests : (n : NodeId) → IsConditionOf t.list (condition_of (slice_get t.tests n.0)) (tested a os g.points n)
  pub mirrors : (n : NodeId) → IsConditionOf t.list (mirrored_of (slice_get t.tests n.0)) (mirrored a os g.points n)
  pub count : length t.graphs ≡ length a.nodes
  pub graphs : (n : ℕ) (refs : List RefId) → slice_get t.graphs n ≡ Some refs → AreOccurring g.points t.reads t.bindings (points_or (slice_get g.graphs n)) refs
  pub size : t.size ≡ min (sizes g 0 t.graphs) (2 ^ 64 - 1)
