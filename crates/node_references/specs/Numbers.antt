-- References by their numbers (numbers are this project's own; no standard speaks of them).
use Rattle.std.specs.Prelude.{ℕ, ◌≡◌, ◌<◌, List, [], Option, None, Some, slice_get, length}
use Rattle.py_base.specs.declared.ids.NodeId.{NodeId}
use Rattle.py_base.specs.declared.ids.NameId.{NameId}
use Rattle.py_base.specs.declared.ids.RefId.{RefId}
use Rattle.py_base.specs.declared.ids.SymId.{SymId}
use Rattle.py_base.specs.Tree.{Arena}
use Rattle.py_scopes.specs.declared.owner.Owner.{Owner}
use Rattle.node_references.specs.declared.reference.Root.{Root}
use Rattle.node_references.specs.declared.reference.Root.TheVariants as roots
use Rattle.node_references.specs.Reference.{Reference}
use Rattle.node_references.specs.declared.referred.NodeReferences.{NodeReferences}
use Rattle.node_references.specs.References.{member, reference_of}

abbrev pub symbol_of : Root → Option SymId
symbol_of (roots.Symbol s) = Some s
symbol_of (roots.Subject n) = None

-- no reference has two numbers
abbrev pub AreApart : List Reference → Type 0
AreApart list = (i j : ℕ) (r : Reference) → slice_get list i ≡ Some r → slice_get list j ≡ Some r → i ≡ j

abbrev pub flat : {A : Type 0} → Option (Option A) → Option A
flat None = None
flat (Some x) = x

-- the number is that of the reference, or both are missing
abbrev pub IsNumberOf : List Reference → Option RefId → Option Reference → Type 0
IsNumberOf list None None = Unit {0}
IsNumberOf list None (Some r) = ⊥
IsNumberOf list (Some id) None = ⊥
IsNumberOf list (Some id) (Some r) = slice_get list id.0 ≡ Some r

-- the reference before the last name of another, and that name; a bare one has none
abbrev pub IsPrefixOf : List Reference → Option (RefId × NameId) → Reference → Type 0
IsPrefixOf list None r = r.names ≡ []
IsPrefixOf list (Some x) r = (q : Reference) × (slice_get list x.0.0 ≡ Some q) × (r ≡ member q x.1)

-- references come in the order of the nodes where they first stand: one stands before all nodes of each that comes behind it
abbrev pub AreInOrder : Arena → List Owner → List Reference → Type 0
AreInOrder a os list =
    (i j : ℕ) (r q : Reference) → i < j → slice_get list i ≡ Some r → slice_get list j ≡ Some q
    → (n : NodeId) × (reference_of a os n ≡ Some r) × ((m : NodeId) → reference_of a os m ≡ Some q → n.0 < m.0)

-- THE REFERENCES THAT THE NODES OF A TREE STAND FOR, and no others, in their order: each has one number, with each the one before its last name, and
-- each node has the number of the reference that it stands for
pub record AreNodeReferences (a : Arena) (os : List Owner) (r : NodeReferences) : Type 0 where
  pub apart : AreApart r.list
  pub prefixes : (i : ℕ) (one : Reference) → slice_get r.list i ≡ Some one → IsPrefixOf r.list (flat (slice_get r.prefixes i)) one
  pub each : (i : ℕ) (one : Reference) → slice_get r.list i ≡ Some one → (n : NodeId) × (n.0 < length a.nodes) × (reference_of a os n ≡ Some one)
  pub ordered : AreInOrder a os r.list
  pub long : length r.numbers ≡ length a.nodes
  pub exact : (n : NodeId) → IsNumberOf r.list (flat (slice_get r.numbers n.0)) (reference_of a os n)
