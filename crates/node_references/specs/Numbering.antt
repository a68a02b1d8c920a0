-- What stands while the references are numbered (for proofs alone: no caller sees a link).
use Rattle.std.specs.Prelude.{ℕ, ◌≡◌, ◌<◌, ◌⊎◌, List, Option, None, Some, slice_get, length}
use Rattle.py_base.specs.declared.ids.NodeId.{NodeId}
use Rattle.py_base.specs.declared.ids.RefId.{RefId}
use Rattle.py_base.specs.declared.ids.NameId.{NameId}
use Rattle.py_base.specs.Tree.{Arena}
use Rattle.py_scopes.specs.declared.owner.Owner.{Owner}
use Rattle.node_references.specs.Reference.{Reference}
use Rattle.node_references.specs.declared.numbering.Link.{Link}
use Rattle.node_references.specs.declared.numbering.Link.TheVariants as links
use Rattle.node_references.specs.declared.shape.Shape.{Shape}
use Rattle.node_references.specs.declared.shape.Shape.TheVariants as shapes
use Rattle.node_references.specs.References.{bare, member, reference_of}
use Rattle.node_references.specs.Numbers.{AreApart, IsNumberOf, flat}

-- each number keeps its reference
abbrev pub Keeps : List Reference → List Reference → Type 0
Keeps old new = (i : ℕ) (r : Reference) → slice_get old i ≡ Some r → slice_get new i ≡ Some r

-- nothing but the reference of a number came to the list
abbrev pub GrowsBy : List Reference → List Reference → Option RefId → Type 0
GrowsBy old new id = (i : ℕ) (r : Reference) → slice_get new i ≡ Some r → (slice_get old i ≡ Some r) ⊎ IsNumberOf new id (Some r)

-- the reference before the last name is one of the first so many
abbrev pub IsWithin : ℕ → Link → Type 0
IsWithin n (links.Root root) = Unit {0}
IsWithin n (links.Member id name) = id.0 < n

-- the link is that of the reference
abbrev pub IsOf : List Reference → Link → Reference → Type 0
IsOf list (links.Root root) r = r ≡ bare root
IsOf list (links.Member id name) r = (q : Reference) × (slice_get list id.0 ≡ Some q) × (r ≡ member q name)

-- what a link adds its name to, and the name
abbrev pub prefix_of : Link → Option (RefId × NameId)
prefix_of (links.Root root) = None
prefix_of (links.Member id name) = Some (id, name)

-- each number has a link and its reference, and no two have one
pub record AreLinked (keys : List Link) (list : List Reference) : Type 0 where
  pub long : length list ≡ length keys
  pub each : (i : ℕ) (link : Link) → slice_get keys i ≡ Some link → (r : Reference) × (slice_get list i ≡ Some r) × IsOf list link r
  pub apart : AreApart list

-- the numbers of the references that the part of a shape stands for
abbrev pub AreNumbersOf : List Reference → List (Option RefId) → Shape → (NodeId → Option Reference) → Type 0
AreNumbersOf list table shapes.Name inner = Unit {0}
AreNumbersOf list table (shapes.Attribute p) inner = IsNumberOf list (flat (slice_get table p.0)) (inner p)
AreNumbersOf list table (shapes.Group p) inner = IsNumberOf list (flat (slice_get table p.0)) (inner p)
AreNumbersOf list table shapes.Match inner = Unit {0}
AreNumbersOf list table shapes.Other inner = Unit {0}

-- a number, if there is one, is one of the first so many
abbrev pub IsBelow : ℕ → Option RefId → Type 0
IsBelow count None = Unit {0}
IsBelow count (Some id) = id.0 < count

-- and so is that of the part of a shape
abbrev pub IsPartBelow : ℕ → List (Option RefId) → Shape → Type 0
IsPartBelow count table shapes.Name = Unit {0}
IsPartBelow count table (shapes.Attribute p) = IsBelow count (flat (slice_get table p.0))
IsPartBelow count table (shapes.Group p) = IsBelow count (flat (slice_get table p.0))
IsPartBelow count table shapes.Match = Unit {0}
IsPartBelow count table shapes.Other = Unit {0}

-- each reference is that of one of the nodes before a number
abbrev pub AreOfNodes : Arena → List Owner → List Reference → ℕ → Type 0
AreOfNodes a os list count = (i : ℕ) (r : Reference) → slice_get list i ≡ Some r → (n : NodeId) × (n.0 < count) × (reference_of a os n ≡ Some r)

-- the numbers of the references that the nodes before a number stand for
abbrev pub AreKnownBelow : Arena → List Owner → List Reference → List (Option RefId) → ℕ → Type 0
AreKnownBelow a os list table count = (n : NodeId) → n.0 < count → IsNumberOf list (flat (slice_get table n.0)) (reference_of a os n)

-- and of all nodes
abbrev pub AreKnown : Arena → List Owner → List Reference → List (Option RefId) → Type 0
AreKnown a os list table = (n : NodeId) → IsNumberOf list (flat (slice_get table n.0)) (reference_of a os n)
