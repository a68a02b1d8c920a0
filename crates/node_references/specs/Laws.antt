-- What follows of references (this project's own laws; Python 3.12 language reference, 6.2.1 for names).
use Rattle.std.specs.Prelude.{◌≡◌, List, Some, slice_get}
use Rattle.py_base.specs.declared.ids.NodeId.{NodeId}
use Rattle.py_base.specs.declared.ids.SymId.{SymId}
use Rattle.py_base.specs.Tree.{Arena}
use Rattle.py_scopes.specs.declared.owner.Owner.{Owner}
use Rattle.node_references.specs.declared.reference.Root.TheVariants as roots
use Rattle.node_references.specs.Reference.{Reference}
use Rattle.node_references.specs.References.{bare, of_owner, reference_of}

-- the symbol that a reference begins with is that of some name
abbrev pub RootsAreOwned : Type 0
RootsAreOwned = (a : Arena) (os : List Owner) (n : NodeId) (r : Reference) (x : SymId) → reference_of a os n ≡ Some r → r.root ≡ roots.Symbol x
    → (m : NodeId) × (of_owner (slice_get os m.0) ≡ Some (bare (roots.Symbol x)))
