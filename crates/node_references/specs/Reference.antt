-- A reference (Python 3.12 language reference, 6.2.1 for names, 6.3.1 for attribute references; that a name and what stands behind it by
-- dots is tracked is the typing specification's, in its part on narrowing).
use Rattle.std.specs.Prelude.{List}
use Rattle.std.specs.Borrow.{Bor}
use Rattle.py_base.specs.declared.ids.NameId.{NameId}
use Rattle.node_references.specs.declared.reference.Root.{Root}

-- A REFERENCE: what it begins with, and the names behind that, as `symbol.name.name`
pub record Reference : Type 0 where
  pub root : Root
  pub names : List NameId

abbrev pub reference : Root → List NameId → Reference
reference root names = record { root = root; names = names }

-- a reference whose names are lent
abbrev pub lent : Root × Bor (List NameId) → Reference
lent r = reference r.0 r.1.now
