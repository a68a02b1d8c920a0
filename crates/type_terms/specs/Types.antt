-- A type is a finite set of atoms: the list of its members in the order of atoms, each once. The
-- type without members is Never.
use Rattle.std.specs.Prelude.{◌≡◌, Bool, true, false, List, [], ◌∷◌, ◌++◌}
use Rattle.std.specs.List.Sorted.{IsStrictlySortedBy}
use Rattle.type_terms.specs.declared.literal.Literal.TheVariants as literal
use Rattle.type_terms.specs.declared.atom.Atom.{Atom}
use Rattle.type_terms.specs.declared.atom.Atom.TheVariants as atom
use Rattle.type_terms.specs.Order.{atom_cmp}
use Rattle.type_terms.specs.Sets.{is_member, set_of}

abbrev pub IsType : List Atom → Type 0
IsType = IsStrictlySortedBy atom_cmp

-- whether an atom is a member of a type
unfoldable pub has : List Atom → Atom → Bool
has = is_member atom_cmp

-- the type whose members are the atoms of a list
unfoldable pub type_of : List Atom → List Atom
type_of = set_of atom_cmp

-- the type whose members are those of two types
unfoldable pub union : List Atom → List Atom → List Atom
union one other = type_of (one ++ other)

-- a type below another: each member of the one is a member of the other
abbrev pub IsWithin : List Atom → List Atom → Type 0
IsWithin one other = (a : Atom) → has one a ≡ true → has other a ≡ true

-- bool is the set of both its literals
abbrev pub both_bools : List Atom
both_bools = atom.Lit (literal.Bool false) ∷ atom.Lit (literal.Bool true) ∷ []
