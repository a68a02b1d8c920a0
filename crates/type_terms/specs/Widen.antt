-- Widening: an int, str or bytes literal becomes an instance of its class, a bool literal both of them, an
-- enum member all members of its class, and each other atom stays (Python typing specification, "Literals").
-- So a value that is bound without an annotation is seen from another scope; the slots of a display and the
-- `value` of an enum member are widened too.
use Rattle.std.specs.Prelude.{◌≡◌, ℕ, zero, suc, ◌+◌, List, [], ◌∷◌, length, Option, MatchOption}
use Rattle.std.specs.List.{flat_map}
use Rattle.py_base.specs.declared.ids.ClassId.{ClassId}
use Rattle.py_base.specs.Builtins.{id_of}
use Rattle.py_base.specs.declared.builtin.Builtin.TheVariants as builtin
use Rattle.type_terms.specs.declared.literal.Literal.{Literal}
use Rattle.type_terms.specs.declared.literal.Literal.TheVariants as literal
use Rattle.type_terms.specs.declared.atom.Atom.{Atom, out-Atom}
use Rattle.type_terms.specs.declared.atom.Atom.TheVariants as atom
use Rattle.type_terms.specs.declared.atom.Atom.TheOpen.{Atom-F}
use Rattle.type_terms.specs.Facts.{NameTable}
use Rattle.type_terms.specs.Types.{has, type_of, both_bools, IsWithin}

-- members of an enum from a place on, so many of them
abbrev pub members_from : ClassId → ℕ → ℕ → List Atom
members_from class place zero = []
members_from class place (suc more) = atom.Lit (literal.Member class place) ∷ members_from class (place + 1) more

abbrev pub all_members : NameTable → ClassId → List Atom
all_members names class = members_from class 0 (length (names.enum_members class))

abbrev pub widened_literal : NameTable → Literal → List Atom
widened_literal names (literal.Int z) = atom.Inst (id_of builtin.Int) ∷ []
widened_literal names (literal.Bool b) = both_bools
widened_literal names (literal.Str t) = atom.Inst (id_of builtin.Str) ∷ []
widened_literal names (literal.Bytes bs) = atom.Inst (id_of builtin.Bytes) ∷ []
widened_literal names (literal.Member class place) = all_members names class

abbrev pub level_widened : NameTable → Atom → Atom-F Atom → List Atom
level_widened names a (Atom-F.Lit value) = widened_literal names value
level_widened names a _ = a ∷ []

-- the atoms that one becomes
unfoldable pub widened : NameTable → Atom → List Atom
widened names a = level_widened names a (out-Atom a)

unfoldable pub widen : NameTable → List Atom → List Atom
widen names type = type_of (flat_map (widened names) type)

-- two lists with the same members
abbrev pub IsAlike : List Atom → List Atom → Type 0
IsAlike one other = (a : Atom) → has one a ≡ has other a

-- the members of the enum that was widened last are there
abbrev pub HasLast : NameTable → Option ClassId → List Atom → Type 0
HasLast names last atoms = MatchOption last (Unit {0}) (λ class. IsWithin (all_members names class) atoms)
