-- Laws of what tests keep: lists with the same members, and the members that a test may put in place of others.
-- From: the Python typing specification, "Type narrowing"; the sides of a test are read as the two branches behind a condition.
use Rattle.std.specs.Prelude.{pos, List, [], ◌∷◌}
use Rattle.std.specs.List.{Contains, flat_map}
use Rattle.type_terms.specs.declared.literal.Literal.TheVariants as literal
use Rattle.type_terms.specs.declared.atom.Atom.{Atom}
use Rattle.type_terms.specs.declared.atom.Atom.TheVariants as atom
use Rattle.type_terms.specs.declared.narrowing.Test.{Test, fold-Test}
use Rattle.type_terms.specs.declared.narrowing.Test.TheOpen.{Test-F}
use Rattle.type_terms.specs.Facts.{NameTable}
use Rattle.narrow_rules.specs.Ground.{instances}
use Rattle.narrow_rules.specs.Keep.{set_of, class_itself}

-- each member of the one is a member of the other
abbrev pub IsInside : List Atom → List Atom → Type 0
IsInside one other = (a : Atom) → Contains one a → Contains other a

abbrev pub HaveSame : List Atom → List Atom → Type 0
HaveSame one other = IsInside one other × IsInside other one

-- THE MEMBERS THAT A TEST MAY PUT IN PLACE OF OTHERS: the literals, the instances and the written types that it names
abbrev pub falsy_literals : List Atom
falsy_literals = atom.Lit (literal.Int (pos 0)) ∷ atom.Lit (literal.Str []) ∷ atom.Lit (literal.Bytes []) ∷ []

abbrev pub made_step : NameTable → Test-F (List Atom) → List Atom
made_step names Test-F.IsNone = atom.None ∷ []
made_step names (Test-F.IsLit l) = l ∷ []
made_step names (Test-F.EqualsLit l) = l ∷ []
made_step names (Test-F.Instance listed) = flat_map (instances names) listed
made_step names (Test-F.Subclass listed) = flat_map class_itself listed
made_step names (Test-F.ExactClass class) = instances names class
made_step names Test-F.CanCall = []
made_step names (Test-F.Guard type) = type
made_step names (Test-F.GuardBoth type) = type
made_step names Test-F.Truthy = falsy_literals
made_step names (Test-F.Within entries) = entries
made_step names (Test-F.Swapped made) = made
made_step names Test-F.KeepBoth = []
made_step names Test-F.KeepTrue = []
made_step names (Test-F.WithParts class) = instances names class
made_step names (Test-F.Either tests) = flat_map (λ made. made) tests

unfoldable pub made_by : NameTable → Test → List Atom
made_by names = fold-Test (List Atom) (made_step names)

-- a list of atoms has with an instance of bool or of an enum its members
abbrev pub HasSets : NameTable → List Atom → Type 0
HasSets names universe = (a : Atom) → Contains universe a → IsInside (set_of names a) universe
