-- What a rule of an operation asks for, where the arguments of the call have types (Python language reference, 6.3.4, calls): the type of an
-- argument, by its number, and else of a key.
use Rattle.std.specs.Prelude.{List, [], ◌∷◌, Option, None, Some, slice_get}
use Rattle.py_base.specs.declared.key.Key.{Key}
use Rattle.py_base.specs.declared.key.Key.TheVariants as keys
use Rattle.type_terms.specs.declared.atom.Atom.{Atom}
use Rattle.type_terms.specs.declared.atom.Atom.TheVariants as atom
use Rattle.value_terms.specs.Answering.{answered}
use Rattle.value_terms.specs.Outcome.{Outcome}
use Rattle.value_terms.specs.Term.{Term, fixed, read}
use Rattle.value_terms.specs.declared.ask.Ask.{Ask}
use Rattle.value_terms.specs.declared.ask.Ask.TheVariants as asks

-- of an argument that isn't there nothing is known
abbrev pub or_unknown : Option (List Atom) → List Atom
or_unknown None = atom.Unknown ∷ []
or_unknown (Some type) = type

-- an ask as a term over keys
abbrev pub asked : List (List Atom) → Ask → Term Key Atom
asked args (asks.Argument place) = fixed (or_unknown (slice_get args place))
asked args (asks.Ret func) = read (keys.Ret func)
asked args (asks.Sym symbol) = read (keys.Sym symbol)
asked args (asks.Elem site slot) = read (keys.Elem site slot)

-- a rule of an operation with arguments of these types
abbrev pub with_arguments : List (List Atom) → Outcome Ask Atom → Outcome Key Atom
with_arguments args rule = record { gives = answered (asked args) rule.gives; fails = answered (asked args) rule.fails }
