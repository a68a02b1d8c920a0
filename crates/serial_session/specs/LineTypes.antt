-- The type of each line of a text: of what it binds or reveals, as the forward typing has it.
-- Python 3.12 language reference, 4.2 (naming and binding); typing specification, reveal_type() and Literal.
use Rattle.std.specs.Prelude.{ℕ, List, [], ◌∷◌, Bool, Option, Some, None, take, slice_get}
use Rattle.std.specs.List.{fold}
use Rattle.type_terms.specs.declared.atom.Atom.TheVariants.{Lit, Unknown as UnknownAtom, None as NoneAtom}
use Rattle.serial_session.specs.declared.line_type.LineType.{LineType}
use Rattle.serial_session.specs.declared.line_type.LineType.TheVariants.{Literal, NoneValue, Never, Unknown}
use Rattle.serial_session.specs.declared.form.Form.{Form}
use Rattle.serial_session.specs.declared.form.Form.TheVariants.{Binding, Reveal}
use Rattle.serial_session.specs.Typing.{Types, Bindings, nothing_bound, after, read_type, value_type, is_bound_in}

-- what is bound behind these lines
abbrev pub bound_behind : (List ℕ → Bool) → List Form → Bindings
bound_behind known forms = fold (after known) nothing_bound forms

-- the type of a line, where so much is bound above it
abbrev pub type_of : (List ℕ → Bool) → Bindings → Form → Types
type_of known bound (Binding target value) = value_type known bound value
type_of known bound (Reveal read) = read_type known bound read.name

abbrev pub type_in : (List ℕ → Bool) → Bindings → Option Form → Types
type_in known bound None = []
type_in known bound (Some form) = type_of known bound form

-- what is bound above the line of this number
abbrev pub bound_above : List Form → ℕ → Bindings
bound_above forms line = bound_behind (is_bound_in forms) (take line forms)

-- the type of the line of this number
abbrev pub type_at : List Form → ℕ → Types
type_at forms line = type_in (is_bound_in forms) (bound_above forms line) (slice_get forms line)

-- the atoms of a line's type
abbrev pub atoms_of : LineType → Types
atoms_of (Literal literal) = Lit literal.now ∷ []
atoms_of NoneValue = NoneAtom ∷ []
atoms_of Never = []
atoms_of Unknown = UnknownAtom ∷ []
