-- The forward typing of a text: its lines are taken in order, and each name has the type that the
-- last line bound it to. What a line says of its names, and which diagnostics it has, follows from
-- the names bound before it and from those that some line of the text binds.
-- Python 3.12 language reference, 4.2 (naming and binding); typing specification, reveal_type() and Literal.
use Rattle.std.specs.Prelude.{ℕ, List, [], ◌∷◌, ◌++◌, Bool, false, if◌then◌else◌, Option, Some, None, is_none, length, ◌==◌}
use Rattle.std.specs.List.{list_any}
use Rattle.std.specs.Str.{bytes_eq}
use Rattle.py_base.specs.declared.span.Span.{Span}
use Rattle.py_base.specs.declared.diag.Diag.{Diag}
use Rattle.type_terms.specs.declared.atom.Atom.{Atom}
use Rattle.type_terms.specs.declared.atom.Atom.TheVariants.{Lit, Unknown, None as NoneAtom}
use Rattle.diagnostics.specs.Messages.{diagnostic, notice_row, message_row}
use Rattle.diagnostics.specs.declared.message.Message.TheVariants.{RevealType}
use Rattle.diagnostics.specs.declared.notice.Notice.TheVariants.{UndefinedName, Unbound}
use Rattle.serial_session.specs.TypeText.{text_of}
use Rattle.serial_session.specs.declared.form.NameUse.{NameUse}
use Rattle.serial_session.specs.declared.form.Value.{Value}
use Rattle.serial_session.specs.declared.form.Value.TheVariants.{Literal, NoneValue, Read}
use Rattle.serial_session.specs.declared.form.Form.{Form}
use Rattle.serial_session.specs.declared.form.Form.TheVariants.{Binding, Reveal}

-- a type is a set of atoms; the empty one is Never
abbrev pub Types : Type 0
Types = List Atom

-- what the lines so far bind each name to; none where it is still unbound
abbrev pub Bindings : Type 0
Bindings = List ℕ → Option Types

abbrev pub nothing_bound : Bindings
nothing_bound name = None

abbrev pub bind : Bindings → List ℕ → Types → Bindings
bind bound name type other = if bytes_eq name other then Some type else bound other

-- the line binds the name
abbrev pub binds : Form → List ℕ → Bool
binds (Binding target value) name = bytes_eq target name
binds (Reveal read) name = false

-- some line of the text binds the name
abbrev pub is_bound_in : List Form → List ℕ → Bool
is_bound_in forms name = list_any (λ form. binds form name) forms

-- a read of a name that some line binds has the type bound last, or no type while it is unbound
abbrev pub bound_type : Option Types → Types
bound_type None = []
bound_type (Some type) = type

-- the type of a read: Unknown where no line of the text binds the name
abbrev pub read_type : (List ℕ → Bool) → Bindings → List ℕ → Types
read_type known bound name = if known name then bound_type (bound name) else Unknown ∷ []

abbrev pub value_type : (List ℕ → Bool) → Bindings → Value → Types
value_type known bound (Literal literal) = Lit literal ∷ []
value_type known bound NoneValue = NoneAtom ∷ []
value_type known bound (Read read) = read_type known bound read.name

-- what is bound behind a line
abbrev pub after : (List ℕ → Bool) → Bindings → Form → Bindings
after known bound (Binding target value) = bind bound target (value_type known bound value)
after known bound (Reveal read) = bound

-- what is said of a read, at its span; `at` gives the four numbers of a span
abbrev pub unbound_at : (Span → List ℕ) → NameUse → Diag
unbound_at at read = diagnostic (at read.span) (notice_row (Unbound read.name))

abbrev pub undefined_at : (Span → List ℕ) → NameUse → Diag
undefined_at at read = diagnostic (at read.span) (notice_row (UndefinedName read.name))

abbrev pub revealed_at : (Span → List ℕ) → NameUse → Types → Diag
revealed_at at read type = diagnostic (at read.span) (message_row text_of (RevealType type))

-- a read of a name that no line binds is undefined, one of a name that is still unbound is unbound
abbrev pub read_faults : (Span → List ℕ) → (List ℕ → Bool) → Bindings → NameUse → List Diag
read_faults at known bound read =
    if known read.name then (if is_none (bound read.name) then unbound_at at read ∷ [] else []) else undefined_at at read ∷ []

abbrev pub value_faults : (Span → List ℕ) → (List ℕ → Bool) → Bindings → Value → List Diag
value_faults at known bound (Literal literal) = []
value_faults at known bound NoneValue = []
value_faults at known bound (Read read) = read_faults at known bound read

-- the diagnostics of one line, in the order of lists
abbrev pub line_diags : (Span → List ℕ) → (List ℕ → Bool) → Bindings → Form → List Diag
line_diags at known bound (Binding target value) = value_faults at known bound value
line_diags at known bound (Reveal read) = revealed_at at read (read_type known bound read.name) ∷ read_faults at known bound read

-- behind a `reveal_type` whose argument is Never no line is reached
abbrev pub is_last : (List ℕ → Bool) → Bindings → Form → Bool
is_last known bound (Binding target value) = false
is_last known bound (Reveal read) = length (read_type known bound read.name) == 0

-- the diagnostics of the lines, taken forward
abbrev pub diags_behind : (Span → List ℕ) → (List ℕ → Bool) → Bindings → List Form → List Diag
diags_behind at known bound [] = []
diags_behind at known bound (form ∷ forms) =
    line_diags at known bound form ++ (if is_last known bound form then [] else diags_behind at known (after known bound form) forms)

abbrev pub typing_diags : (Span → List ℕ) → List Form → List Diag
typing_diags at forms = diags_behind at (is_bound_in forms) nothing_bound forms
