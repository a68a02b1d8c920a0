-- What is kept of a name: the rows of that name in the table's order, each with its owner and its number, and the modules that have it.
use Rattle.std.specs.Prelude.{ℕ, Bool, Option, Some, None, List, [], ◌∷◌, ◌++◌, ◌+◌, ◌==◌, bytes_eq, find, option_map, if◌then◌else◌}
use Rattle.type_terms.specs.declared.atom.Atom.{Atom}
use Rattle.builtin_rows.specs.declared.table.Owner.{Owner}
use Rattle.builtin_rows.specs.declared.held.Held.{Held}
use Rattle.builtin_rows.specs.declared.held.Member.{Member}
use Rattle.builtin_rows.specs.Rows.{name_number, entry_type}
use Rattle.builtin_rows.specs.Table.{RowLine, ModuleLine}

abbrev pub held_one : List ℕ → ℕ → RowLine → List Held
held_one text n line = if bytes_eq text line.name then record { owner = line.owner; number = n } ∷ [] else []

-- the rows with this name among rows that are numbered from here on
abbrev pub held_from : List ℕ → ℕ → List RowLine → List Held
held_from text n [] = []
held_from text n (line ∷ lines) = held_one text n line ++ held_from text (n + 1) lines

abbrev pub member_one : List ℕ → ModuleLine → List Member
member_one text line = if bytes_eq text line.name then record { owner = name_number line.owner; ty = entry_type line } ∷ [] else []

abbrev pub members_of : List ℕ → List ModuleLine → List Member
members_of text [] = []
members_of text (line ∷ lines) = member_one text line ++ members_of text lines

-- the number of the first row here whose owner is meant, and the type in the module of this number
abbrev pub number_among : (Owner → Bool) → List Held → Option ℕ
number_among owns held = option_map (λ h. h.number) (find (λ h. owns h.owner) held)

abbrev pub type_among : ℕ → List Member → Option (List Atom)
type_among owner members = option_map (λ m. m.ty) (find (λ m. m.owner == owner) members)

-- what is asked of what is there
abbrev pub asked : {X Y : Type 0} → (X → Option Y) → Option X → Option Y
asked p None = None
asked p (Some x) = p x
