-- A place of a text is a line and a column, and has an offset: the characters of the lines above it
-- and the column. Stated over the lengths of the lines, each with its line end. All count characters
-- from 0. The characters of a line end belong to the line that they end.
use Rattle.std.specs.Prelude.{ℕ, ◌≤◌, ◌+◌, ◌-◌, ◌==◌, ◌&&◌, nat_lt, if◌then◌else◌, List, [], ◌∷◌, length, take, slice_index, sum, Option, Some, None}
use Rattle.py_base.specs.declared.span.Place.{Place}
use Rattle.py_base.specs.declared.span.Span.{Span}

-- the same column, one line down
abbrev pub one_line_down : Place → Place
one_line_down place = record { line = place.line + 1; col = place.col }

-- the place of an offset: the first line that reaches beyond it, or the last line; the column is what is left of the offset there
unfoldable pub place_of : List ℕ → ℕ → Place
place_of [] offset = record { line = 0; col = offset }
place_of (len ∷ []) offset = record { line = 0; col = offset }
place_of (len ∷ next ∷ more) offset = if nat_lt offset len then record { line = 0; col = offset } else one_line_down (place_of (next ∷ more) (offset - len))

-- how many columns a line has: one for each of its characters, and in the last line one more, the end of the text
abbrev pub columns : List ℕ → ℕ → ℕ
columns lengths line = slice_index lengths line + (if line + 1 == length lengths then 1 else 0)

-- the offset of a place: the lengths of the lines above it, and its column. None where there is no such line, or no such column in it
unfoldable pub offset_of : List ℕ → Place → Option ℕ
offset_of lengths place =
    if nat_lt place.line (length lengths) && nat_lt place.col (columns lengths place.line)
    then Some (sum (take place.line lengths) + place.col)
    else None

-- line and column of a beginning, and then of an end
abbrev pub four_numbers : Place → Place → List ℕ
four_numbers from to = from.line ∷ from.col ∷ to.line ∷ to.col ∷ []

-- where a span stands in a text whose lines, with their line ends, have these lengths
abbrev pub at_of : List ℕ → Span → List ℕ
at_of lengths span = four_numbers (place_of lengths span.from) (place_of lengths span.to)

-- both ends of the span are in a text of so many characters, or at its end
abbrev pub IsSpanIn : ℕ → Span → Type 0
IsSpanIn count span = (span.from ≤ count) × (span.to ≤ count)
