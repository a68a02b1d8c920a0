-- How the bodies look for lines (this project's own; the bodies are proved over it, and it gives what `Rules` says).
use Rattle.std.specs.Prelude.{ℕ, ◌==◌, nat_lt, nat_le, min, Bool, true, false, not, ◌&&◌, ◌||◌, Option, Some, None, List, [], ◌∷◌, if◌then◌else◌}
use Rattle.py_blocks.specs.declared.line.Line.{Line}
use Rattle.py_blocks.specs.declared.line.LineKind.{LineKind}
use Rattle.py_blocks.specs.declared.trail.Trail.{Trail}
use Rattle.py_blocks.specs.declared.trail.Side.{Side}
use Rattle.py_blocks.specs.declared.trail.Side.TheVariants as sides
use Rattle.py_blocks.specs.Lines.{is_error, is_unread, is_clause}
use Rattle.py_blocks.specs.Rules.{is_case, is_handler, closes_try}

-- ---- the lines behind, one after another

-- a line that is passed over where clauses are looked for
abbrev pub is_passed : LineKind → Bool
is_passed k = is_error k || is_unread k

abbrev pub is_reached : Option ℕ → ℕ → Bool
is_reached None column = false
is_reached (Some least) column = nat_le least column

-- whether a line without a tree would stand to the right of the column, where no line did since this trail began
abbrev pub is_within : Trail → Line → Bool
is_within trail y = trail.opens && nat_lt trail.column y.column || is_reached trail.least y.column

-- how a line stands to a column
abbrev pub side_of : Trail → ℕ → Line → Side
side_of trail column y =
    if nat_lt y.column column then sides.Left
    else (if is_unread y.kind then (if is_within trail y then sides.Right else sides.Level)
    else (if y.column == column then sides.Level else sides.Right))

abbrev pub least_with : Option ℕ → ℕ → Option ℕ
least_with None column = Some column
least_with (Some least) column = Some (min least column)

-- behind a line to the right that opens or goes on with a block; a misplaced line leaves no block open to the right
abbrev pub least_behind : Side → Bool → Option ℕ → ℕ → Option ℕ
least_behind sides.Right true least column = least_with least column
least_behind side within least column = None

abbrev pub trail_behind : Trail → Side → Line → Trail
trail_behind trail side y = record {
  opens = y.opens && not (is_unread y.kind);
  column = y.column;
  least = least_behind side (is_within trail y) trail.least y.column;
}

abbrev pub is_level : Side → Bool
is_level sides.Level = true
is_level side = false

-- what one line tells of a `try`, if it ends the search
abbrev pub tried_at : Side → LineKind → Bool → Option Bool
tried_at sides.Left k first = Some false
tried_at sides.Right k first = None
tried_at sides.Level k first =
    if is_passed k then (if first then Some true else None)
    else (if closes_try k then Some true else (if is_clause k then None else Some false))

abbrev pub or_else : Option Bool → Bool → Bool
or_else None b = b
or_else (Some a) b = a

abbrev pub tried_from : Trail → ℕ → Bool → List Line → Bool
tried_from trail column first [] = false
tried_from trail column first (y ∷ ys) =
    or_else (tried_at (side_of trail column y) y.kind first) (tried_from (trail_behind trail (side_of trail column y) y) column (first && not (is_level (side_of trail column y))) ys)

-- what one line tells of a `match`
abbrev pub cased_at : Side → LineKind → Option Bool
cased_at sides.Left k = Some false
cased_at sides.Right k = None
cased_at sides.Level k = if is_case k || is_passed k then Some true else None

abbrev pub cased_from : Trail → ℕ → List Line → Bool
cased_from trail column [] = false
cased_from trail column (y ∷ ys) =
    or_else (cased_at (side_of trail column y) y.kind) (cased_from (trail_behind trail (side_of trail column y) y) column ys)

-- what one line tells of an `except` without a class: whether the next clause is a handler
abbrev pub handled_at : Side → LineKind → Option Bool
handled_at sides.Left k = Some false
handled_at sides.Right k = None
handled_at sides.Level k = if is_passed k then None else Some (is_handler k)

abbrev pub handled_from : Trail → ℕ → List Line → Bool
handled_from trail column [] = false
handled_from trail column (y ∷ ys) =
    or_else (handled_at (side_of trail column y) y.kind) (handled_from (trail_behind trail (side_of trail column y) y) column ys)
