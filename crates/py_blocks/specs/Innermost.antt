-- The innermost def or class in whose block each line of a text stands (Python 3.12 language reference, 4.1, "Structure of a program"), and
-- what the program keeps from line to line to find it.
use Rattle.std.specs.Prelude.{ℕ, nat_lt, Bool, false, Option, Some, None, List, length, slice_index_or, map, if◌then◌else◌}
use Rattle.std.specs.List.{find, filter, range_with_len, fold}
use Rattle.py_blocks.specs.declared.facts.LineFacts.{LineFacts}
use Rattle.py_blocks.specs.declared.sort.Sort.{Sort}
use Rattle.py_blocks.specs.declared.sort.Sort.TheVariants as sorts
use Rattle.py_blocks.specs.Enclosing.{is_a, encloses, is_innermost}

-- the innermost def or class in whose block the line i stands
abbrev pub scope_at : List LineFacts → ℕ → Option ℕ
scope_at lines i = find (λ d. is_innermost lines sorts.Scope d i) (range_with_len 0 i)

-- that of each line
abbrev pub scopes_of : List LineFacts → List (Option ℕ)
scopes_of lines = map (scope_at lines) (range_with_len 0 (length lines))

abbrev pub scope_in : List (Option ℕ) → ℕ → Option ℕ
scope_in scopes i = slice_index_or scopes i None

-- ---- what the program keeps

-- THE OPEN BLOCKS at a line: the lines in whose blocks it stands, the outermost first
abbrev pub open_at : List LineFacts → ℕ → List ℕ
open_at lines i = filter (λ j. encloses lines j i) (range_with_len 0 i)

-- the last of these lines that is of a sort
abbrev pub later_of : List LineFacts → Sort → Option ℕ → ℕ → Option ℕ
later_of lines s found j = if is_a lines j s then Some j else found

abbrev pub last_of : List LineFacts → Sort → List ℕ → Option ℕ
last_of lines s open_blocks = fold (later_of lines s) None open_blocks

-- there is a number, and it passes the test
abbrev pub has_one : (ℕ → Bool) → Option ℕ → Bool
has_one test None = false
has_one test (Some n) = test n

-- there is a def or class, and it stands behind the line d
abbrev pub is_behind : Option ℕ → ℕ → Bool
is_behind scope d = has_one (λ s. nat_lt d s) scope
