-- Where logical lines stand: the column of the block that each stands in, and the lines beside it in that block (Python 3.12 language
-- reference, section 2.1.8, "Indentation"). `before` has the lines before a line, the nearest first, and `behind` those behind it, in the
-- order of the text.
use Rattle.std.specs.Prelude.{ℕ, ◌==◌, nat_lt, nat_le, Bool, true, false, ◌&&◌, List, [], ◌∷◌, if◌then◌else◌}
use Rattle.py_blocks.specs.declared.line.Line.{Line}
use Rattle.py_blocks.specs.declared.line.LineKind.{LineKind}
use Rattle.py_blocks.specs.declared.line.LineKind.TheVariants as kinds

-- ---- sorts of lines

abbrev pub is_error : LineKind → Bool
is_error kinds.Error = true
is_error k = false

-- a line with a token fault, or without a tree
abbrev pub is_unread : LineKind → Bool
is_unread kinds.Faulty = true
is_unread k = false

abbrev pub is_clause : LineKind → Bool
is_clause kinds.Elif = true
is_clause kinds.Else = true
is_clause kinds.Except = true
is_clause kinds.ExceptStar = true
is_clause kinds.Finally = true
is_clause k = false

-- ---- columns of blocks

-- the line stands to the right of the header directly before it
abbrev pub opens_one : List Line → Line → Bool
opens_one [] x = false
opens_one (y ∷ ys) x = y.opens && nat_lt y.column x.column

-- the column of the block in which the nearest line stands that isn't to the right of this column
abbrev pub nearest : List Line → ℕ → ℕ
nearest [] column = 0
nearest (y ∷ ys) column =
    if nat_le y.column column then (if opens_one ys y then y.column else nearest ys y.column) else nearest ys column

-- THE COLUMN OF THE BLOCK that a line stands in: it opens one behind a header, and else it goes on with that of the nearest line that isn't
-- to its right
abbrev pub block_column : List Line → Line → ℕ
block_column before x = if opens_one before x then x.column else nearest before x.column

-- ---- error lines

-- THE ERROR LINE that a line becomes
abbrev pub error_line : List Line → Line → Line
error_line before x = record {
  column = block_column before x;
  kind = kinds.Error;
  opens = false;
  bare = false;
  returns = false;
  jumps = false;
  fits = true;
  place = x.place;
}

-- what an error line of this column leaves of the lines behind: it takes in those directly behind it that stand to its right
abbrev pub behind_error : ℕ → List Line → List Line
behind_error column [] = []
behind_error column (y ∷ ys) = if nat_lt column y.column then behind_error column ys else y ∷ ys

-- a line with a token fault or without a tree counts, for the rules of other lines, as the error line that it would become
abbrev pub counted : List Line → Line → Line
counted before x = if is_unread x.kind then error_line before x else x

-- ---- lines side by side

-- a line beside others that stand at this column in one block: a line to the left ends the block, and one to the right is passed over
abbrev pub level_with : ℕ → Line → List Line → List Line
level_with column y level = if nat_lt y.column column then [] else (if y.column == column then y ∷ level else level)

-- of the lines behind, those that stand at this column in one block
abbrev pub level_behind : List Line → ℕ → List Line → List Line
level_behind before column [] = []
level_behind before column (y ∷ ys) = level_with column (counted before y) (level_behind (counted before y ∷ before) column ys)

-- of the lines before, those that stand at this column in one block
abbrev pub level_before : List Line → ℕ → List Line
level_before [] column = []
level_before (y ∷ ys) column = level_with column y (level_before ys column)
