-- The blocks that are open behind lines, by the columns of the lines, the last first.
-- Python 3.12 language reference, 2.1.8 "Indentation".
use Rattle.std.specs.Prelude.{ℕ, zero, suc, ◌+◌, Bool, not, ◌&&◌, ◌||◌, List, [], ◌∷◌, Option, Some, None, if◌then◌else◌, ◌==◌, nat_le, nat_lt}
use Rattle.std.specs.List.{list_any}
use Rattle.py_tokens.specs.declared.kinds.TokenFault.{TokenFault}
use Rattle.py_tokens.specs.declared.kinds.TokenFault.TheVariants.{BadDedent, NestingLimit}

-- a block to the right of the column is open
abbrev pub is_some_right : (ℕ → Bool) → List ℕ → ℕ → Bool
is_some_right is_open before column = list_any (λ c. nat_lt column c && is_open c) before

-- a block at the column is open: the module's, or that of a line that stood to the right of all that was open before it; and no line
-- since stands to its left. A line to the left of an open block opens nothing, whether it is at fault or not
abbrev pub is_open : List ℕ → ℕ → Bool
is_open [] column = column == 0
is_open (c ∷ before) column =
    nat_le column c && (is_open before column || ((column == c) && not (is_some_right (is_open before) before c)))

-- the line's column is to the left of an open block, and no open block has it
abbrev pub is_bad_dedent : List ℕ → ℕ → Bool
is_bad_dedent before column = is_some_right (is_open before) before column && not (is_open before column)

-- how many of the columns from 1 to n have an open block
abbrev pub count_open : (ℕ → Bool) → ℕ → ℕ
count_open open_at zero = 0
count_open open_at (suc n) = (if open_at (suc n) then 1 else 0) + count_open open_at n

-- the fault of a line at the column in its block: a bad dedent, or more than 64 open blocks
unfoldable pub block_fault : List ℕ → ℕ → Option TokenFault
block_fault before column =
    if is_bad_dedent before column then Some BadDedent
    else (if nat_lt 64 (count_open (is_open (column ∷ before)) column) then Some NestingLimit
    else None)
