-- The column that blanks lead to: a space adds one, a tab goes to the next multiple of 8, a form feed goes back to 0.
-- What joins lines, and a byte order mark, have no width.
-- Python 3.12 language reference, 2.1.8 "Indentation".
use Rattle.std.specs.Prelude.{ℕ, ◌+◌, ◌*◌, ◌/◌, List, [], ◌∷◌, if◌then◌else◌, ◌==◌}

abbrev pub next_column : ℕ → ℕ → ℕ
next_column column c =
    if c == 32 then column + 1
    else (if c == 9 then (column / 8 + 1) * 8
    else (if c == 12 then 0
    else column))

abbrev pub width : ℕ → List ℕ → ℕ
width column [] = column
width column (c ∷ cs) = width (next_column column c) cs
