-- Whether some number below a bound passes a test, or each, or how many do: so the rules of blocks look at all lines of a text
-- (Python 3.12 language reference, 2.1.8, "Indentation", compares the columns of lines).
use Rattle.std.specs.Prelude.{ℕ, Bool, count_by}
use Rattle.std.specs.List.{list_any, list_all, range_with_len}

abbrev pub some_below : ℕ → (ℕ → Bool) → Bool
some_below n p = list_any p (range_with_len 0 n)

abbrev pub each_below : ℕ → (ℕ → Bool) → Bool
each_below n p = list_all p (range_with_len 0 n)

abbrev pub count_below : ℕ → (ℕ → Bool) → ℕ
count_below n p = count_by p (range_with_len 0 n)
