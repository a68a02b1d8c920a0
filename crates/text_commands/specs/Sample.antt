-- The module that the command `sample` makes, a text in Python (The Python Language Reference 3.12), and the summary of it.
use Rattle.std.specs.Prelude.{◌+◌, ◌-◌, ◌*◌, ◌%◌, ℕ, List, [], ◌∷◌, ◌++◌, flat_map, length, slice_get, codes, Option, Some, None}
use Rattle.std.specs.List.{range_with_len, count_by}
use Rattle.std.specs.Fmt.{decimal}
use Rattle.edge_io.specs.Line.{is_lf}
use Rattle.py_base.specs.declared.diag.Diag.{Diag}

-- a text with the LF that ends it
abbrev pub line : List ℕ → List ℕ
line text = text ++ 10 ∷ []

-- the function `f` of this number, which calls the one of that number
abbrev pub function_text : ℕ → ℕ → List ℕ
function_text i j =
    line (codes "def f" ++ decimal i ++ codes "(a: int | None):")
    ++ line (codes "    x = None")
    ++ line (codes "    while a is not None:")
    ++ line (codes "        x = a if x is None else f" ++ decimal j ++ codes "(x)")
    ++ line (codes "        a = None if x == " ++ decimal i ++ codes " else a")
    ++ line (codes "    return x")

-- of n functions the one of number i calls that of number 7 * i + 1, counted round
abbrev pub numbered_function : ℕ → ℕ → List ℕ
numbered_function n i = function_text i ((7 * i + 1) % n)

-- n functions, and a line that shows what the first gives
abbrev pub sample_module : ℕ → List ℕ
sample_module n = flat_map (numbered_function n) (range_with_len 0 n) ++ line (codes "reveal_type(f0(1))")

-- a name and a number
abbrev pub count_line : List ℕ → ℕ → List ℕ
count_line name n = line (name ++ codes " " ++ decimal n)

-- the last diagnostic of a list, if it has one
abbrev pub last_of : List Diag → Option Diag
last_of list = slice_get list (length list - 1)

abbrev pub text_line : Option Diag → List ℕ
text_line None = []
text_line (Some diag) = line diag.text

-- how many functions, bytes, lines and diagnostics the text of n functions has, and the text of the last diagnostic
abbrev pub summary : ℕ → List ℕ → List Diag → List ℕ
summary n text list =
    count_line (codes "functions") n
    ++ count_line (codes "bytes") (length text)
    ++ count_line (codes "lines") (count_by is_lf text)
    ++ count_line (codes "diagnostics") (length list)
    ++ text_line (last_of list)
