-- Bytes are cut into lines at each LF, which belongs to no line. What stands behind the last LF is a
-- line once the input has ended, if it has a byte. These are the Line (3.206) and the Incomplete Line
-- (3.195) of POSIX.1-2017, Base Definitions, without the newline.
use Rattle.std.specs.Prelude.{◌≡◌, ◌==◌, ◌<◌, ◌≤◌, ℕ, Bool, false, if◌then◌else◌, List, [], ◌∷◌, ◌++◌, length}
use Rattle.std.specs.List.{list_any, slice_split}
use Rattle.edge_io.specs.declared.line.Line.{Line}
use Rattle.edge_io.specs.declared.line.Line.TheVariants.{Bytes, Oversize}

-- the byte is an LF
abbrev pub is_lf : ℕ → Bool
is_lf byte = byte == 10

-- no byte of it is an LF
abbrev pub IsLine : List ℕ → Type 0
IsLine bytes = list_any is_lf bytes ≡ false

-- the bytes of a line with the LF that ends it
abbrev pub ended : List ℕ → List ℕ
ended bytes = bytes ++ 10 ∷ []

-- what stands behind the last LF is a line only once the input has ended, and never without a byte
abbrev pub last_line : Bool → List ℕ → List (List ℕ)
last_line at_end [] = []
last_line at_end (byte ∷ bytes) = if at_end then (byte ∷ bytes) ∷ [] else []

-- each part but the last is a line
abbrev pub lines_in : Bool → List (List ℕ) → List (List ℕ)
lines_in at_end [] = []
lines_in at_end (part ∷ []) = last_line at_end part
lines_in at_end (part ∷ next ∷ parts) = part ∷ lines_in at_end (next ∷ parts)

-- the lines of the bytes, `at_end` saying whether the input ends behind them: the parts between their LFs
abbrev pub lines_of : Bool → List ℕ → List (List ℕ)
lines_of at_end bytes = lines_in at_end (slice_split is_lf bytes)

-- a line has at most so many bytes, 4 MiB; a longer one is told, not kept
abbrev pub line_limit : ℕ
line_limit = 4194304

-- the line stands for these bytes: they are kept, or are too many for that
abbrev pub IsLineOf : Line → List ℕ → Type 0
IsLineOf (Bytes kept) bytes = (kept ≡ bytes) × (length bytes ≤ line_limit)
IsLineOf Oversize bytes = line_limit < length bytes
