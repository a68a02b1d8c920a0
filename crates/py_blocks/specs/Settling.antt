-- The lines of a text without faulty ones: as long as a line is faulty, the first such line, with the lines that it takes in, is replaced by
-- an error line (this project's own; the rules are those of sections 2.1.8, 7 and 8 of the Python 3.12 language reference).
use Rattle.std.specs.Prelude.{◌≡◌, ℕ, Option, Some, None, List, [], ◌∷◌, if◌then◌else◌}
use Rattle.py_blocks.specs.declared.line.Line.{Line}
use Rattle.py_blocks.specs.Lines.{is_error, block_column, error_line, behind_error}
use Rattle.py_blocks.specs.Rules.{is_faulty}

-- the lines before, the nearest first, and others behind them
abbrev pub onto : List Line → List Line → List Line
onto [] behind = behind
onto (y ∷ ys) behind = onto ys (y ∷ behind)

-- THE FIRST FAULTY LINE REPLACED; none where no line is faulty
abbrev pub replaced_from : List Line → List Line → Option (List Line)
replaced_from before [] = None
replaced_from before (x ∷ behind) =
    if is_faulty before x behind then Some (onto before (error_line before x ∷ behind_error (block_column before x) behind))
    else replaced_from (x ∷ before) behind

abbrev pub replaced : List Line → Option (List Line)
replaced lines = replaced_from [] lines

-- THE LINES WITHOUT FAULTY ONES
pub data Settles : List Line → List Line → Type 0 where
  settled : (lines : List Line) → replaced lines ≡ None → Settles lines lines
  replacing : (lines next end : List Line) → replaced lines ≡ Some next → Settles next end → Settles lines end

-- the places of the error lines, in the order of the text
abbrev pub fault_places : List Line → List ℕ
fault_places [] = []
fault_places (x ∷ xs) = if is_error x.kind then x.place ∷ fault_places xs else fault_places xs
