-- What follows from the definition: each list of lines comes to one without faulty lines, and to one alone; lines without a fault stay as
-- they are, and those with one don't; faults come in the order of the text; and error lines stand in blocks that are open (this project's
-- own laws).
use Rattle.std.specs.Prelude.{◌≡◌, ◌↔◌, ◌≤◌, ◌<◌, ◌==◌, ◌+◌, ℕ, None, nat_le, Bool, true, false, ◌&&◌, ◌||◌, List, [], ◌∷◌, map, length}
use Rattle.std.specs.Option.{is_some}
use Rattle.std.specs.List.{list_any}
use Rattle.py_blocks.specs.declared.fault.StandingLine.{StandingLine}
use Rattle.py_blocks.specs.declared.line.Line.{Line}
use Rattle.py_blocks.specs.Facts.{Row, facts_of}
use Rattle.py_blocks.specs.Faults.{lines_seen, IsNesting}
use Rattle.py_blocks.specs.Lines.{is_error, opens_one, nearest}
use Rattle.py_blocks.specs.Rules.{is_faulty}
use Rattle.py_blocks.specs.Settling.{onto, Settles, fault_places}

-- every list of lines comes to one without faulty lines
abbrev pub EachSettles : Type 0
EachSettles = (lines : List Line) → (end : List Line) × Settles lines end

-- and to one alone
abbrev pub SettlesOnce : Type 0
SettlesOnce = (lines a b : List Line) → Settles lines a → Settles lines b → a ≡ b

-- between the others that are left, none is faulty
abbrev pub NoneIsFaulty : Type 0
NoneIsFaulty = (lines end before behind : List Line) (x : Line) → Settles lines end → onto before (x ∷ behind) ≡ end → is_faulty before x behind ≡ false

-- lines of which none is faulty stay as they are
abbrev pub FaultlessStay : Type 0
FaultlessStay = (lines end : List Line) → ((before behind : List Line) (x : Line) → onto before (x ∷ behind) ≡ lines → is_faulty before x behind ≡ false) → Settles lines end → end ≡ lines

-- where no error line is left, all lines are, and none of them is faulty
abbrev pub FaultlessEnd : Type 0
FaultlessEnd = (lines end : List Line) → Settles lines end → list_any (λ x. is_error x.kind) end ≡ false → end ≡ lines

-- the lines of a text as they are written
abbrev pub written : List Row → ℕ → List StandingLine
written [] at = []
written (row ∷ rows) at = record { column = row.column; line = at; fault = None } ∷ written rows (at + 1)

abbrev pub has_fault : StandingLine → Bool
has_fault standing = is_some standing.fault

-- a nesting without error lines is the text's lines as they are written
abbrev pub FaultlessNesting : Type 0
FaultlessNesting = (rows : List Row) (nesting : List StandingLine) → IsNesting rows nesting → list_any has_fault nesting ≡ false → nesting ≡ written rows 0

-- ---- a text and its nesting

-- no text has two nestings
abbrev pub OneNesting : Type 0
OneNesting = (rows : List Row) (a b : List StandingLine) → IsNesting rows a → IsNesting rows b → a ≡ b

-- each is one of so many lines
abbrev pub AreWithin : ℕ → List StandingLine → Type 0
AreWithin count [] = Unit {0}
AreWithin count (standing ∷ others) = (standing.line < count) × AreWithin count others

-- each line of a nesting is one of the text's
abbrev pub NestingWithin : Type 0
NestingWithin = (rows : List Row) (nesting : List StandingLine) → IsNesting rows nesting → AreWithin (length rows) nesting

-- no line of a text is faulty, each between the others
abbrev pub AreFaultless : List Row → Type 0
AreFaultless rows = (before behind : List Line) (x : Line) → onto before (x ∷ behind) ≡ lines_seen (map facts_of rows) → is_faulty before x behind ≡ false

-- a nesting has no error line exactly where no line of the text is faulty
abbrev pub FaultlessExactly : Type 0
FaultlessExactly = (rows : List Row) (nesting : List StandingLine) → IsNesting rows nesting → (list_any has_fault nesting ≡ false) ↔ AreFaultless rows

-- lines with a tree, and without a token fault
abbrev pub AreRead : List Row → Type 0
AreRead [] = Unit {0}
AreRead (row ∷ rows) = (row.fault ≡ None) × (is_some row.tree ≡ true) × AreRead rows

-- where no line is faulty, each has a tree
abbrev pub FaultlessRead : Type 0
FaultlessRead = (rows : List Row) → AreFaultless rows → AreRead rows

-- ---- the order of faults

abbrev pub AllAbove : ℕ → List ℕ → Type 0
AllAbove place [] = Unit {0}
AllAbove place (p ∷ ps) = (place < p) × AllAbove place ps

abbrev pub AreRising : List ℕ → Type 0
AreRising [] = Unit {0}
AreRising (p ∷ ps) = AllAbove p ps × AreRising ps

abbrev pub places : List Line → List ℕ
places [] = []
places (x ∷ xs) = x.place ∷ places xs

-- where the lines are numbered in the order of the text, so are the faults
abbrev pub FaultsInOrder : Type 0
FaultsInOrder = (lines end : List Line) → AreRising (places lines) → Settles lines end → AreRising (fault_places end)

-- ---- the column of an error line

-- a block of this column is open behind these lines: a line at it opened one, and no line behind that stands to its left; that of the text
-- always is
abbrev pub is_open : List Line → ℕ → Bool
is_open [] column = column == 0
is_open (y ∷ ys) column = y.column == column && opens_one ys y || nat_le column y.column && is_open ys column

-- the greatest column, not above another, of an open block
pub record IsGreatestOpen (before : List Line) (limit column : ℕ) : Type 0 where
  pub open_at : is_open before column ≡ true
  pub below : column ≤ limit
  pub others : (c : ℕ) → c ≤ limit → is_open before c ≡ true → c ≤ column

-- the column of the block in which the nearest line stands that isn't to the right is that of the innermost open block that isn't
abbrev pub NearestIsOpen : Type 0
NearestIsOpen = (before : List Line) (column : ℕ) → IsGreatestOpen before column (nearest before column)
