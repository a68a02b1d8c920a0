-- What the nesting of a text says of its lines: which stand, and with what faults the error lines do (Python 3.12 language reference, 2.1,
-- "Line structure", 7 and 8).
use Rattle.std.specs.Prelude.{◌≡◌, ◌<◌, ℕ, ◌&&◌, not, Option, Some, None, List, [], ◌∷◌, map, option_map, length, if◌then◌else◌}
use Rattle.std.specs.List.{range_with_len}
use Rattle.py_base.specs.declared.ids.NodeId.{NodeId}
use Rattle.py_base.specs.declared.node.NodeKind.{NodeKind}
use Rattle.py_base.specs.Tree.{Arena, tree_of}
use Rattle.py_tokens.specs.declared.kinds.TokenFault.{TokenFault}
use Rattle.py_blocks.specs.declared.facts.LineFacts.{LineFacts}
use Rattle.py_blocks.specs.declared.fault.BlockLine.{BlockLine}
use Rattle.py_blocks.specs.declared.fault.StandingLine.{StandingLine}
use Rattle.py_blocks.specs.declared.fault.LineFaultKind.{LineFaultKind}
use Rattle.py_blocks.specs.declared.fault.LineFaultKind.TheVariants as faults
use Rattle.py_blocks.specs.declared.line.Line.{Line}
use Rattle.py_blocks.specs.Facts.{Row, facts_of}
use Rattle.py_blocks.specs.Enclosing.{line_at}
use Rattle.py_blocks.specs.Names.{breaks_names}
use Rattle.py_blocks.specs.Lines.{is_error}
use Rattle.py_blocks.specs.Nesting.{line_kind}
use Rattle.py_blocks.specs.Settling.{Settles}

-- ---- the lines of a text, as the rules see them

-- the line of what is seen at a place; the rules on names go by the lines as they are written
abbrev pub seen : List LineFacts → ℕ → LineFacts → Line
seen lines i f = record {
  column = f.column;
  kind = line_kind f.kind;
  opens = f.opens;
  bare = f.bare;
  returns = f.returns;
  jumps = f.jumps;
  fits = f.fits && not (breaks_names lines i);
  place = i;
}

abbrev pub seen_at : List LineFacts → ℕ → Line
seen_at lines i = seen lines i (line_at lines i)

abbrev pub lines_seen : List LineFacts → List Line
lines_seen lines = map (seen_at lines) (range_with_len 0 (length lines))

-- ---- faults

abbrev pub fault_of_kind : Option NodeKind → LineFaultKind
fault_of_kind None = faults.NotValid
fault_of_kind (Some k) = faults.Block

-- the fault of a faulty line: its token fault, else that it has no tree, else that it breaks a rule
abbrev pub fault_with : Option TokenFault → Option NodeKind → LineFaultKind
fault_with (Some fault) kind = faults.Token fault
fault_with None kind = fault_of_kind kind

abbrev pub fault_at : List LineFacts → ℕ → LineFaultKind
fault_at lines i = fault_with (line_at lines i).fault (line_at lines i).kind

-- a line of the nesting, and with its fault an error line
abbrev pub standing : List LineFacts → Line → StandingLine
standing lines x = record { column = x.column; line = x.place; fault = if is_error x.kind then Some (fault_at lines x.place) else None }

-- THE NESTING OF A TEXT'S LINES: those that are left where each faulty line has been replaced
pub record IsNesting (rows : List Row) (nesting : List StandingLine) : Type 0 where
  pub end : List Line
  pub settles : Settles (lines_seen (map facts_of rows)) end
  pub is : nesting ≡ map (standing (map facts_of rows)) end

-- ---- the rows of lines with their trees in an arena

abbrev pub row_of : Arena → BlockLine → Row
row_of a line = record { column = line.column; fault = line.fault; tree = option_map (tree_of a) line.tree }

abbrev pub rows_of : Arena → List BlockLine → List Row
rows_of a lines = map (row_of a) lines

-- a line's tree is a node of the arena
abbrev pub IsNodeOf : ℕ → Option NodeId → Type 0
IsNodeOf n None = Unit {0}
IsNodeOf n (Some id) = id.0 < n

abbrev pub AreNodesOf : ℕ → List BlockLine → Type 0
AreNodesOf n [] = Unit {0}
AreNodesOf n (line ∷ lines) = IsNodeOf n line.tree × AreNodesOf n lines
