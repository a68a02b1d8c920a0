-- What follows from what a text's module is: there is one; faults are told exactly where a line is faulty, and the tree has an error line for
-- each; and where none is told, it is the module of all lines as they are written (this project's own laws; the rules are those of sections
-- 2.1.8, 7 and 8 of the Python 3.12 language reference).
use Rattle.std.specs.Prelude.{◌≡◌, ◌↔◌, suc, Bool, true, false, Option, Some, None, List, [], map, filter_map, length, if◌then◌else◌}
use Rattle.py_base.specs.declared.ids.NodeId.{NodeId}
use Rattle.py_base.specs.declared.node.NodeKind.{NodeKind}
use Rattle.py_base.specs.declared.node.NodeKind.TheVariants as kinds
use Rattle.py_base.specs.declared.span.Span.{Span}
use Rattle.py_base.specs.Tree.{SyntaxTree, kind_of, span_of, tree_of}
use Rattle.py_tokens.specs.declared.lines.LogicalLine.{LogicalLine}
use Rattle.py_blocks.specs.declared.fault.LineFaultKind.{LineFaultKind}
use Rattle.py_blocks.specs.Facts.{Row}
use Rattle.py_blocks.specs.Faults.{IsNesting}
use Rattle.py_blocks.specs.Laws.{written, AreFaultless}
use Rattle.py_modules.specs.Depths.{depths}
use Rattle.py_modules.specs.Modules.{Line, lines_in, each_at}
use Rattle.py_stmts.specs.Module.{AreEach, IsLineOf, AreRowsOf, HoldsModule, IsModule}
use Rattle.py_stmts.specs.declared.texts.Module.{Module}

-- ---- one module

-- the same faults, and at the newest nodes the same tree
pub record AreAlike (m n : Module) : Type 0 where
  pub faults : m.faults ≡ n.faults
  pub trees : (r s : NodeId) → suc r.0 ≡ length m.tree.nodes → suc s.0 ≡ length n.tree.nodes → tree_of m.tree r ≡ tree_of n.tree s

-- no text's lines have two modules
abbrev pub OneModule : Type 0
OneModule = (lines : List LogicalLine) (m n : Module) → IsModule lines m → IsModule lines n → AreAlike m n

-- ---- texts without a faulty line

-- no line is faulty, each between the others
abbrev pub HaveNoFaulty : List LogicalLine → Type 0
HaveNoFaulty lines = (rows : List Row) → AreRowsOf lines rows → AreFaultless rows

-- faults are told exactly where a line is faulty
abbrev pub FaultsExactly : Type 0
FaultsExactly = (lines : List LogicalLine) (m : Module) → IsModule lines m → (m.faults ≡ []) ↔ HaveNoFaulty lines

-- ---- error lines in the tree

abbrev pub is_fault : NodeKind → Bool
is_fault kinds.Fault = true
is_fault k = false

-- the span of an error line, among the lines that a module prints
abbrev pub error_span : Line → Option Span
error_span line = if is_fault (kind_of line.tree) then Some (span_of line.tree) else None

abbrev pub span_told : Span × LineFaultKind → Span
span_told (span, kind) = span

-- the error lines that the tree prints have the spans of the faults, in their order
abbrev pub ErrorLinesTold : Type 0
ErrorLinesTold = (lines : List LogicalLine) (m : Module) → IsModule lines m → (root : NodeId) → suc root.0 ≡ length m.tree.nodes → filter_map error_span (lines_in 0 (tree_of m.tree root)) ≡ map span_told m.faults

-- ---- the module of all lines

-- the line has no token fault, and this tree
abbrev pub IsTreeOfLine : LogicalLine → SyntaxTree → Type 0
IsTreeOfLine line t = IsLineOf line (Some t)

-- all lines with these trees, each as deep as its column says
abbrev pub all_lines : List LogicalLine → List SyntaxTree → List Line
all_lines lines trees = each_at (depths (map (λ line. line.column) lines)) trees

-- the nesting is that of all lines as they are written, each has a tree, and the module is that of all these lines
pub record IsOfAllLines (lines : List LogicalLine) (m : Module) : Type 0 where
  pub nested : (rows : List Row) → AreRowsOf lines rows → IsNesting rows (written rows 0)
  pub trees : List SyntaxTree
  pub of_lines : AreEach IsTreeOfLine lines trees
  pub holds : HoldsModule (all_lines lines trees) m.tree

-- WHERE NO FAULT IS TOLD, the module is that of all lines
abbrev pub FaultlessModule : Type 0
FaultlessModule = (lines : List LogicalLine) (m : Module) → IsModule lines m → m.faults ≡ [] → IsOfAllLines lines m
