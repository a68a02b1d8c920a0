-- A text as its module: the trees of the lines of its nesting as one tree, with a leaf for each error line, and the faults of these (Python
-- 3.12 language reference, sections 2.1, 7, 8 and 9).
use Rattle.std.specs.Prelude.{◌≡◌, ℕ, suc, Option, Some, None, List, [], ◌∷◌, map, option_map, filter_map, length, slice_get}
use Rattle.py_base.specs.declared.ids.NodeId.{NodeId}
use Rattle.py_base.specs.declared.node.NodeKind.TheVariants as kinds
use Rattle.py_base.specs.declared.span.Span.{Span}
use Rattle.py_base.specs.Tree.{Arena, SyntaxTree, node, nothing, no_parts, tree_of}
use Rattle.py_base.specs.OneTree.{IsOneTree}
use Rattle.py_tokens.specs.declared.lines.LogicalLine.{LogicalLine}
use Rattle.py_blocks.specs.declared.fault.StandingLine.{StandingLine}
use Rattle.py_blocks.specs.declared.fault.LineFaultKind.{LineFaultKind}
use Rattle.py_blocks.specs.Facts.{Row}
use Rattle.py_blocks.specs.Faults.{IsNesting}
use Rattle.py_modules.specs.Depths.{depths}
use Rattle.py_modules.specs.Modules.{Line, IsModuleOf, each_at}
use Rattle.py_stmts.specs.Line.{IsLineTree}
use Rattle.py_stmts.specs.declared.texts.Module.{Module}

-- as many of one as of the other, and each pair is so related
abbrev pub AreEach : {X Y : Type 0} → (X → Y → Type 0) → List X → List Y → Type 0
AreEach R [] [] = Unit {0}
AreEach R (x ∷ xs) (y ∷ ys) = R x y × AreEach R xs ys
AreEach R xs ys = ⊥

-- ---- the lines of a text with their trees

-- the tree of a line, and none where it has a token fault or no tree
abbrev pub IsLineOf : LogicalLine → Option SyntaxTree → Type 0
IsLineOf line (Some t) = (line.fault ≡ None) × IsLineTree line.tokens t
IsLineOf line None = line.fault ≡ None → (t : SyntaxTree) → IsLineTree line.tokens t → ⊥

pub record IsRowOf (line : LogicalLine) (row : Row) : Type 0 where
  pub column : row.column ≡ line.column
  pub fault : row.fault ≡ line.fault
  pub tree : IsLineOf line row.tree

abbrev pub AreRowsOf : List LogicalLine → List Row → Type 0
AreRowsOf lines rows = AreEach IsRowOf lines rows

-- ---- the lines of its nesting

-- what stands for an error line
abbrev pub error_leaf : Span → SyntaxTree
error_leaf span = node kinds.Fault span nothing no_parts

abbrev pub IsTreeStanding : Option LogicalLine → Option LineFaultKind → Option SyntaxTree → Type 0
IsTreeStanding None fault tree = tree ≡ None
IsTreeStanding (Some line) None tree = IsLineOf line tree
IsTreeStanding (Some line) (Some fault) tree = tree ≡ Some (error_leaf line.span)

-- a line of the nesting with its tree: that of the line, and for an error line a leaf with the span of the faulty line
pub record IsStanding (lines : List LogicalLine) (standing : StandingLine) (row : Row) : Type 0 where
  pub column : row.column ≡ standing.column
  pub tree : IsTreeStanding (slice_get lines standing.line) standing.fault row.tree

abbrev pub AreStanding : List LogicalLine → List StandingLine → List Row → Type 0
AreStanding lines nesting rows = AreEach (IsStanding lines) nesting rows

abbrev pub fault_span : Option LogicalLine → Option LineFaultKind → Option (Span × LineFaultKind)
fault_span (Some line) (Some fault) = Some (line.span, fault)
fault_span line fault = None

abbrev pub line_fault : List LogicalLine → StandingLine → Option (Span × LineFaultKind)
line_fault lines standing = fault_span (slice_get lines standing.line) standing.fault

-- the faults of the error lines
abbrev pub line_faults : List LogicalLine → List StandingLine → List (Span × LineFaultKind)
line_faults lines nesting = filter_map (line_fault lines) nesting

-- ---- what they are together

-- a tree with its column
pub record Placed : Type 0 where
  pub column : ℕ
  pub tree : SyntaxTree

abbrev pub at_column : ℕ → SyntaxTree → Placed
at_column column t = record { column = column; tree = t }

abbrev pub placed : Row → Option Placed
placed row = option_map (at_column row.column) row.tree

abbrev pub lines_placed : List Placed → List Line
lines_placed all = each_at (depths (map (λ s. s.column) all)) (map (λ s. s.tree) all)

-- the lines that have a tree, each as deep as the columns say; of a nesting these are all lines
abbrev pub module_lines : List Row → List Line
module_lines rows = lines_placed (filter_map placed rows)

-- the newest node's tree is a module with these lines
abbrev pub HoldsModule : List Line → Arena → Type 0
HoldsModule lines a = (root : NodeId) → suc root.0 ≡ length a.nodes → IsModuleOf lines (tree_of a root)

-- the tree is that of the lines of a nesting, all of its nodes one tree
pub record IsTreeOver (lines : List LogicalLine) (nesting : List StandingLine) (a : Arena) : Type 0 where
  pub standing : List Row
  pub of_nesting : AreStanding lines nesting standing
  pub holds : HoldsModule (module_lines standing) a
  pub whole : IsOneTree a

-- THE MODULE OF A TEXT'S LINES
pub record IsModule (lines : List LogicalLine) (m : Module) : Type 0 where
  pub rows : List Row
  pub of_lines : AreRowsOf lines rows
  pub nesting : List StandingLine
  pub nested : IsNesting rows nesting
  pub faults : m.faults ≡ line_faults lines nesting
  pub over : IsTreeOver lines nesting m.tree
