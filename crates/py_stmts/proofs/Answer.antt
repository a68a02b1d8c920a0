-- The lines that stand in a module are those that have a tree.
use Rattle.std.proofs.Common.{◌≡◌, ℕ, zero, suc, ◌+◌, ◌<◌, false, Option, Some, None, List, [], ◌∷◌, length, map, refl, sym, ◌∙◌, ap, subst, arith, slice_get, get_or}
use Rattle.std.specs.List.{filter_map, list_any}
use Rattle.py_base.specs.OneTree.{IsOneTree}
use Rattle.py_base.specs.declared.ids.NodeId.{NodeId}
use Rattle.py_base.specs.Tree.{Arena, SyntaxTree, tree_of}
use Rattle.py_tokens.specs.declared.lines.LogicalLine.{LogicalLine}
use Rattle.py_blocks.specs.declared.fault.BlockLine.{BlockLine}
use Rattle.py_blocks.specs.declared.fault.StandingLine.{StandingLine}
use Rattle.py_blocks.specs.declared.fault.LineFaultKind.{LineFaultKind}
use Rattle.py_blocks.specs.Facts.{Row}
use Rattle.py_blocks.specs.Faults.{rows_of, IsNesting}
use Rattle.py_blocks.specs.Laws.{written, has_fault}
use Rattle.py_modules.specs.Depths.{depths}
use Rattle.py_modules.specs.Modules.{IsLine, AreLines, IsModuleOf, each_at, lines_of}
use Rattle.py_stmts.specs.Module.{AreRowsOf, error_leaf, IsTreeStanding, AreStanding, placed, module_lines, HoldsModule, line_faults, IsTreeOver, IsModule}
use Rattle.py_stmts.specs.declared.texts.Module.{Module}
use Rattle.py_stmts.specs.Rows.{lines_with_trees}
use Rattle.py_stmts.proofs.LineKinds.{IsLine-of}

columns_same : (a : Arena) (rows : List BlockLine) → map (λ line. line.column) (lines_with_trees rows) ≡ map (λ s. s.column) (filter_map placed (rows_of a rows))
columns_same a [] = refl
columns_same a (r ∷ rows) = by_tree r.tree refl (columns_same a rows)
  where
    by_tree : (o : Option NodeId) → r.tree ≡ o → map (λ line. line.column) (lines_with_trees rows) ≡ map (λ s. s.column) (filter_map placed (rows_of a rows)) → map (λ line. line.column) (lines_with_trees (r ∷ rows)) ≡ map (λ s. s.column) (filter_map placed (rows_of a (r ∷ rows)))
    by_tree None e same = rw e same
    by_tree (Some id) e same = rw e (ap (λ l. r.column ∷ l) same)

trees_same : (a : Arena) (rows : List BlockLine) → map (λ line. tree_of a line.tree) (lines_with_trees rows) ≡ map (λ s. s.tree) (filter_map placed (rows_of a rows))
trees_same a [] = refl
trees_same a (r ∷ rows) = by_tree r.tree refl (trees_same a rows)
  where
    by_tree : (o : Option NodeId) → r.tree ≡ o → map (λ line. tree_of a line.tree) (lines_with_trees rows) ≡ map (λ s. s.tree) (filter_map placed (rows_of a rows)) → map (λ line. tree_of a line.tree) (lines_with_trees (r ∷ rows)) ≡ map (λ s. s.tree) (filter_map placed (rows_of a (r ∷ rows)))
    by_tree None e same = rw e same
    by_tree (Some id) e same = rw e (ap (λ l. tree_of a id ∷ l) same)

pub lines_same : (a : Arena) (rows : List BlockLine) → lines_of a (lines_with_trees rows) ≡ module_lines (rows_of a rows)
lines_same a rows = rw (columns_same a rows, trees_same a rows) refl

-- ---- each is the tree of a line

abbrev AllLines : List SyntaxTree → Type 0
AllLines [] = Unit {0}
AllLines (t ∷ ts) = IsLine t × AllLines ts

each-lines : (ds : List ℕ) (ts : List SyntaxTree) → AllLines ts → AreLines (each_at ds ts)
each-lines [] ts h = tt
each-lines (d ∷ ds) [] h = tt
each-lines (d ∷ ds) (t ∷ ts) (a, b) = (a, each-lines ds ts b)

tree-line : (line : Option LogicalLine) (fault : Option LineFaultKind) (t : SyntaxTree) → IsTreeStanding line fault (Some t) → IsLine t
tree-line None fault t h = cc
tree-line (Some line) None t h = IsLine-of line.tokens t h.1
tree-line (Some line) (Some fault) t h = let same : t ≡ error_leaf line.span = cc in subst IsLine (sym same) (refl, refl)

placed-lines : (lines : List LogicalLine) (nesting : List StandingLine) (rows : List Row) → AreStanding lines nesting rows → AllLines (map (λ s. s.tree) (filter_map placed rows))
placed-lines lines [] [] h = tt
placed-lines lines (s ∷ nesting) [] h = absurd h
placed-lines lines [] (row ∷ rows) h = absurd h
placed-lines lines (s ∷ nesting) (row ∷ rows) (h, k) = by_tree row.tree refl h.tree (placed-lines lines nesting rows k)
  where
    by_tree : (o : Option SyntaxTree) → row.tree ≡ o → IsTreeStanding (slice_get lines s.line) s.fault o → AllLines (map (λ s. s.tree) (filter_map placed rows)) → AllLines (map (λ s. s.tree) (filter_map placed (row ∷ rows)))
    by_tree None e tree others = rw e others
    by_tree (Some t) e tree others = rw e (tree-line (slice_get lines s.line) s.fault t tree, others)

pub AreLines-of : (a : Arena) (lines : List LogicalLine) (nesting : List StandingLine) (rows : List BlockLine) → AreStanding lines nesting (rows_of a rows) → AreLines (lines_of a (lines_with_trees rows))
AreLines-of a lines nesting rows h = rw (lines_same a rows) (each-lines (depths (map (λ s. s.column) (filter_map placed (rows_of a rows)))) (map (λ s. s.tree) (filter_map placed (rows_of a rows))) (placed-lines lines nesting (rows_of a rows) h))

-- ---- the module

same_id : (x y : NodeId) → x.0 ≡ y.0 → x ≡ y
same_id x y e = ap (λ (n : ℕ). record { 0 = n }) e

pub holds : (a new : Arena) (rows : List BlockLine) (id : NodeId) → AreLines (lines_of a (lines_with_trees rows)) → suc id.0 ≡ length new.nodes → (AreLines (lines_of a (lines_with_trees rows)) → IsModuleOf (lines_of a (lines_with_trees rows)) (tree_of new id)) → HoldsModule (module_lines (rows_of a rows)) new
holds a new rows id h newest found =
    λ root last. subst (λ (r : NodeId). IsModuleOf (module_lines (rows_of a rows)) (tree_of new r)) (same_id id root (omega arith)) (subst (λ ls. IsModuleOf ls (tree_of new id)) (lines_same a rows) (found h))

-- ---- lines as they are written

get-at : (lines : List LogicalLine) (k : ℕ) (d : LogicalLine) → k < length lines → slice_get lines k ≡ Some (get_or lines k d)
get-at [] k d lt = absurd (omega arith)
get-at (x ∷ lines) zero d lt = refl
get-at (x ∷ lines) (suc k) d lt = get-at lines k d (omega arith)

written-from : (all lines : List LogicalLine) (rows : List Row) (i : ℕ) → ((k : ℕ) (d : LogicalLine) → k < length lines → slice_get all (i + k) ≡ Some (get_or lines k d)) → AreRowsOf lines rows → AreStanding all (written rows i) rows
written-from all [] [] i h r = tt
written-from all (x ∷ lines) [] i h r = absurd r
written-from all [] (row ∷ rows) i h r = absurd r
written-from all (x ∷ lines) (row ∷ rows) i h (r, s) =
    let z : i + 0 ≡ i = omega arith in
    let here : slice_get all i ≡ Some x = ap (slice_get all) (sym z) ∙ h 0 x (omega arith) in
    let more = written-from all lines rows (i + 1) (λ k d lt. let n : (i + 1) + k ≡ i + suc k = omega arith in ap (slice_get all) n ∙ h (suc k) d (omega arith)) s in
    (record { column = refl; tree = subst (λ (o : Option LogicalLine). IsTreeStanding o None row.tree) (sym here) r.tree }, more)

pub written-standing : (lines : List LogicalLine) (rows : List Row) (nesting : List StandingLine) → nesting ≡ written rows 0 → AreRowsOf lines rows → AreStanding lines nesting rows
written-standing lines rows nesting e h = subst (λ (ns : List StandingLine). AreStanding lines ns rows) (sym e) (written-from lines lines rows 0 (λ k d lt. let z : 0 + k ≡ k = omega arith in ap (slice_get lines) z ∙ get-at lines k d lt) h)

-- ---- the answers

pub over-of : (lines : List LogicalLine) (nesting : List StandingLine) (standing : List Row) (tree : Arena) → AreStanding lines nesting standing → HoldsModule (module_lines standing) tree → IsOneTree tree → IsTreeOver lines nesting tree
over-of lines nesting standing tree s h w = record { standing = standing; of_nesting = s; holds = h; whole = w }

pub module-of : (lines : List LogicalLine) (rows : List Row) (nesting : List StandingLine) (m : Module) → AreRowsOf lines rows → IsNesting rows nesting → m.faults ≡ line_faults lines nesting → IsTreeOver lines nesting m.tree → IsModule lines m
module-of lines rows nesting m r n f o = record { rows = rows; of_lines = r; nesting = nesting; nested = n; faults = f; over = o }

-- without error lines the rows are those of the nesting
pub rows-stand : (lines : List LogicalLine) (rows : List Row) (nesting : List StandingLine) → ((rows : List Row) (nesting : List StandingLine) → IsNesting rows nesting → list_any has_fault nesting ≡ false → nesting ≡ written rows 0) → IsNesting rows nesting → list_any has_fault nesting ≡ false → AreRowsOf lines rows → AreStanding lines nesting rows
rows-stand lines rows nesting law n f r = written-standing lines rows nesting (law rows nesting n f) r
