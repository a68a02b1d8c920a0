-- A text has one module; it tells a fault for each error line, and without faults it is that of all lines.
use Rattle.std.proofs.Common.{◌≡◌, ◌↔◌, ℕ, zero, suc, ◌<◌, Bool, true, false, Option, Some, None, List, [], ◌∷◌, length, map, refl, sym, ◌∙◌, ap, subst, arith, slice_get}
use Rattle.std.specs.Option.{option_map, is_some}
use Rattle.std.specs.List.{filter_map, list_any}
use Rattle.std.proofs.lemmas.List.{length-map}
use Rattle.py_base.specs.declared.span.Span.{Span}
use Rattle.py_base.specs.Tree.{SyntaxTree, kind_of, tree_of}
use Rattle.py_tokens.specs.declared.lines.LogicalLine.{LogicalLine}
use Rattle.py_tokens.specs.declared.lines.Token.{Token}
use Rattle.py_blocks.specs.declared.fault.LineFaultKind.{LineFaultKind}
use Rattle.py_blocks.specs.declared.fault.StandingLine.{StandingLine}
use Rattle.py_blocks.specs.Facts.{Row}
use Rattle.py_blocks.specs.Faults.{IsNesting}
use Rattle.py_blocks.specs.Laws.{written, has_fault, FaultlessNesting, OneNesting, AreWithin, NestingWithin, AreFaultless, FaultlessExactly, AreRead, FaultlessRead}
use Rattle.py_modules.specs.Depths.{deeper, enclosed, depths}
use Rattle.py_modules.specs.Laws.{OneModuleTree}
use Rattle.py_modules.specs.Modules.{Line, IsModuleOf, each_at}
use Rattle.py_stmts.specs.Laws.{AreAlike, OneModule, HaveNoFaulty, FaultsExactly, is_fault, error_span, span_told, ErrorLinesTold, IsTreeOfLine, all_lines, IsOfAllLines, FaultlessModule}
use Rattle.py_stmts.specs.Line.{IsLineTree}
use Rattle.py_stmts.specs.Module.{AreEach, IsLineOf, AreRowsOf, error_leaf, IsTreeStanding, AreStanding, line_fault, line_faults, Placed, at_column, placed, lines_placed, module_lines, HoldsModule, IsModule}
use Rattle.py_stmts.specs.declared.texts.Module.{Module}
use Rattle.py_stmts.proofs.Answer.{written-standing}
use Rattle.py_stmts.proofs.LineKinds.{no-fault-kind}

abbrev OneLineTree : Type 0
OneLineTree = (tokens : List Token) (t u : SyntaxTree) → IsLineTree tokens t → IsLineTree tokens u → t ≡ u

-- ---- lines have one list of rows

same-tree : OneLineTree → (line : LogicalLine) (a b : Option SyntaxTree) → IsLineOf line a → IsLineOf line b → a ≡ b
same-tree one line None None h k = refl
same-tree one line None (Some u) h (f, k) = absurd (h f u k)
same-tree one line (Some t) None (f, h) k = absurd (k f t h)
same-tree one line (Some t) (Some u) (f, h) (g, k) = ap Some (one line.tokens t u h k)

same-row : (r s : Row) → r.column ≡ s.column → r.fault ≡ s.fault → r.tree ≡ s.tree → r ≡ s
same-row r s c f t =
    ap (λ x. record { column = x; fault = r.fault; tree = r.tree }) c ∙ ap (λ x. record { column = s.column; fault = x; tree = r.tree }) f ∙ ap (λ x. record { column = s.column; fault = s.fault; tree = x }) t

same-rows : OneLineTree → (lines : List LogicalLine) (a b : List Row) → AreRowsOf lines a → AreRowsOf lines b → a ≡ b
same-rows one [] [] [] h k = refl
same-rows one [] (r ∷ a) b h k = absurd h
same-rows one [] [] (s ∷ b) h k = absurd k
same-rows one (x ∷ lines) [] b h k = absurd h
same-rows one (x ∷ lines) (r ∷ a) [] h k = absurd k
same-rows one (x ∷ lines) (r ∷ a) (s ∷ b) (h, hs) (k, ks) =
    let row = same-row r s (h.column ∙ sym k.column) (h.fault ∙ sym k.fault) (same-tree one x r.tree s.tree h.tree k.tree) in
    ap (λ y. y ∷ a) row ∙ ap (λ ys. s ∷ ys) (same-rows one lines a b hs ks)

as-many : (lines : List LogicalLine) (rows : List Row) → AreRowsOf lines rows → length rows ≡ length lines
as-many [] [] h = refl
as-many [] (r ∷ rows) h = absurd h
as-many (x ∷ lines) [] h = absurd h
as-many (x ∷ lines) (r ∷ rows) (h, hs) = ap suc (as-many lines rows hs)

-- ---- a nesting has one list of trees

filter-same : {X Y Z : Type 0} (f : X → Option Z) (g : Y → Option Z) (x : X) (y : Y) (xs : List X) (ys : List Y) → f x ≡ g y → filter_map f xs ≡ filter_map g ys → filter_map f (x ∷ xs) ≡ filter_map g (y ∷ ys)
filter-same f g x y xs ys e h = rw (e, h) refl

filter-none : {X Y : Type 0} (f : X → Option Y) (x : X) (xs : List X) → f x ≡ None → filter_map f (x ∷ xs) ≡ filter_map f xs
filter-none f x xs e = rw e refl

filter-some : {X Y : Type 0} (f : X → Option Y) (x : X) (y : Y) (xs : List X) → f x ≡ Some y → filter_map f (x ∷ xs) ≡ y ∷ filter_map f xs
filter-some f x y xs e = rw e refl

same-standing : OneLineTree → (line : Option LogicalLine) (fault : Option LineFaultKind) (a b : Option SyntaxTree) → IsTreeStanding line fault a → IsTreeStanding line fault b → a ≡ b
same-standing one None fault a b h k = h ∙ sym k
same-standing one (Some line) None a b h k = same-tree one line a b h k
same-standing one (Some line) (Some fault) a b h k = h ∙ sym k

same-placed : OneLineTree → (lines : List LogicalLine) (nesting : List StandingLine) (a b : List Row) → AreStanding lines nesting a → AreStanding lines nesting b → filter_map placed a ≡ filter_map placed b
same-placed one lines [] [] [] h k = refl
same-placed one lines [] (r ∷ a) b h k = absurd h
same-placed one lines [] [] (s ∷ b) h k = absurd k
same-placed one lines (x ∷ nesting) [] b h k = absurd h
same-placed one lines (x ∷ nesting) (r ∷ a) [] h k = absurd k
same-placed one lines (x ∷ nesting) (r ∷ a) (s ∷ b) (h, hs) (k, ks) =
    let column : r.column ≡ s.column = h.column ∙ sym k.column in
    let tree = same-standing one (slice_get lines x.line) x.fault r.tree s.tree h.tree k.tree in
    let one_placed : placed r ≡ placed s = ap (λ c. option_map (at_column c) r.tree) column ∙ ap (option_map (at_column s.column)) tree in
    filter-same placed placed r s a b one_placed (same-placed one lines nesting a b hs ks)

-- ---- faults

some-at : (lines : List LogicalLine) (k : ℕ) → k < length lines → (x : LogicalLine) × (slice_get lines k ≡ Some x)
some-at [] k lt = absurd (omega arith)
some-at (x ∷ lines) zero lt = (x, refl)
some-at (x ∷ lines) (suc k) lt = some-at lines k (omega arith)

no-fault : (lines : List LogicalLine) (s : StandingLine) → s.fault ≡ None → line_fault lines s ≡ None
no-fault lines s e = go (slice_get lines s.line) refl
  where
    go : (o : Option LogicalLine) → slice_get lines s.line ≡ o → line_fault lines s ≡ None
    go None i = rw i refl
    go (Some x) i = rw (i, e) refl

free-faults : (lines : List LogicalLine) (nesting : List StandingLine) → list_any has_fault nesting ≡ false → line_faults lines nesting ≡ []
free-faults lines [] h = refl
free-faults lines (s ∷ nesting) h = go s.fault refl (free-faults lines nesting)
  where
    go : (o : Option LineFaultKind) → s.fault ≡ o → (list_any has_fault nesting ≡ false → line_faults lines nesting ≡ []) → line_faults lines (s ∷ nesting) ≡ []
    go None e more = filter-none (line_fault lines) s nesting (no-fault lines s e) ∙ more (rw e at h)
    go (Some f) e more = let z : true ≡ false = rw e at h in cc

faults-free : (lines : List LogicalLine) (nesting : List StandingLine) → AreWithin (length lines) nesting → line_faults lines nesting ≡ [] → list_any has_fault nesting ≡ false
faults-free lines [] w h = refl
faults-free lines (s ∷ nesting) (lt, w) h = go s.fault refl (faults-free lines nesting w)
  where
    go : (o : Option LineFaultKind) → s.fault ≡ o → (line_faults lines nesting ≡ [] → list_any has_fault nesting ≡ false) → list_any has_fault (s ∷ nesting) ≡ false
    go None e more = rw e (more (sym (filter-none (line_fault lines) s nesting (no-fault lines s e)) ∙ h))
    go (Some f) e more =
        let (x, i) = some-at lines s.line lt in
        let told : line_fault lines s ≡ Some (x.span, f) = rw (i, e) refl in
        let z = sym (filter-some (line_fault lines) s (x.span, f) nesting told) ∙ h in
        cc

-- no error line, where no fault is told
no-error : NestingWithin → (lines : List LogicalLine) (m : Module) (h : IsModule lines m) → m.faults ≡ [] → list_any has_fault h.nesting ≡ false
no-error within lines m h none =
    let inside = subst (λ n. AreWithin n h.nesting) (as-many lines h.rows h.of_lines) (within h.rows h.nesting h.nested) in
    faults-free lines h.nesting inside (sym h.faults ∙ none)

pub faults-exactly : OneLineTree → NestingWithin → FaultlessExactly → FaultsExactly
faults-exactly one within exact lines m h = (
  λ none rows r. subst AreFaultless (same-rows one lines h.rows rows h.of_lines r) ((exact h.rows h.nesting h.nested).0 (no-error within lines m h none)),
  λ fine. h.faults ∙ free-faults lines h.nesting ((exact h.rows h.nesting h.nested).1 (fine h.rows h.of_lines)),
)

-- ---- the module of all lines

-- the trees of rows that have one
abbrev trees : List Row → List SyntaxTree
trees rows = map (λ s. s.tree) (filter_map placed rows)

row-placed : (row : Row) (rows : List Row) (t : SyntaxTree) → row.tree ≡ Some t → filter_map placed (row ∷ rows) ≡ at_column row.column t ∷ filter_map placed rows
row-placed row rows t e = filter-some placed row (at_column row.column t) rows (ap (option_map (at_column row.column)) e)

without-tree : (row : Row) (rows : List Row) → row.tree ≡ None → trees (row ∷ rows) ≡ trees rows
without-tree row rows e = ap (map (λ s. s.tree)) (filter-none placed row rows (ap (option_map (at_column row.column)) e))

with-tree : (row : Row) (rows : List Row) (t : SyntaxTree) → row.tree ≡ Some t → trees (row ∷ rows) ≡ t ∷ trees rows
with-tree row rows t e = ap (map (λ s. s.tree)) (row-placed row rows t e)

each-tree : (lines : List LogicalLine) (rows : List Row) → AreRowsOf lines rows → AreRead rows → AreEach IsTreeOfLine lines (trees rows)
each-tree [] [] h r = tt
each-tree [] (row ∷ rows) h r = absurd h
each-tree (x ∷ lines) [] h r = absurd h
each-tree (x ∷ lines) (row ∷ rows) (h, hs) (f, s, rs) = by_tree row.tree refl h.tree s (each-tree lines rows hs rs)
  where
    by_tree : (o : Option SyntaxTree) → row.tree ≡ o → IsLineOf x o → is_some o ≡ true → AreEach IsTreeOfLine lines (trees rows) → AreEach IsTreeOfLine (x ∷ lines) (trees (row ∷ rows))
    by_tree None e k s more = cc
    by_tree (Some t) e k s more = subst (AreEach IsTreeOfLine (x ∷ lines)) (sym (with-tree row rows t e)) (k, more)

each-column : (lines : List LogicalLine) (rows : List Row) → AreRowsOf lines rows → AreRead rows → map (λ s. s.column) (filter_map placed rows) ≡ map (λ line. line.column) lines
each-column [] [] h r = refl
each-column [] (row ∷ rows) h r = absurd h
each-column (x ∷ lines) [] h r = absurd h
each-column (x ∷ lines) (row ∷ rows) (h, hs) (f, s, rs) = by_tree row.tree refl s (each-column lines rows hs rs)
  where
    by_tree : (o : Option SyntaxTree) → row.tree ≡ o → is_some o ≡ true → map (λ s. s.column) (filter_map placed rows) ≡ map (λ line. line.column) lines → map (λ s. s.column) (filter_map placed (row ∷ rows)) ≡ map (λ line. line.column) (x ∷ lines)
    by_tree None e s more = cc
    by_tree (Some t) e s more = ap (map (λ s. s.column)) (row-placed row rows t e) ∙ ap (λ c. c ∷ map (λ s. s.column) (filter_map placed rows)) h.column ∙ ap (λ cs. x.column ∷ cs) more

pub faultless-module : OneLineTree → NestingWithin → FaultlessNesting → FaultlessExactly → FaultlessRead → FaultlessModule
faultless-module one within stand exact read lines m h none =
    let free = no-error within lines m h none in
    let all = stand h.rows h.nesting h.nested free in
    let known = read h.rows ((exact h.rows h.nesting h.nested).0 free) in
    let same = same-placed one lines h.nesting h.over.standing h.rows h.over.of_nesting (written-standing lines h.rows h.nesting all h.of_lines) in
    let as_written = ap lines_placed same ∙ ap (λ columns. each_at (depths columns) (trees h.rows)) (each-column lines h.rows h.of_lines known) in
    record {
      nested = λ rows r. subst (λ rs. IsNesting rs (written rs 0)) (same-rows one lines h.rows rows h.of_lines r) (subst (IsNesting h.rows) all h.nested);
      trees = trees h.rows;
      of_lines = each-tree lines h.rows h.of_lines known;
      holds = subst (λ ls. HoldsModule ls m.tree) as_written h.over.holds;
    }

-- ---- error lines in the tree

abbrev tree_span : SyntaxTree → Option Span
tree_span t = error_span (record { depth = 0; tree = t })

each-span : (ds : List ℕ) (ts : List SyntaxTree) → length ds ≡ length ts → filter_map error_span (each_at ds ts) ≡ filter_map tree_span ts
each-span [] [] e = refl
each-span [] (t ∷ ts) e = cc
each-span (d ∷ ds) [] e = cc
each-span (d ∷ ds) (t ∷ ts) e = filter-same error_span tree_span (record { depth = d; tree = t }) t (each_at ds ts) ts refl (each-span ds ts (omega arith))

as-many-deeper : (n : ℕ) (ds : List ℕ) → length (deeper n ds) ≡ length ds
as-many-deeper zero ds = refl
as-many-deeper (suc n) [] = refl
as-many-deeper (suc n) (d ∷ ds) = ap suc (as-many-deeper n ds)

as-many-depths : (columns : List ℕ) → length (depths columns) ≡ length columns
as-many-depths [] = refl
as-many-depths (c ∷ columns) = ap suc (as-many-deeper (enclosed c columns) (depths columns) ∙ as-many-depths columns)

placed-span : (all : List Placed) → filter_map error_span (lines_placed all) ≡ filter_map tree_span (map (λ s. s.tree) all)
placed-span all =
    let columns = map (λ s. s.column) all in
    let trees = map (λ s. s.tree) all in
    let as_many : length (depths columns) ≡ length trees = as-many-depths columns ∙ length-map all (λ s. s.column) ∙ sym (length-map all (λ s. s.tree)) in
    each-span (depths columns) trees as_many

no-line : (lines : List LogicalLine) (s : StandingLine) → slice_get lines s.line ≡ None → line_fault lines s ≡ None
no-line lines s i = rw i refl

no-span : (t : SyntaxTree) → is_fault (kind_of t) ≡ false → tree_span t ≡ None
no-span t e = rw e refl

standing-spans : (lines : List LogicalLine) (nesting : List StandingLine) (rows : List Row) → AreStanding lines nesting rows → filter_map tree_span (trees rows) ≡ map span_told (line_faults lines nesting)
standing-spans lines [] [] h = refl
standing-spans lines [] (row ∷ rows) h = absurd h
standing-spans lines (s ∷ nesting) [] h = absurd h
standing-spans lines (s ∷ nesting) (row ∷ rows) (h, hs) = go (slice_get lines s.line) refl s.fault refl row.tree refl h.tree (standing-spans lines nesting rows hs)
  where
    Told : Type 0
    Told = filter_map tree_span (trees (row ∷ rows)) ≡ map span_told (line_faults lines (s ∷ nesting))

    nothing-told : filter_map tree_span (trees (row ∷ rows)) ≡ filter_map tree_span (trees rows) → line_fault lines s ≡ None → filter_map tree_span (trees rows) ≡ map span_told (line_faults lines nesting) → Told
    nothing-told e none more = e ∙ more ∙ ap (map span_told) (sym (filter-none (line_fault lines) s nesting none))

    go : (o : Option LogicalLine) → slice_get lines s.line ≡ o → (f : Option LineFaultKind) → s.fault ≡ f → (t : Option SyntaxTree) → row.tree ≡ t → IsTreeStanding o f t → filter_map tree_span (trees rows) ≡ map span_told (line_faults lines nesting) → Told
    go None i f e None k is more = nothing-told (ap (filter_map tree_span) (without-tree row rows k)) (no-line lines s i) more
    go None i f e (Some t) k is more = cc
    go (Some x) i None e None k is more = nothing-told (ap (filter_map tree_span) (without-tree row rows k)) (no-fault lines s e) more
    go (Some x) i None e (Some t) k is more =
        let plain = ap (filter_map tree_span) (with-tree row rows t k) ∙ filter-none tree_span t (trees rows) (no-span t (no-fault-kind x.tokens t is.1)) in
        nothing-told plain (no-fault lines s e) more
    go (Some x) i (Some f) e None k is more = cc
    go (Some x) i (Some f) e (Some t) k is more =
        let leaf : t ≡ error_leaf x.span = cc in
        let told : line_fault lines s ≡ Some (x.span, f) = rw (i, e) refl in
        let first = ap (filter_map tree_span) (with-tree row rows t k) ∙ filter-some tree_span t x.span (trees rows) (ap tree_span leaf) in
        first ∙ ap (λ spans. x.span ∷ spans) more ∙ ap (map span_told) (sym (filter-some (line_fault lines) s (x.span, f) nesting told))

pub error-lines-told : ErrorLinesTold
error-lines-told lines m h root last =
    let printed = (h.over.holds root last).printed in
    ap (filter_map error_span) printed ∙ placed-span (filter_map placed h.over.standing) ∙ standing-spans lines h.nesting h.over.standing h.over.of_nesting ∙ ap (map span_told) (sym h.faults)

-- ---- one module

pub one-module : OneLineTree → OneNesting → OneModuleTree → OneModule
one-module one nests only lines m n h k =
    let rows = same-rows one lines h.rows k.rows h.of_lines k.of_lines in
    let nesting = nests k.rows h.nesting k.nesting (subst (λ rs. IsNesting rs h.nesting) rows h.nested) k.nested in
    let standing = subst (λ (ns : List StandingLine). AreStanding lines ns h.over.standing) nesting h.over.of_nesting in
    let same = ap lines_placed (same-placed one lines k.nesting h.over.standing k.over.standing standing k.over.of_nesting) in
    record {
      faults = h.faults ∙ ap (line_faults lines) nesting ∙ sym k.faults;
      trees = λ r s last end. only (module_lines k.over.standing) (tree_of m.tree r) (tree_of n.tree s) (subst (λ ls. IsModuleOf ls (tree_of m.tree r)) same (h.over.holds r last)) (k.over.holds s end);
    }
