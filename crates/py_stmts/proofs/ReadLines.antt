-- Lines that are read one after the other: what is known of those before stays, and each tree comes once.
use Rattle.std.proofs.Common.{◌≡◌, ℕ, suc, ◌+◌, ◌==◌, ◌<◌, ◌≤◌, nat_lt, Bool, true, false, Option, Some, None, List, [], ◌∷◌, ◌++◌, length, map, refl, sym, ◌∙◌, ap, subst, arith, if◌then◌else◌, append_assoc, append-nil, length-append, drop, get_or}
use Rattle.std.specs.Option.{option_map, is_some}
use Rattle.std.specs.Prelude.{IfSome, IfNone, IsSomeAnd}
use Rattle.std.proofs.lemmas.Bool.{ltb-true, ltb-false, eqb-true, eqb-false}
use Rattle.std.proofs.lemmas.List.{map-append, drop_more}
use Rattle.std.proofs.lemmas.List.Elements.{filter_map-append}
use Rattle.py_base.specs.declared.ids.NodeId.{NodeId}
use Rattle.py_base.specs.declared.node.Node.{Node}
use Rattle.py_base.specs.declared.node.Word.{Word}
use Rattle.py_base.specs.declared.node.Word.TheVariants as words
use Rattle.py_base.specs.Tree.{Arena, SyntaxTree, node, nothing, no_parts, said, parts_at, trees, tree_of, AreOlder, AreLinked, IsLinked, Grows}
use Rattle.py_base.specs.TreeLaws.{tree_of-later, tree_of-new, Grows-nodes, Grows-refl, Grows-add}
use Rattle.py_base.specs.OneTree.{times, all_parts, AddsOneTree}
use Rattle.py_base.specs.OneTreeLaws.{times-append, all_parts-append}
use Rattle.py_tokens.specs.declared.lines.LogicalLine.{LogicalLine}
use Rattle.py_blocks.specs.declared.fault.BlockLine.{BlockLine}
use Rattle.py_blocks.specs.Facts.{Row}
use Rattle.py_blocks.specs.Faults.{row_of, rows_of, IsNodeOf, AreNodesOf}
use Rattle.py_modules.specs.Held.{HaveAll}
use Rattle.py_stmts.specs.Line.{IsLineTree}
use Rattle.py_stmts.specs.Module.{AreEach, IsLineOf}
use Rattle.py_stmts.specs.Rows.{module_line, lines_with_trees, roots}

-- ---- lines as the arena grows

tree-later : (old new : Arena) (o : Option NodeId) → IsLinked old → Grows old new → IsNodeOf (length old.nodes) o → option_map (tree_of new) o ≡ option_map (tree_of old) o
tree-later old new None h g lt = refl
tree-later old new (Some id) h g lt = ap Some (tree_of-later old new id h g lt)

row-later : (old new : Arena) (r : BlockLine) → IsLinked old → Grows old new → IsNodeOf (length old.nodes) r.tree → row_of new r ≡ row_of old r
row-later old new r h g lt = ap (λ (t : Option SyntaxTree). record { column = r.column; fault = r.fault; tree = t }) (tree-later old new r.tree h g lt)

rows-later : (old new : Arena) (rows : List BlockLine) → IsLinked old → Grows old new → AreNodesOf (length old.nodes) rows → rows_of new rows ≡ rows_of old rows
rows-later old new [] h g lt = refl
rows-later old new (r ∷ rows) h g (a, b) = rw (row-later old new r h g a, rows-later old new rows h g b) refl

IsNodeOf-later : (m n : ℕ) (o : Option NodeId) → m ≤ n → IsNodeOf m o → IsNodeOf n o
IsNodeOf-later m n None le h = tt
IsNodeOf-later m n (Some id) le h = omega arith

AreNodesOf-later : (m n : ℕ) (rows : List BlockLine) → m ≤ n → AreNodesOf m rows → AreNodesOf n rows
AreNodesOf-later m n [] le h = tt
AreNodesOf-later m n (r ∷ rows) le (a, b) = (IsNodeOf-later m n r.tree le a, AreNodesOf-later m n rows le b)

AreNodesOf-add : (n : ℕ) (rows : List BlockLine) (r : BlockLine) → AreNodesOf n rows → IsNodeOf n r.tree → AreNodesOf n (rows ++ r ∷ [])
AreNodesOf-add n [] r h a = (a, tt)
AreNodesOf-add n (x ∷ rows) r (p, q) a = (p, AreNodesOf-add n rows r q a)

-- ---- each tree comes once

times-later : (id : NodeId) (n : ℕ) (ids : List NodeId) → id.0 < n → times n (id ∷ ids) ≡ times n ids
times-later id n ids lt = cases (id.0 == n) refl
  where
    cases : (b : Bool) → (id.0 == n) ≡ b → (if b then suc (times n ids) else times n ids) ≡ times n ids
    cases true e = let same = eqb-true id.0 n e in absurd (omega arith)
    cases false e = refl

times-before : (id : NodeId) (n : ℕ) (ids : List NodeId) → n < id.0 → times n (id ∷ ids) ≡ times n ids
times-before id n ids lt = cases (id.0 == n) refl
  where
    cases : (b : Bool) → (id.0 == n) ≡ b → (if b then suc (times n ids) else times n ids) ≡ times n ids
    cases true e = let same = eqb-true id.0 n e in absurd (omega arith)
    cases false e = refl

times-same : (id : NodeId) (ids : List NodeId) → times id.0 (id ∷ ids) ≡ suc (times id.0 ids)
times-same id ids = cases (id.0 == id.0) refl
  where
    cases : (b : Bool) → (id.0 == id.0) ≡ b → (if b then suc (times id.0 ids) else times id.0 ids) ≡ suc (times id.0 ids)
    cases true e = refl
    cases false e = absurd (eqb-false id.0 id.0 e refl)

times-older : (m n : ℕ) (ids : List NodeId) → AreOlder m ids → m ≤ n → times n ids ≡ 0
times-older m n [] h le = refl
times-older m n (id ∷ ids) (a, b) le = times-later id n ids (omega arith) ∙ times-older m n ids b le

parts-older : (names at n : ℕ) (ns : List Node) → AreLinked names at ns → at + length ns ≤ suc n → times n (all_parts ns) ≡ 0
parts-older names at n [] h le = refl
parts-older names at n (x ∷ ns) (a, b, c) le =
    let first = times-older at n x.parts a (omega arith) in
    let rest = parts-older names (suc at) n ns c (omega arith) in
    omega (arith, times-append n x.parts (all_parts ns))

-- an old node, a new one, or the newest
data Place (m k n : ℕ) : Type 0 where
  old_node : n < m → Place m k n
  new_node : m ≤ n → n < k → Place m k n
  newest_node : n ≡ k → Place m k n

place : (m k n : ℕ) → n < suc k → Place m k n
place m k n lt = cases (nat_lt n m) (nat_lt n k) refl refl
  where
    cases : (b c : Bool) → nat_lt n m ≡ b → nat_lt n k ≡ c → Place m k n
    cases true c e f = old_node (ltb-true n m e)
    cases false true e f = new_node (let ge = ltb-false n m e in omega arith) (ltb-true n k f)
    cases false false e f = newest_node (let ge = ltb-false n k f in omega arith)

held-some : (old new : Arena) (held : List NodeId) (id : NodeId) → IsLinked new → AreOlder (length old.nodes) held → AddsOneTree old new id → HaveAll old held → HaveAll new (held ++ id ∷ [])
held-some old new held id h older adds all n lt = each (place (length old.nodes) id.0 n (let e = adds.newest in omega arith))
  where
    each : Place (length old.nodes) id.0 n → times n (all_parts new.nodes) + times n (held ++ id ∷ []) ≡ 1
    each (old_node below) =
        let a = all n below in
        let b = adds.apart n below in
        let c = times-before id n [] (let e = adds.newest in let f = adds.added in omega arith) in
        let d = times-append n held (id ∷ []) in
        omega arith
    each (new_node from below) =
        let a = adds.once n from (let e = adds.newest in omega arith) in
        let b = times-older (length old.nodes) n held older from in
        let c = times-before id n [] below in
        let d = times-append n held (id ∷ []) in
        omega arith
    each (newest_node same) =
        let e = adds.newest in
        let f = adds.added in
        let a = parts-older (length new.names) 0 n new.nodes h (omega arith) in
        let b = times-older (length old.nodes) n held older (omega arith) in
        let c : times n (id ∷ []) ≡ 1 = subst (λ m. times m (id ∷ []) ≡ 1) (sym same) (times-same id []) in
        let d = times-append n held (id ∷ []) in
        omega arith

-- ---- the rows so far

-- what is known once some lines are read, of all that there are
pub record AreRead {X : Type 0} (R : X → Row → Type 0) (a : Arena) (all rest : List X) (rows : List BlockLine) : Type 0 where
  pub linked : IsLinked a
  pub within : AreNodesOf (length a.nodes) rows
  pub lines : (more : List Row) → AreEach R rest more → AreEach R all (rows_of a rows ++ more)
  pub once : HaveAll a (roots rows)

pub AreRead-start : {X : Type 0} (R : X → Row → Type 0) (a : Arena) (all : List X) → IsLinked a → a.nodes ≡ [] → AreRead R a all all []
AreRead-start R a all h e = record {
  linked = h;
  within = tt;
  lines = λ more rows. rows;
  once = λ n lt. let none : length a.nodes ≡ 0 = ap length e in absurd (omega arith);
}

roots-add : (rows : List BlockLine) (r : BlockLine) → roots (rows ++ r ∷ []) ≡ roots rows ++ roots (r ∷ [])
roots-add rows r = ap (map (λ line. line.tree)) (filter_map-append module_line rows (r ∷ [])) ∙ map-append (λ line. line.tree) (lines_with_trees rows) (lines_with_trees (r ∷ []))

pub roots-older : (n : ℕ) (rows : List BlockLine) → AreNodesOf n rows → AreOlder n (roots rows)
roots-older n [] h = tt
roots-older n (r ∷ rows) (a, b) = by_tree r.tree a refl (roots-older n rows b)
  where
    by_tree : (o : Option NodeId) → IsNodeOf n o → r.tree ≡ o → AreOlder n (roots rows) → AreOlder n (roots (r ∷ rows))
    by_tree None p e others = rw e others
    by_tree (Some id) p e others = rw e (p, others)

-- one line more
pub AreRead-more : {X : Type 0} (R : X → Row → Type 0) (old new : Arena) (all rest : List X) (line : X) (rows : List BlockLine) (r : BlockLine) → AreRead R old all (line ∷ rest) rows → Grows old new → IsLinked new → IsNodeOf (length new.nodes) r.tree → R line (row_of new r) → IfSome r.tree (AddsOneTree old new) → IfNone r.tree (new ≡ old) → AreRead R new all rest (rows ++ r ∷ [])
AreRead-more R old new all rest line rows r known g h inside row some none = record {
  linked = h;
  within = AreNodesOf-add (length new.nodes) rows r (AreNodesOf-later (length old.nodes) (length new.nodes) rows (Grows-nodes old new g) known.within) inside;
  lines = λ more behind. rw (map-append (row_of new) rows (r ∷ []), rows-later old new rows known.linked g known.within, append_assoc (rows_of old rows) (row_of new r ∷ []) more) (known.lines (row_of new r ∷ more) (row, behind));
  once = rw (roots-add rows r) (by_tree r.tree some none refl);
}
  where
    by_tree : (o : Option NodeId) → IfSome o (AddsOneTree old new) → IfNone o (new ≡ old) → r.tree ≡ o → HaveAll new (roots rows ++ roots (r ∷ []))
    by_tree None s e same = rw (same, append-nil (roots rows), e) known.once
    by_tree (Some id) s e same = rw same (held-some old new (roots rows) id h (roots-older (length old.nodes) rows known.within) s known.once)

-- the same for the item at a place
pub AreRead-next : {X : Type 0} (R : X → Row → Type 0) (old new : Arena) (all : List X) (i : ℕ) (d : X) (rows : List BlockLine) (r : BlockLine) → i < length all → AreRead R old all (drop i all) rows → Grows old new → IsLinked new → IsNodeOf (length new.nodes) r.tree → R (get_or all i d) (row_of new r) → IfSome r.tree (AddsOneTree old new) → IfNone r.tree (new ≡ old) → AreRead R new all (drop (i + 1) all) (rows ++ r ∷ [])
AreRead-next R old new all i d rows r lt known g h inside row some none =
    AreRead-more R old new all (drop (i + 1) all) (get_or all i d) rows r (subst (λ rest. AreRead R old all rest rows) (drop_more all i d lt) known) g h inside row some none

pub AreRead-all : {X : Type 0} (R : X → Row → Type 0) (a : Arena) (all rest : List X) (rows : List BlockLine) → rest ≡ [] → AreRead R a all rest rows → AreEach R all (rows_of a rows)
AreRead-all R a all rest rows e known = rw (← append-nil (rows_of a rows)) (known.lines [] (rw e tt))

none-of : {X : Type 0} (o : Option X) → is_some o ≡ false → o ≡ None
none-of None h = refl
none-of (Some x) h = cc

-- what is found for a line without a token fault is its tree
pub IsLineOf-found : (line : LogicalLine) (a : Arena) (o : Option NodeId) → is_some line.fault ≡ false → IfSome o (λ id. (id.0 < length a.nodes) × IsLineTree line.tokens (tree_of a id)) → ((t : SyntaxTree) → IsLineTree line.tokens t → IsSomeAnd o (λ id. tree_of a id ≡ t)) → IsNodeOf (length a.nodes) o × IsLineOf line (option_map (tree_of a) o)
IsLineOf-found line a None free found only = (tt, λ no_fault t h. only t h)
IsLineOf-found line a (Some id) free found only = (found.0, (none-of line.fault free, found.1))

-- ---- the leaf of an error line

pub same-grows : (old new : Arena) → new ≡ old → Grows old new
same-grows old new is = rw is (Grows-refl old)

pub leaf-grows : (old new : Arena) (x : Node) → new ≡ record old { nodes = old.nodes ++ x ∷ [] } → Grows old new
leaf-grows old new x is = rw is (Grows-add old x)

pub leaf-tree : (old new : Arena) (x : Node) (id : NodeId) → x.word ≡ words.Nothing → x.parts ≡ [] → id.0 ≡ length old.nodes → new ≡ record old { nodes = old.nodes ++ x ∷ [] } → (id.0 < length new.nodes) × (tree_of new id ≡ node x.kind x.span nothing no_parts)
leaf-tree old new x id word none at is =
    let len : length new.nodes ≡ length old.nodes + 1 = ap (λ (a : Arena). length a.nodes) is ∙ length-append old.nodes (x ∷ []) in (
      omega arith,
      ap (λ (a : Arena). tree_of a id) is ∙ tree_of-new old x id at ∙ ap (λ (w : Word). node x.kind x.span (said old.names w) (parts_at (trees old) x.parts)) word ∙ ap (λ (ps : List NodeId). node x.kind x.span nothing (parts_at (trees old) ps)) none,
    )

pub leaf-added : (old new : Arena) (x : Node) (id : NodeId) → x.parts ≡ [] → id.0 ≡ length old.nodes → new ≡ record old { nodes = old.nodes ++ x ∷ [] } → AddsOneTree old new id
leaf-added old new x id none at is = record {
  newest = let n = len in omega arith;
  added = let n = len in omega arith;
  once = λ n from below. let m = len in absurd (omega arith);
  apart = λ n below. ap (times n) parts;
}
  where
    len : length new.nodes ≡ length old.nodes + 1
    len = ap (λ (a : Arena). length a.nodes) is ∙ length-append old.nodes (x ∷ [])

    parts : all_parts new.nodes ≡ all_parts old.nodes
    parts = ap (λ (a : Arena). all_parts a.nodes) is ∙ (all_parts-append old.nodes (x ∷ []) ∙ (ap (λ (ps : List NodeId). all_parts old.nodes ++ (ps ++ [])) none ∙ append-nil (all_parts old.nodes)))
