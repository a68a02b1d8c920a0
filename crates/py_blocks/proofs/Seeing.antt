-- No line is seen as an error line, so a nesting without faults is that of the lines as they are written.
use Rattle.std.proofs.Common.{◌≡◌, ℕ, zero, suc, ◌+◌, ◌<◌, Bool, true, false, Option, Some, None, List, [], ◌∷◌, length, get_or, map, refl, sym, ◌∙◌, ap, arith}
use Rattle.std.specs.Prelude.{All, if◌then◌else◌}
use Rattle.std.specs.List.{list_any, range_with_len}
use Rattle.std.proofs.lemmas.List.{length-map}
use Rattle.py_base.specs.Tree.{SyntaxTree}
use Rattle.py_tokens.specs.declared.kinds.TokenFault.{TokenFault}
use Rattle.py_blocks.specs.declared.fault.StandingLine.{StandingLine}
use Rattle.py_base.specs.declared.node.NodeKind.{NodeKind}
use Rattle.py_base.specs.declared.node.NodeKind.TheVariants as nodes
use Rattle.py_blocks.specs.declared.facts.LineFacts.{LineFacts}
use Rattle.py_blocks.specs.declared.line.Line.{Line}
use Rattle.py_blocks.specs.Enclosing.{line_at}
use Rattle.py_blocks.specs.Lines.{is_error}
use Rattle.py_blocks.specs.Nesting.{kind_read, line_kind}
use Rattle.py_blocks.specs.Faults.{seen_at, lines_seen, fault_at, standing}
use Rattle.py_blocks.specs.Facts.{Row, facts_of}
use Rattle.py_blocks.specs.Laws.{written, has_fault, FaultlessNesting}
use Rattle.py_blocks.proofs.Lawful.{faultless-end}

read-no-error : (k : NodeKind) → is_error (kind_read k) ≡ false
read-no-error nodes.If = refl
read-no-error nodes.Elif = refl
read-no-error nodes.Else = refl
read-no-error nodes.While = refl
read-no-error nodes.For = refl
read-no-error nodes.Try = refl
read-no-error nodes.Except = refl
read-no-error nodes.ExceptStar = refl
read-no-error nodes.Finally = refl
read-no-error nodes.Match = refl
read-no-error nodes.Case = refl
read-no-error nodes.Def = refl
read-no-error nodes.Class = refl
read-no-error nodes.Decorator = refl
read-no-error k = refl

no-error : (k : Option NodeKind) → is_error (line_kind k) ≡ false
no-error None = refl
no-error (Some k) = read-no-error k

none-at : (lines : List LineFacts) (is : List ℕ) (k : ℕ) (d : Line) → k < length (map (seen_at lines) is) → is_error (get_or (map (seen_at lines) is) k d).kind ≡ false
none-at lines [] k d lt = absurd (omega arith)
none-at lines (i ∷ is) zero d lt = no-error (line_at lines i).kind
none-at lines (i ∷ is) (suc k) d lt = none-at lines is k d (omega arith)

pub none-seen : (lines : List LineFacts) (is : List ℕ) (seen : List Line) → seen ≡ map (seen_at lines) is → All (λ y. is_error y.kind ≡ false) seen
none-seen lines is seen e = λ k d. rw e (none-at lines is k d)

-- ---- the lines as they are written

facts-column : (r : Row) → (facts_of r).column ≡ r.column
facts-column r = go r.fault refl r.tree refl
  where
    go : (f : Option TokenFault) → r.fault ≡ f → (t : Option SyntaxTree) → r.tree ≡ t → (facts_of r).column ≡ r.column
    go (Some f) e t i = rw e refl
    go None e None i = rw (e, i) refl
    go None e (Some t) i = rw (e, i) refl

pub facts-at : (rows : List Row) (k : ℕ) (d : Row) → k < length rows → line_at (map facts_of rows) k ≡ facts_of (get_or rows k d)
facts-at [] k d lt = absurd (omega arith)
facts-at (r ∷ rows) zero d lt = refl
facts-at (r ∷ rows) (suc k) d lt = facts-at rows k d (omega arith)

standing-same : (all : List LineFacts) (i : ℕ) (r : Row) → line_at all i ≡ facts_of r → standing all (seen_at all i) ≡ record { column = r.column; line = i; fault = None }
standing-same all i r e =
    let column : (line_at all i).column ≡ r.column = ap (λ (f : LineFacts). f.column) e ∙ facts-column r in
    ap (λ b. record { column = (line_at all i).column; line = i; fault = if b then Some (fault_at all i) else None }) (no-error (line_at all i).kind)
    ∙ ap (λ c. record { column = c; line = i; fault = None }) column

written-from : (all : List LineFacts) (rows : List Row) (i : ℕ) → ((k : ℕ) (d : Row) → k < length rows → line_at all (i + k) ≡ facts_of (get_or rows k d)) → map (standing all) (map (seen_at all) (range_with_len i (length rows))) ≡ written rows i
written-from all [] i h = refl
written-from all (r ∷ rows) i h =
    let z : i + 0 ≡ i = omega arith in
    let here : line_at all i ≡ facts_of r = ap (line_at all) (sym z) ∙ h 0 r (omega arith) in
    let more = written-from all rows (i + 1) (λ k d lt. let n : (i + 1) + k ≡ i + suc k = omega arith in ap (line_at all) n ∙ h (suc k) d (omega arith)) in
    ap (λ s. s ∷ map (standing all) (map (seen_at all) (range_with_len (i + 1) (length rows)))) (standing-same all i r here)
    ∙ ap (λ (ls : List StandingLine). record { column = r.column; line = i; fault = None } ∷ ls) more

pub written-whole : (rows : List Row) → map (standing (map facts_of rows)) (lines_seen (map facts_of rows)) ≡ written rows 0
written-whole rows =
    ap (λ n. map (standing (map facts_of rows)) (map (seen_at (map facts_of rows)) (range_with_len 0 n))) (length-map rows facts_of)
    ∙ written-from (map facts_of rows) rows 0 (λ k d lt. let z : 0 + k ≡ k = omega arith in ap (line_at (map facts_of rows)) z ∙ facts-at rows k d lt)

pub no-faults : (all : List LineFacts) (end : List Line) → list_any has_fault (map (standing all) end) ≡ false → list_any (λ x. is_error x.kind) end ≡ false
no-faults all [] h = refl
no-faults all (x ∷ end) h = go (is_error x.kind) refl (no-faults all end)
  where
    go : (b : Bool) → is_error x.kind ≡ b → (list_any has_fault (map (standing all) end) ≡ false → list_any (λ x. is_error x.kind) end ≡ false) → list_any (λ x. is_error x.kind) (x ∷ end) ≡ false
    go true e more = let t : true ≡ false = rw e at h in cc
    go false e more = rw e (more (rw e at h))

pub faultless-nesting : FaultlessNesting
faultless-nesting rows nesting is none =
    let all = map facts_of rows in
    let fine = no-faults all is.end (ap (list_any has_fault) (sym is.is) ∙ none) in
    is.is ∙ ap (map (standing all)) (faultless-end (lines_seen all) is.end is.settles fine) ∙ written-whole rows
