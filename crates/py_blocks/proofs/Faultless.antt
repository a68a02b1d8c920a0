-- A text and its nesting: there is one, of lines of the text, and it has no error line exactly where no line is faulty.
use Rattle.std.proofs.Common.{◌≡◌, ℕ, zero, suc, ◌+◌, ◌<◌, ◌≤◌, true, false, Option, Some, None, List, [], ◌∷◌, length, get_or, map, refl, sym, ◌∙◌, ap, subst, arith}
use Rattle.std.specs.Option.{is_some}
use Rattle.std.specs.List.{list_any, range_with_len}
use Rattle.std.proofs.lemmas.Bool.{or_parts}
use Rattle.std.proofs.lemmas.List.{length-map}
use Rattle.py_base.specs.Tree.{SyntaxTree}
use Rattle.py_tokens.specs.declared.kinds.TokenFault.{TokenFault}
use Rattle.py_blocks.specs.declared.facts.LineFacts.{LineFacts}
use Rattle.py_blocks.specs.declared.line.Line.{Line}
use Rattle.py_blocks.specs.Enclosing.{line_at}
use Rattle.py_blocks.specs.Facts.{Row, facts_of}
use Rattle.py_blocks.specs.Faults.{seen_at, lines_seen, standing}
use Rattle.py_blocks.specs.Laws.{written, has_fault, places, OneNesting, AreWithin, NestingWithin, AreFaultless, FaultlessExactly, AreRead, FaultlessRead}
use Rattle.py_blocks.specs.Lines.{is_unread}
use Rattle.py_blocks.specs.Nesting.{line_kind}
use Rattle.py_blocks.specs.Rules.{is_faulty}
use Rattle.py_blocks.specs.Settling.{onto, Settles, settled, replacing}
use Rattle.py_blocks.proofs.Keeping.{fine-read}
use Rattle.py_blocks.proofs.Lawful.{settles-once, none-is-faulty, faultless-stay, faultless-end, Sublist, none, keep, skip, replaced-sub}
use Rattle.py_blocks.proofs.Seeing.{facts-at, written-whole, no-faults}

pub one-nesting : OneNesting
one-nesting rows a b n m =
    let all = map facts_of rows in
    n.is ∙ ap (map (standing all)) (settles-once (lines_seen all) n.end m.end n.settles m.settles) ∙ sym m.is

-- ---- lines of the text

abbrev AllBelow : ℕ → List ℕ → Type 0
AllBelow n [] = Unit {0}
AllBelow n (p ∷ ps) = (p < n) × AllBelow n ps

sub-below : {ps qs : List ℕ} (n : ℕ) → Sublist ps qs → AllBelow n qs → AllBelow n ps
sub-below n (none qs) h = tt
sub-below n (keep p ps qs s) (b, h) = (b, sub-below n s h)
sub-below n (skip p ps qs s) (b, h) = sub-below n s h

settles-below : {lines end : List Line} (n : ℕ) → Settles lines end → AllBelow n (places lines) → AllBelow n (places end)
settles-below n (settled lines e) h = h
settles-below n (replacing lines next end e s) h = settles-below n s (sub-below n (replaced-sub lines [] next e) h)

seen-below : (all : List LineFacts) (from count n : ℕ) → from + count ≤ n → AllBelow n (places (map (seen_at all) (range_with_len from count)))
seen-below all from zero n le = tt
seen-below all from (suc count) n le = (omega arith, seen-below all (from + 1) count n (omega arith))

standing-within : (all : List LineFacts) (end : List Line) (n : ℕ) → AllBelow n (places end) → AreWithin n (map (standing all) end)
standing-within all [] n h = tt
standing-within all (x ∷ end) n (a, b) = (a, standing-within all end n b)

pub nesting-within : NestingWithin
nesting-within rows nesting is =
    let all = map facts_of rows in
    let len : length all ≡ length rows = length-map rows facts_of in
    let seen = seen-below all 0 (length all) (length rows) (omega arith) in
    subst (AreWithin (length rows)) (sym is.is) (standing-within all is.end (length rows) (settles-below (length rows) is.settles seen))

-- ---- no error line exactly where no line is faulty

written-fine : (rows : List Row) (i : ℕ) → list_any has_fault (written rows i) ≡ false
written-fine [] i = refl
written-fine (row ∷ rows) i = written-fine rows (i + 1)

pub faultless-exactly : FaultlessExactly
faultless-exactly rows nesting is = (fine, free)
  where
    all : List LineFacts
    all = map facts_of rows

    fine : list_any has_fault nesting ≡ false → AreFaultless rows
    fine h before behind x e =
        let same = faultless-end (lines_seen all) is.end is.settles (no-faults all is.end (ap (list_any has_fault) (sym is.is) ∙ h)) in
        none-is-faulty (lines_seen all) is.end before behind x is.settles (e ∙ sym same)

    free : AreFaultless rows → list_any has_fault nesting ≡ false
    free h =
        let same = faultless-stay (lines_seen all) is.end h is.settles in
        ap (list_any has_fault) (is.is ∙ ap (map (standing all)) same ∙ written-whole rows) ∙ written-fine rows 0

-- ---- each has a tree

none-unread : (before xs : List Line) → ((b behind : List Line) (x : Line) → onto b (x ∷ behind) ≡ onto before xs → is_faulty b x behind ≡ false) → list_any (λ x. is_unread x.kind) xs ≡ false
none-unread before [] h = refl
none-unread before (x ∷ xs) h = let f = fine-read before x xs (h before xs x refl) in rw f (none-unread (x ∷ before) xs h)

row-read : (row : Row) → is_unread (line_kind (facts_of row).kind) ≡ false → (row.fault ≡ None) × (is_some row.tree ≡ true)
row-read row h = go row.fault refl row.tree refl
  where
    go : (f : Option TokenFault) → row.fault ≡ f → (t : Option SyntaxTree) → row.tree ≡ t → (row.fault ≡ None) × (is_some row.tree ≡ true)
    go (Some f) e t i = let z : true ≡ false = rw e at h in cc
    go None e None i = let z : true ≡ false = rw (e, i) at h in cc
    go None e (Some t) i = (e, ap is_some i)

read-from : (all : List LineFacts) (rows : List Row) (i : ℕ) → ((k : ℕ) (d : Row) → k < length rows → line_at all (i + k) ≡ facts_of (get_or rows k d)) → list_any (λ x. is_unread x.kind) (map (seen_at all) (range_with_len i (length rows))) ≡ false → AreRead rows
read-from all [] i h free = tt
read-from all (row ∷ rows) i h free =
    let z : i + 0 ≡ i = omega arith in
    let here : line_at all i ≡ facts_of row = ap (line_at all) (sym z) ∙ h 0 row (omega arith) in
    let parts = or_parts _ _ free in
    let read = row-read row (ap (λ (f : LineFacts). is_unread (line_kind f.kind)) (sym here) ∙ parts.0) in
    (read.0, read.1, read-from all rows (i + 1) (λ k d lt. let n : (i + 1) + k ≡ i + suc k = omega arith in ap (line_at all) n ∙ h (suc k) d (omega arith)) parts.1)

pub faultless-read : FaultlessRead
faultless-read rows h =
    let all = map facts_of rows in
    let free = none-unread [] (lines_seen all) h in
    let len : length all ≡ length rows = length-map rows facts_of in
    let seen = ap (λ n. list_any (λ x. is_unread x.kind) (map (seen_at all) (range_with_len 0 n))) (sym len) ∙ free in
    read-from all rows 0 (λ k d lt. let z : 0 + k ≡ k = omega arith in ap (line_at all) z ∙ facts-at rows k d lt) seen
