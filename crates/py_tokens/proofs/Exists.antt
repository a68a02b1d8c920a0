-- Each text has a cut: the pieces that are found are one.
use Rattle.std.proofs.Common.{inl, inr, ◌≡◌, ℕ, zero, suc, ◌+◌, ◌*◌, ◌<◌, ◌≤◌, Bool, true, false, ◌∷◌, [], List, length, take, drop, refl, ◌∙◌, ap, subst, arith, Option, Some, None, cond, length-drop, filter_map, MatchOption}
use Rattle.std.proofs.lemmas.Bool.{cases_lt}
use Rattle.py_tokens.specs.Fronts.{IsLongest, HasNone, longer}
use Rattle.py_tokens.specs.Rows.{Fits, row_kind, row_at, fault_row}
use Rattle.py_tokens.specs.Opens.{here, is_some_open, after, is_number}
use Rattle.py_tokens.specs.Cut.{is_done, Cut}
use Rattle.py_tokens.specs.Lines.{mark_len, lines_of, mark, line_of, groups, placed}
use Rattle.py_tokens.specs.LogicalLines.{IsCut, pick, longest_of, the_piece, piece_of, first_pieces, pieces_of, logical_lines}
use Rattle.py_tokens.specs.declared.kinds.Kind.{Kind}
use Rattle.py_tokens.specs.declared.kinds.Piece.{Piece}
use Rattle.py_tokens.specs.declared.rows.Here.{Here}
use Rattle.py_tokens.specs.Nesting.{Nesting, none_open}
use Rattle.py_tokens.specs.declared.lines.LogicalLine.{LogicalLine}
use Rattle.py_tokens.proofs.RowLaws.{fault_none}
use Rattle.py_tokens.proofs.Measure.{bit, smaller_step}
use Rattle.py_tokens.proofs.CutLaws.{unique}

-- ---- the longest front is found

-- of the fronts of fewer than n characters, this is the longest
abbrev Picked : (List ℕ → List ℕ → Option Kind) → List ℕ → ℕ → Option (ℕ × Kind) → Type 0
Picked table text n best =
    MatchOption best ((m : ℕ) → m < n → table (take m text) (drop m text) ≡ None) (λ r. (r.0 < n) × (table (take r.0 text) (drop r.0 text) ≡ Some r.1) × ((m : ℕ) → r.0 < m → m < n → table (take m text) (drop m text) ≡ None))

at_or_before : (P : ℕ → Type 0) (i : ℕ) → ((m : ℕ) → m < i → P m) → P i → (m : ℕ) → m < suc i → P m
at_or_before P i h e m l = elim (cases_lt m i) as (λ _. P m) [ inl b ↦ h m b | inr b ↦ subst P (let same : i ≡ m = omega arith in same) e ]

pick_on : (table : List ℕ → List ℕ → Option Kind) (text : List ℕ) (n : ℕ) (found : Option Kind) (best : Option (ℕ × Kind)) → table (take n text) (drop n text) ≡ found → Picked table text n best → Picked table text (suc n) (longer n found best)
pick_on table text n None None e p = at_or_before (λ m. table (take m text) (drop m text) ≡ None) n p e
pick_on table text n None (Some r) e p = (omega (arith, p.0), p.1, λ m a b. at_or_before (λ k. r.0 < k → table (take k text) (drop k text) ≡ None) n (λ k l h. p.2 k h l) (λ _. e) m b a)
pick_on table text n (Some k) best e p = (omega arith, e, λ m a b. absurd (omega arith))

picked : (table : List ℕ → List ℕ → Option Kind) (text : List ℕ) (n : ℕ) → Picked table text n (pick table text n)
picked table text zero = λ m l. absurd (omega arith)
picked table text (suc n) = pick_on table text n (table (take n text) (drop n text)) (pick table text n) refl (picked table text n)

picked_longest : (table : List ℕ → List ℕ → Option Kind) (text : List ℕ) (r : ℕ × Kind) → Picked table text (length text + 1) (Some r) → IsLongest table text r
picked_longest table text r p = record { within = omega (arith, p.0); fits = p.1; longest = λ m a b. p.2 m a (omega arith) }

picked_none : (table : List ℕ → List ℕ → Option Kind) (text : List ℕ) → Picked table text (length text + 1) None → HasNone table text
picked_none table text p = λ m l. p m (omega arith)

-- ---- the piece that is found fits

chosen : (place : Here) (text : List ℕ) (r s : Option (ℕ × Kind)) → Picked (row_kind (row_at place text)) text (length text + 1) r → Picked (row_kind (fault_row place text)) text (length text + 1) s → Fits place text (the_piece r s)
chosen place text (Some r) s p q = inl (picked_longest (row_kind (row_at place text)) text r p)
chosen place text None (Some s) p q = inr (picked_none (row_kind (row_at place text)) text p, picked_longest (row_kind (fault_row place text)) text s q)
chosen place text None None p q = absurd (fault_none place text (picked_none (row_kind (fault_row place text)) text q))

pub piece_fits : (place : Here) (text : List ℕ) → Fits place text (piece_of place text)
piece_fits place text =
    chosen place text (longest_of (row_at place text) text) (longest_of (fault_row place text) text) (picked (row_kind (row_at place text)) text (length text + 1)) (picked (row_kind (fault_row place text)) text (length text + 1))

pub fits_within : (place : Here) (text : List ℕ) (p : Piece) → Fits place text p → p.len ≤ length text
fits_within place text p (inl a) = a.within
fits_within place text p (inr b) = b.1.within

-- ---- the pieces that are found are a cut

module _ (opens : Nesting) (number : Bool) (text : List ℕ) where
  go_on : (n : ℕ) (b : Bool) → is_done opens text ≡ b → 2 * length text + bit (is_some_open opens) < suc n → (is_done opens text ≡ false → Cut (after opens (piece_of (here opens number) text).kind (take (piece_of (here opens number) text).len text)) (is_number (piece_of (here opens number) text).kind) (drop (piece_of (here opens number) text).len text) (first_pieces n (after opens (piece_of (here opens number) text).kind (take (piece_of (here opens number) text).len text)) (is_number (piece_of (here opens number) text).kind) (drop (piece_of (here opens number) text).len text))) → Cut opens number text (cond b [] (piece_of (here opens number) text ∷ first_pieces n (after opens (piece_of (here opens number) text).kind (take (piece_of (here opens number) text).len text)) (is_number (piece_of (here opens number) text).kind) (drop (piece_of (here opens number) text).len text)))
  go_on n true e h rest = e
  go_on n false e h rest = (e, (piece_fits (here opens number) text, rest e))

found : (n : ℕ) (opens : Nesting) (number : Bool) (text : List ℕ) → 2 * length text + bit (is_some_open opens) < n → Cut opens number text (first_pieces n opens number text)
found zero opens number text h = absurd (omega arith)
found (suc n) opens number text h =
    go_on opens number text n (is_done opens text) refl h
    (λ e. let p = piece_of (here opens number) text in
    let s = smaller_step opens (after opens p.kind (take p.len text)) number text (drop p.len text) (take p.len text) (here opens number) p e refl (piece_fits (here opens number) text) refl (length-drop p.len text) in
    found n (after opens p.kind (take p.len text)) (is_number p.kind) (drop p.len text) (omega arith))

-- ---- the logical lines are the lines of the text, and no others are

cut_found : (text : List ℕ) → Cut none_open false text (pieces_of text)
cut_found text = found (2 * length text + 2) none_open false text (omega arith)

pub is_cut : (text : List ℕ) → IsCut text (logical_lines text)
unfolding logical_lines
is_cut text = (pieces_of (drop (mark_len text) text), (cut_found (drop (mark_len text) text), refl))

pub only_cut : (text : List ℕ) (lines : List LogicalLine) → IsCut text lines → lines ≡ logical_lines text
unfolding logical_lines
only_cut text lines c = c.1.1 ∙ ap (lines_of text) (unique none_open false (drop (mark_len text) text) c.0 (pieces_of (drop (mark_len text) text)) c.1.0 (cut_found (drop (mark_len text) text)))

pub cut_of : (text rest : List ℕ) (ps : List Piece) (lines : List LogicalLine) (start : ℕ) → start ≡ mark_len text → rest ≡ drop start text → Cut none_open false rest ps → lines ≡ mark [] (filter_map (line_of text) (groups start (placed start ps))) → IsCut text lines
unfolding lines_of
cut_of text rest ps lines start s r c l =
    (ps, (subst (λ (x : List ℕ). Cut none_open false x ps) (r ∙ ap (λ n. drop n text) s) c, l ∙ ap (λ n. mark [] (filter_map (line_of text) (groups n (placed n ps)))) s))
