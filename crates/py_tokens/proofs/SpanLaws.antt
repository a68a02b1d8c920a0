-- The lines of a text, and their tokens, stand within it.
use Rattle.std.proofs.Common.{◌≤◌, ◌+◌, ℕ, Bool, true, false, not, List, [], ◌∷◌, ◌++◌, length, filter_map, find, sum_by, Option, Some, None, IfSome, All, cond, option_map, arith}
use Rattle.std.specs.List.{cons_option}
use Rattle.std.proofs.lemmas.List.Elements.{All-nil, All-cons, All-head, All-tail, All-append}
use Rattle.std.proofs.lemmas.List.Sums.{sum_by-cons}
use Rattle.py_tokens.specs.declared.kinds.Piece.{Piece}
use Rattle.py_tokens.specs.declared.kinds.TokenKind.{TokenKind}
use Rattle.py_tokens.specs.declared.lines.LogicalLine.{LogicalLine}
use Rattle.py_tokens.specs.declared.lines.Placed.{Placed}
use Rattle.py_tokens.specs.declared.lines.Token.{Token}
use Rattle.py_tokens.specs.Lines.{Group, IsWithin, placed, with_all, groups, is_gap, is_line_end, token_kind, token_of, token_in, end_of, line_from, line_of, mark}
use Rattle.py_tokens.specs.Spans.{IsSpanIn, IsLineIn}
use Rattle.py_tokens.proofs.LineLaws.{found_within}

abbrev IsTokenIn : ℕ → Token → Type 0
IsTokenIn count token = IsSpanIn count token.span

abbrev IsGroupIn : ℕ → Group → Type 0
IsGroupIn count g = All (IsWithin 0 count) g.pieces

kept : {Y : Type 0} (Q : Y → Type 0) (o : Option Y) (ys : List Y) → IfSome o Q → All Q ys → All Q (cons_option o ys)
kept Q None ys here behind = behind
kept Q (Some y) ys here behind = All-cons Q y ys here behind

-- what is found of each element has a property where the element has one
found_all : {X Y : Type 0} (P : X → Type 0) (Q : Y → Type 0) (h : X → Option Y) → ((x : X) → P x → IfSome (h x) Q) → (xs : List X) → All P xs → All Q (filter_map h xs)
found_all P Q h each [] all = All-nil Q
found_all P Q h each (x ∷ xs) all =
    kept Q (h x) (filter_map h xs) (each x (All-head P x xs all)) (found_all P Q h each xs (All-tail P x xs all))

-- ---- pieces

placed-in : (count at : ℕ) (ps : List Piece) → at + sum_by (λ (p : Piece). p.len) ps ≤ count → All (IsWithin 0 count) (placed at ps)
placed-in count at [] within = All-nil _
placed-in count at (p ∷ ps) within =
    let all = sum_by-cons (λ (q : Piece). q.len) p ps in
    All-cons (IsWithin 0 count) (record { kind = p.kind; from = at; to = at + p.len }) (placed (at + p.len) ps)
    (record { behind = omega arith; ordered = omega arith; inside = omega arith })
    (placed-in count (at + p.len) ps (omega arith))

with_all-in : (count start : ℕ) (xs : List Placed) (gs : List Group) → All (IsWithin 0 count) xs → All (IsGroupIn count) gs → All (IsGroupIn count) (with_all start xs gs)
with_all-in count start xs [] here behind = All-cons (IsGroupIn count) (record { start = start; pieces = xs }) [] here (All-nil _)
with_all-in count start xs (g ∷ gs) here behind =
    All-cons (IsGroupIn count) (record { start = start; pieces = xs ++ g.pieces }) gs
    (All-append (IsWithin 0 count) xs g.pieces here (All-head (IsGroupIn count) g gs behind))
    (All-tail (IsGroupIn count) g gs behind)

with_piece-in : (count start : ℕ) (ends : Bool) (x : Placed) (gs : List Group) → IsWithin 0 count x → All (IsGroupIn count) gs → All (IsGroupIn count) (cond ends (record { start = start; pieces = [] } ∷ gs) (with_all start (x ∷ []) gs))
with_piece-in count start true x gs here behind = All-cons (IsGroupIn count) (record { start = start; pieces = [] }) gs (All-nil _) behind
with_piece-in count start false x gs here behind = with_all-in count start (x ∷ []) gs (All-cons (IsWithin 0 count) x [] here (All-nil _)) behind

groups-in : (count start : ℕ) (xs : List Placed) → All (IsWithin 0 count) xs → All (IsGroupIn count) (groups start xs)
groups-in count start [] all = All-cons (IsGroupIn count) (record { start = start; pieces = [] }) [] (All-nil _) (All-nil _)
groups-in count start (x ∷ xs) all =
    with_piece-in count start (is_line_end x.kind) x (groups x.to xs) (All-head (IsWithin 0 count) x xs all)
    (groups-in count x.to xs (All-tail (IsWithin 0 count) x xs all))

-- ---- a line

token-in : (count : ℕ) (text : List ℕ) (x : Placed) (kind : Option TokenKind) → IsWithin 0 count x → IfSome (option_map (token_of text x) kind) (IsTokenIn count)
token-in count text x None within = tt
token-in count text x (Some k) within = (omega (arith, within.ordered, within.inside), within.inside)

end-in : (count : ℕ) (xs : List Placed) (at : ℕ) → All (IsWithin 0 count) xs → at ≤ count → end_of xs at ≤ count
end-in count [] at all within = within
end-in count (x ∷ xs) at all within = end-in count xs x.to (All-tail (IsWithin 0 count) x xs all) (All-head (IsWithin 0 count) x xs all).inside

line_from-in : (count : ℕ) (text : List ℕ) (g : Group) (first : Option Placed) → IsGroupIn count g → IfSome first (IsWithin 0 count) → IfSome (line_from text g first) (IsLineIn count)
line_from-in count text g None all within = tt
line_from-in count text g (Some first) all within =
    ((omega (arith, within.ordered, within.inside), end-in count g.pieces first.to all within.inside), found_all (IsWithin 0 count) (IsTokenIn count) (token_in text) (λ x. token-in count text x (token_kind x.kind)) g.pieces all)

line-in : (count : ℕ) (text : List ℕ) (g : Group) → IsGroupIn count g → IfSome (line_of text g) (IsLineIn count)
line-in count text g all = line_from-in count text g (find (λ x. not (is_gap x.kind)) g.pieces) all (found_within (IsWithin 0 count) (λ x. not (is_gap x.kind)) g.pieces all)

mark-in : (count : ℕ) (before : List ℕ) (lines : List LogicalLine) → All (IsLineIn count) lines → All (IsLineIn count) (mark before lines)
mark-in count before [] all = All-nil _
mark-in count before (line ∷ lines) all =
    All-cons (IsLineIn count) _ (mark (line.column ∷ before) lines) (All-head (IsLineIn count) line lines all)
    (mark-in count (line.column ∷ before) lines (All-tail (IsLineIn count) line lines all))

pub lines-in : (text : List ℕ) (start : ℕ) (ps : List Piece) → start + sum_by (λ (p : Piece). p.len) ps ≤ length text → All (IsLineIn (length text)) (mark [] (filter_map (line_of text) (groups start (placed start ps))))
lines-in text start ps within =
    mark-in (length text) [] (filter_map (line_of text) (groups start (placed start ps)))
    (found_all (IsGroupIn (length text)) (IsLineIn (length text)) (line_of text) (line-in (length text) text) (groups start (placed start ps))
    (groups-in (length text) start (placed start ps) (placed-in (length text) start ps within)))
