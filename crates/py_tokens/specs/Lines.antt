-- The logical lines of a cut text: its pieces, parted at the line ends that are no inner ones. A line has a token or a
-- fault; its span runs from the first of them to the end of its last physical line.
-- Python 3.12 language reference, 2.1.1 "Logical lines", 2.1.5 to 2.1.8.
use Rattle.std.specs.Prelude.{ℕ, ◌+◌, ◌≤◌, Bool, true, false, not, ◌&&◌, is_none, List, [], ◌∷◌, ◌++◌, Option, Some, None, if◌then◌else◌, ◌==◌, filter_map, find, option_map, slice_range, slice_index, encode_utf8_all}
use Rattle.std.specs.List.{list_any}
use Rattle.py_tokens.specs.Ints.{int_of}
use Rattle.py_tokens.specs.Width.{width}
use Rattle.py_tokens.specs.Blocks.{block_fault}
use Rattle.py_tokens.specs.declared.kinds.Kind.{Kind}
use Rattle.py_tokens.specs.declared.kinds.Kind.TheVariants as kind
use Rattle.py_tokens.specs.declared.kinds.Gap.TheVariants.{LineEnd}
use Rattle.py_tokens.specs.declared.kinds.TokenKind.{TokenKind}
use Rattle.py_tokens.specs.declared.kinds.TokenKind.TheVariants.{Int}
use Rattle.py_tokens.specs.declared.kinds.TokenFault.{TokenFault}
use Rattle.py_tokens.specs.declared.kinds.TokenFault.TheVariants.{WideLiteral}
use Rattle.py_tokens.specs.declared.kinds.Piece.{Piece}
use Rattle.py_tokens.specs.declared.lines.Placed.{Placed}
use Rattle.py_tokens.specs.declared.lines.Token.{Token}
use Rattle.py_tokens.specs.declared.lines.LogicalLine.{LogicalLine}

-- ---- pieces at their places, and their lines

-- the pieces with their places, from this one on
abbrev pub placed : ℕ → List Piece → List Placed
placed at [] = []
placed at (p ∷ ps) = record { kind = p.kind; from = at; to = at + p.len } ∷ placed (at + p.len) ps

abbrev pub is_gap : Kind → Bool
is_gap (kind.Gap gap) = true
is_gap k = false

abbrev pub is_line_end : Kind → Bool
is_line_end (kind.Gap LineEnd) = true
is_line_end k = false

-- the pieces of a line, and where it begins
pub record Group : Type 0 where
  pub start : ℕ
  pub pieces : List Placed

-- the first group begins there, with these pieces
abbrev pub with_all : ℕ → List Placed → List Group → List Group
with_all start xs [] = record { start = start; pieces = xs } ∷ []
with_all start xs (g ∷ gs) = record { start = start; pieces = xs ++ g.pieces } ∷ gs

-- a line end ends a group
abbrev pub with_piece : ℕ → Placed → List Group → List Group
with_piece start x gs = if is_line_end x.kind then record { start = start; pieces = [] } ∷ gs else with_all start (x ∷ []) gs

abbrev pub groups : ℕ → List Placed → List Group
groups start [] = record { start = start; pieces = [] } ∷ []
groups start (x ∷ xs) = with_piece start x (groups x.to xs)

-- ---- a line

-- the piece stands in the text, behind this place
pub record IsWithin (start n : ℕ) (x : Placed) : Type 0 where
  pub behind : start ≤ x.from
  pub ordered : x.from ≤ x.to
  pub inside : x.to ≤ n

abbrev pub token_of : List ℕ → Placed → TokenKind → Token
token_of text x k = record { kind = k; span = record { from = x.from; to = x.to }; text = encode_utf8_all (slice_range text x.from x.to) }

abbrev pub token_kind : Kind → Option TokenKind
token_kind (kind.Token k) = Some k
token_kind k = None

abbrev pub token_in : List ℕ → Placed → Option Token
token_in text x = option_map (token_of text x) (token_kind x.kind)

-- the fault that a piece is
abbrev pub fault_kind : Kind → Option TokenFault
fault_kind (kind.Fault fault) = Some fault
fault_kind k = None

abbrev pub or_else : {X : Type 0} → Option X → Option X → Option X
or_else None y = y
or_else (Some x) y = Some x

abbrev pub first_fault : List Placed → Option TokenFault
first_fault [] = None
first_fault (x ∷ xs) = or_else (fault_kind x.kind) (first_fault xs)

abbrev pub is_int_token : TokenKind → Bool
is_int_token Int = true
is_int_token k = false

-- an integer literal whose value is not known
abbrev pub is_wide : Token → Bool
is_wide token = is_int_token token.kind && is_none (int_of token.text)

-- a wide literal comes before a fault that ends the tokens
abbrev pub own_fault : List Token → Option TokenFault → Option TokenFault
own_fault tokens fault = if list_any is_wide tokens then Some WideLiteral else fault

-- where the last piece ends
abbrev pub end_of : List Placed → ℕ → ℕ
end_of [] at = at
end_of (x ∷ xs) at = end_of xs x.to

abbrev pub line_from : List ℕ → Group → Option Placed → Option LogicalLine
line_from text g None = None
line_from text g (Some first) = Some (record {
  tokens = filter_map (token_in text) g.pieces;
  span = record { from = first.from; to = end_of g.pieces first.to };
  column = width 0 (slice_range text g.start first.from);
  fault = own_fault (filter_map (token_in text) g.pieces) (first_fault g.pieces);
})

abbrev pub line_of : List ℕ → Group → Option LogicalLine
line_of text g = line_from text g (find (λ x. not (is_gap x.kind)) g.pieces)

-- ---- the lines in their blocks

-- the fault of a line in its block stands where the line begins, so it comes first, whatever begins there
abbrev pub blamed : LogicalLine → Option TokenFault → LogicalLine
blamed line block = record { tokens = line.tokens; span = line.span; column = line.column; fault = or_else block line.fault }

-- the lines with their faults, behind lines with these columns, the last first
abbrev pub mark : List ℕ → List LogicalLine → List LogicalLine
mark before [] = []
mark before (line ∷ lines) = blamed line (block_fault before line.column) ∷ mark (line.column ∷ before) lines

-- a byte order mark at the front of the text is a blank
abbrev pub mark_len : List ℕ → ℕ
mark_len text = if slice_index text 0 == 65279 then 1 else 0

-- the lines of a text that is cut into these pieces behind its byte order mark
unfoldable pub lines_of : List ℕ → List Piece → List LogicalLine
lines_of text ps = mark [] (filter_map (line_of text) (groups (mark_len text) (placed (mark_len text) ps)))
