-- The logical lines of a text: the one list of lines into which a text can be cut, and how it is found.
-- Python 3.12 language reference, 2 "Lexical analysis".
use Rattle.std.specs.Prelude.{◌≡◌, ℕ, suc, zero, ◌+◌, ◌*◌, Bool, false, List, [], ◌∷◌, length, take, drop, Option, Some, None, if◌then◌else◌}
use Rattle.py_tokens.specs.Fronts.{longer}
use Rattle.py_tokens.specs.Rows.{row_kind, row_at, fault_row}
use Rattle.py_tokens.specs.Opens.{here, after, is_number}
use Rattle.py_tokens.specs.Cut.{is_done, Cut}
use Rattle.py_tokens.specs.Lines.{mark_len, lines_of}
use Rattle.py_tokens.specs.declared.kinds.Kind.{Kind}
use Rattle.py_tokens.specs.declared.kinds.Kind.TheVariants.{Fault}
use Rattle.py_tokens.specs.declared.kinds.TokenFault.TheVariants.{BadCharacter}
use Rattle.py_tokens.specs.declared.kinds.Piece.{Piece}
use Rattle.py_tokens.specs.declared.rows.Here.{Here}
use Rattle.py_tokens.specs.declared.rows.Row.{Row}
use Rattle.py_tokens.specs.Nesting.{Nesting, none_open}
use Rattle.py_tokens.specs.declared.lines.LogicalLine.{LogicalLine}

-- these are the logical lines of the text: it can be cut into pieces of which they are the lines
abbrev pub IsCut : List ℕ → List LogicalLine → Type 0
IsCut text lines = (ps : List Piece) × (Cut none_open false (drop (mark_len text) text) ps × (lines ≡ lines_of text ps))

-- ---- the same, computed

-- the longest of the fronts of fewer than n characters that is of a kind
abbrev pub pick : (List ℕ → List ℕ → Option Kind) → List ℕ → ℕ → Option (ℕ × Kind)
pick table text zero = None
pick table text (suc n) = longer n (table (take n text) (drop n text)) (pick table text n)

abbrev pub longest_of : Row → List ℕ → Option (ℕ × Kind)
longest_of row text = pick (row_kind row) text (length text + 1)

-- the first that there is; a fault always is
abbrev pub the_piece : Option (ℕ × Kind) → Option (ℕ × Kind) → Piece
the_piece (Some r) fault = record { kind = r.1; len = r.0 }
the_piece None (Some r) = record { kind = r.1; len = r.0 }
the_piece None None = record { kind = Fault BadCharacter; len = 1 }

abbrev pub piece_of : Here → List ℕ → Piece
piece_of here text = the_piece (longest_of (row_at here text) text) (longest_of (fault_row here text) text)

-- the first n pieces
abbrev pub first_pieces : ℕ → Nesting → Bool → List ℕ → List Piece
first_pieces zero opens number text = []
first_pieces (suc n) opens number text =
    if is_done opens text then []
    else (let p = piece_of (here opens number) text in
    p ∷ first_pieces n (after opens p.kind (take p.len text)) (is_number p.kind) (drop p.len text))

-- no text has more than two pieces for each character, and one for its end
abbrev pub pieces_of : List ℕ → List Piece
pieces_of text = first_pieces (2 * length text + 2) none_open false text

unfoldable pub logical_lines : List ℕ → List LogicalLine
logical_lines text = lines_of text (pieces_of (drop (mark_len text) text))
