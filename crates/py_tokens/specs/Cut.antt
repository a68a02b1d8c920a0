-- A text, cut into pieces: tokens and gaps, each the longest that may stand at its place, and faults.
-- Python 3.12 language reference, 2 "Lexical analysis".
use Rattle.std.specs.Prelude.{◌≡◌, ℕ, Bool, true, false, not, ◌&&◌, List, [], ◌∷◌, ◌++◌, take, drop}
use Rattle.py_tokens.specs.Rows.{not_empty, Fits}
use Rattle.py_tokens.specs.Opens.{is_some_open, here, is_number, after}
use Rattle.py_tokens.specs.declared.kinds.Piece.{Piece}
use Rattle.py_tokens.specs.Nesting.{Nesting}

-- the text is at its end, and nothing is open
abbrev pub is_done : Nesting → List ℕ → Bool
is_done opens text = not (is_some_open opens) && not (not_empty text)

-- the text is these pieces, where these things are open before it and a number may end there. What is still open at the
-- end of the text is a fault, a piece without characters
abbrev pub Cut : Nesting → Bool → List ℕ → List Piece → Type 0
Cut opens after_number text [] = is_done opens text ≡ true
Cut opens after_number text (p ∷ ps) =
    (is_done opens text ≡ false) × (Fits (here opens after_number) text p × Cut (after opens p.kind (take p.len text)) (is_number p.kind) (drop p.len text) ps)

-- the texts of the pieces, one after another
abbrev pub flat_texts : List Piece → List ℕ → List ℕ
flat_texts [] text = []
flat_texts (p ∷ ps) text = take p.len text ++ flat_texts ps (drop p.len text)
