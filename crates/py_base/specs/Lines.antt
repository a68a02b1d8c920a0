-- The physical lines of a text, each with its line end. A line ends behind each LF, and behind each CR
-- that no LF follows, so that CR LF is one line end. The end of the text ends the last line, which has
-- no line end and may be empty. Python 3.12 language reference, 2.1.2, "Physical lines".
use Rattle.std.specs.Prelude.{◌≡◌, ℕ, Bool, false, cond, not, ◌&&◌, ◌||◌, ◌==◌, ◌≢◌, ◌⊎◌, List, [], ◌∷◌, ◌++◌, All}
use Rattle.std.specs.List.{concat}

-- whether the text begins with LF
abbrev pub begins_with_lf : List ℕ → Bool
begins_with_lf [] = false
begins_with_lf (c ∷ _) = c == 10

-- whether a line ends behind the character c, before the rest of the text
abbrev pub ends_line : ℕ → List ℕ → Bool
ends_line c rest = (c == 10) || ((c == 13) && not (begins_with_lf rest))

-- the lines with c before the first of them
abbrev pub with_character : ℕ → List (List ℕ) → List (List ℕ)
with_character c [] = (c ∷ []) ∷ []
with_character c (line ∷ more) = (c ∷ line) ∷ more

-- the physical lines of a text, given by its characters
unfoldable pub physical_lines : List ℕ → List (List ℕ)
physical_lines [] = [] ∷ []
physical_lines (c ∷ rest) = cond (ends_line c rest) ((c ∷ []) ∷ physical_lines rest) (with_character c (physical_lines rest))

-- neither LF nor CR
abbrev pub IsInLine : ℕ → Type 0
IsInLine c = (c ≢ 10) × (c ≢ 13)

-- no character of the line is LF or CR
abbrev pub HasNoLineEnd : List ℕ → Type 0
HasNoLineEnd line = All IsInLine line

-- one line end, before the next line: LF, CR LF, or a CR that no LF follows
abbrev pub IsLineEnd : List ℕ → List ℕ → Type 0
IsLineEnd end next = (end ≡ 10 ∷ []) ⊎ (end ≡ 13 ∷ 10 ∷ []) ⊎ ((end ≡ 13 ∷ []) × (begins_with_lf next ≡ false))

-- the line has exactly one line end, at its end
abbrev pub IsEnded : List ℕ → List ℕ → Type 0
IsEnded line next = (front : List ℕ) × (end : List ℕ) × (line ≡ front ++ end) × HasNoLineEnd front × IsLineEnd end next

-- the last line has no line end, each other one has exactly one, at its end
abbrev pub AreLines : List (List ℕ) → Type 0
AreLines [] = ⊥
AreLines (line ∷ []) = HasNoLineEnd line
AreLines (line ∷ next ∷ more) = IsEnded line next × AreLines (next ∷ more)

-- what makes a list the physical lines of a text: joined, they are the text
pub record ArePhysicalLines (text : List ℕ) (lines : List (List ℕ)) : Type 0 where
  pub joined : concat lines ≡ text
  pub ended : AreLines lines
