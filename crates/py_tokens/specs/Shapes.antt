-- Shapes of texts, as a grammar writes them: a character, one shape behind another, a choice, a repetition. A text is of a shape where
-- each of its characters may stand where it does, and nothing has to come behind the last.
-- Python 3.12 language reference, 1.2 "Notation".
use Rattle.std.specs.Prelude.{ℕ, Bool, true, false, ◌&&◌, ◌||◌, List, [], ◌∷◌, if◌then◌else◌, ◌==◌}
use Rattle.std.specs.List.{list_any}

-- no text; the empty text; one of these characters; one behind the other; one of both; as many as there are, one behind the other
pub data Shape : Type 0 where
  Nothing : Shape
  Empty : Shape
  One : List ℕ → Shape
  Then : Shape → Shape → Shape
  Either : Shape → Shape → Shape
  Many : Shape → Shape

abbrev pub behind : Shape → Shape → Shape
behind Nothing b = Nothing
behind Empty b = b
behind a b = Then a b

abbrev pub choice : Shape → Shape → Shape
choice Nothing b = b
choice a Nothing = a
choice a b = Either a b

-- the empty text is of the shape
abbrev pub may_end : Shape → Bool
may_end Nothing = false
may_end Empty = true
may_end (One cs) = false
may_end (Then a b) = may_end a && may_end b
may_end (Either a b) = may_end a || may_end b
may_end (Many a) = true

-- the shape of what may come behind this character
abbrev pub behind_char : Shape → ℕ → Shape
behind_char Nothing c = Nothing
behind_char Empty c = Nothing
behind_char (One cs) c = if list_any (λ d. d == c) cs then Empty else Nothing
behind_char (Then a b) c = if may_end a then choice (behind (behind_char a c) b) (behind_char b c) else behind (behind_char a c) b
behind_char (Either a b) c = choice (behind_char a c) (behind_char b c)
behind_char (Many a) c = behind (behind_char a c) (Many a)

abbrev pub is_of : Shape → List ℕ → Bool
is_of shape [] = may_end shape
is_of shape (c ∷ cs) = is_of (behind_char shape c) cs
