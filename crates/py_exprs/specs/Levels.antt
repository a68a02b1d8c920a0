-- What a level asks: a place marked 0 takes entries by commas and forms from level 2 on, any other place its own level and higher ones
-- (Python 3.12 language reference, 6.17, the table of precedence; the numbers of the levels are this project's own).
use Rattle.std.specs.Prelude.{ℕ, List, [], ◌∷◌, slice_index_or}
use Rattle.py_grammar.specs.declared.words.Need.{Need}
use Rattle.py_grammar.specs.declared.words.Need.TheVariants as needs

-- the needs of the levels, from 0 on
abbrev pub level_needs : List Need
level_needs =
    needs.Expressions ∷ needs.Named ∷ needs.Expression ∷ needs.Disjunction ∷ needs.Conjunction ∷ needs.Inversion ∷ needs.Comparison
    ∷ needs.BitOr ∷ needs.BitXor ∷ needs.BitAnd ∷ needs.Shift ∷ needs.Sum ∷ needs.Term ∷ needs.Factor ∷ needs.Power ∷ needs.Await
    ∷ needs.Primary ∷ needs.Atom ∷ []

-- what a place of a level asks; no form has a level above 17
abbrev pub need_at : ℕ → Need
need_at level = slice_index_or level_needs level needs.Nothing
