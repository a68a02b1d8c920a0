-- The tree of tokens: they spell it from left to right, each part has the level that its place asks, it is at most 256 high, and it
-- is proper (Python 3.12 language reference, section 6; the limit is this project's own).
use Rattle.std.specs.Prelude.{◌≡◌, ◌≤◌, IsTrue, List}
use Rattle.py_base.specs.Tree.{SyntaxTree, height}
use Rattle.py_tokens.specs.declared.lines.Token.{Token}
use Rattle.py_grammar.specs.declared.words.Need.{Need}
use Rattle.py_grammar.specs.Reading.{Reading, IsWellFormed, Meets, spell}
use Rattle.py_grammar.specs.Meaning.{tree_of_reading}
use Rattle.py_grammar.specs.Proper.{is_proper}

pub record IsTreeOf (tokens : List Token) (need : Need) (t : SyntaxTree) : Type 0 where
  pub reading : Reading
  pub spelled : spell reading ≡ tokens
  pub formed : IsWellFormed reading
  pub met : Meets need reading
  pub tree : tree_of_reading reading ≡ t
  pub low : height t ≤ 256
  pub proper : IsTrue (is_proper t)
