-- The tree of a line: what its tokens spell with a soft keyword as a keyword, or with round brackets behind `with` that hold its items;
-- where there is no such tree, what they spell as any other line (Python 3.12 language reference, 2.3.2 for soft keywords, 8.5 and 8.6
-- for the two readings; the forms of a line are those of sections 7 and 8).
use Rattle.std.specs.Prelude.{List}
use Rattle.py_base.specs.Tree.{SyntaxTree}
use Rattle.py_tokens.specs.declared.lines.Token.{Token}
use Rattle.py_grammar.specs.declared.words.Need.TheVariants as needs
use Rattle.py_grammar.specs.Levelled.{IsTreeOf}

-- the tokens are no `match` or `case` line, and no `with` whose round brackets close directly before the colon
abbrev pub HasNoKeywordTree : List Token → Type 0
HasNoKeywordTree tokens = (t : SyntaxTree) → IsTreeOf tokens needs.KeywordLine t → ⊥

-- THE TREE OF A LINE
pub data IsLineTree (tokens : List Token) (t : SyntaxTree) : Type 0 where
  by_keyword : IsTreeOf tokens needs.KeywordLine t → IsLineTree tokens t
  plainly : HasNoKeywordTree tokens → IsTreeOf tokens needs.Line t → IsLineTree tokens t
