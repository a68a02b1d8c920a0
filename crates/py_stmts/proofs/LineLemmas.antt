-- A line has one tree, and each tree of a line is the one that is read.
use Rattle.std.proofs.Common.{◌≡◌, ℕ, ◌<◌, List, Option, Some, None}
use Rattle.std.specs.Prelude.{IfSome}
use Rattle.py_base.specs.declared.ids.NodeId.{NodeId}
use Rattle.py_base.specs.Tree.{SyntaxTree}
use Rattle.py_tokens.specs.declared.lines.Token.{Token}
use Rattle.py_grammar.specs.declared.words.Need.{Need}
use Rattle.py_grammar.specs.declared.words.Need.TheVariants as needs
use Rattle.py_grammar.specs.Levelled.{IsTreeOf}
use Rattle.py_stmts.specs.Line.{HasNoKeywordTree, IsLineTree, by_keyword, plainly}

pub one_line : ((tokens : List Token) (need : Need) (t u : SyntaxTree) → IsTreeOf tokens need t → IsTreeOf tokens need u → t ≡ u) → (tokens : List Token) (t u : SyntaxTree) → IsLineTree tokens t → IsLineTree tokens u → t ≡ u
one_line one tokens t u (by_keyword g) (by_keyword h) = one tokens needs.KeywordLine t u g h
one_line one tokens t u (by_keyword g) (plainly never h) = absurd (never t g)
one_line one tokens t u (plainly never g) (by_keyword h) = absurd (never u h)
one_line one tokens t u (plainly never g) (plainly other h) = one tokens needs.Line t u g h

-- where there is a keyword's tree, the trees of the line are those
pub by_keyword-only : (tokens : List Token) (P : SyntaxTree → Type 0) (found : SyntaxTree) → IsTreeOf tokens needs.KeywordLine found → ((t : SyntaxTree) → IsTreeOf tokens needs.KeywordLine t → P t) → (t : SyntaxTree) → IsLineTree tokens t → P t
by_keyword-only tokens P found h only t (by_keyword g) = only t g
by_keyword-only tokens P found h only t (plainly never g) = absurd (never found h)

pub plainly-found : (tokens : List Token) (n : ℕ) (T : NodeId → SyntaxTree) (o : Option NodeId) → HasNoKeywordTree tokens → IfSome o (λ id. (id.0 < n) × IsTreeOf tokens needs.Line (T id)) → IfSome o (λ id. (id.0 < n) × IsLineTree tokens (T id))
plainly-found tokens n T None none h = h
plainly-found tokens n T (Some id) none h = (h.0, plainly none h.1)
