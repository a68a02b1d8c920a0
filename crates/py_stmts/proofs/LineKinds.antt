-- The kind of a tree of the grammar is that of a form, and none of a node that stands over lines.
use Rattle.std.proofs.Common.{◌≡◌, Bool, true, false, not, ◌&&◌, List, refl, ap, sym, ◌∙◌}
use Rattle.std.proofs.lemmas.Bool.{and_parts}
use Rattle.py_base.specs.declared.node.NodeKind.{NodeKind}
use Rattle.py_base.specs.declared.node.NodeKind.TheVariants as kinds
use Rattle.py_base.specs.Tree.{SyntaxTree, SyntaxTrees, node, kind_of}
use Rattle.py_tokens.specs.declared.lines.Token.{Token}
use Rattle.py_grammar.specs.declared.words.Form.{Form}
use Rattle.py_grammar.specs.declared.words.Terminal.TheVariants as terminals
use Rattle.py_grammar.specs.Meaning.{has_word, kind_for, tree_of_reading}
use Rattle.py_grammar.specs.Reading.{Reading, opened, joined}
use Rattle.py_grammar.proofs.Finite.{every, all_forms, each_form}
use Rattle.py_modules.specs.Modules.{is_block, is_compound, is_over_lines, IsLine}
use Rattle.py_stmts.specs.Laws.{is_fault}
use Rattle.py_stmts.specs.Line.{IsLineTree, by_keyword, plainly}

abbrev pub stands_alone : NodeKind → Bool
stands_alone k = not (is_block k) && not (is_compound k)

all_alone : (ws : List Token) → every (λ f. stands_alone (kind_for f ws)) all_forms ≡ true
all_alone ws = by (has_word terminals.From ws) (has_word terminals.Name ws) (has_word terminals.Star ws) refl refl refl
  where
    by : (a b c : Bool) → has_word terminals.From ws ≡ a → has_word terminals.Name ws ≡ b → has_word terminals.Star ws ≡ c → every (λ f. stands_alone (kind_for f ws)) all_forms ≡ true
    by true true true e f g = rw (e, f, g) refl
    by true true false e f g = rw (e, f, g) refl
    by true false true e f g = rw (e, f, g) refl
    by true false false e f g = rw (e, f, g) refl
    by false true true e f g = rw (e, f, g) refl
    by false true false e f g = rw (e, f, g) refl
    by false false true e f g = rw (e, f, g) refl
    by false false false e f g = rw (e, f, g) refl

alone : (f : Form) (ws : List Token) → stands_alone (kind_for f ws) ≡ true
alone f ws = each_form (λ g. stands_alone (kind_for g ws)) f (all_alone ws)

of_reading : (r : Reading) → stands_alone (kind_of (tree_of_reading r)) ≡ true
of_reading (opened f w ps) = alone f _
of_reading (joined f t w ps) = alone f _

negated : (b : Bool) → not b ≡ true → b ≡ false
negated false h = refl
negated true h = cc

not-over : (k : NodeKind) (ts : SyntaxTrees) → is_compound k ≡ false → is_over_lines k ts ≡ false
not-over kinds.Fault ts h = cc
not-over k ts h = h

line_of : (t : SyntaxTree) → stands_alone (kind_of t) ≡ true → IsLine t
line_of (node k at said ts) h = let (a, b) = and_parts (not (is_block k)) (not (is_compound k)) h in (negated (is_block k) a, not-over k ts (negated (is_compound k) b))

alone-line : (tokens : List Token) (t : SyntaxTree) → IsLineTree tokens t → stands_alone (kind_of t) ≡ true
alone-line tokens t (by_keyword h) = ap (λ (u : SyntaxTree). stands_alone (kind_of u)) (sym h.tree) ∙ of_reading h.reading
alone-line tokens t (plainly none h) = ap (λ (u : SyntaxTree). stands_alone (kind_of u)) (sym h.tree) ∙ of_reading h.reading

alone-no-fault : (k : NodeKind) → stands_alone k ≡ true → is_fault k ≡ false
alone-no-fault kinds.Fault h = cc
alone-no-fault k h = refl

-- a line that is read is no error line
pub no-fault-kind : (tokens : List Token) (t : SyntaxTree) → IsLineTree tokens t → is_fault (kind_of t) ≡ false
no-fault-kind tokens t h = alone-no-fault (kind_of t) (alone-line tokens t h)

pub IsLine-of : (tokens : List Token) (t : SyntaxTree) → IsLineTree tokens t → IsLine t
IsLine-of tokens t h = line_of t (alone-line tokens t h)
