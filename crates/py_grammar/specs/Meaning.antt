-- The tree of a reading: what is kept of the tokens. A node has the kind of its form, the span from its first to its last token, what
-- its words say, and its parts; a last comma, the colons of a slice, the dots of a source and some names are leaves of their own; brackets
-- and other marks leave nothing but their node (Python 3.12 language reference, sections 6 to 8; what is kept is this project's own).
use Rattle.std.specs.Prelude.{ℕ, ◌==◌, Bool, true, false, not, ◌&&◌, is_some, take, drop, fold, find, if◌then◌else◌, ℤ, Option, Some, None, List, [], ◌∷◌, ◌++◌, codes}
use Rattle.std.specs.List.{list_any}
use Rattle.py_base.specs.declared.span.Span.{Span}
use Rattle.py_base.specs.declared.node.NodeKind.{NodeKind}
use Rattle.py_base.specs.declared.node.NodeKind.TheVariants as kinds
use Rattle.py_base.specs.declared.node.Op.{Op}
use Rattle.py_base.specs.declared.node.Op.TheVariants as ops
use Rattle.py_base.specs.Tree.{Said, nothing, name, int, op, chars as of_chars, bytes as of_bytes, SyntaxTree, SyntaxTrees, node, no_parts, with_part, kind_of, span_of}
use Rattle.py_tokens.specs.declared.lines.Token.{Token}
use Rattle.py_tokens.specs.Ints.{int_of}
use Rattle.py_tokens.specs.declared.literals.StringValue.{StringValue}
use Rattle.py_tokens.specs.declared.literals.StringValue.TheVariants as values
use Rattle.py_tokens.specs.Literals.{append_known, string_value}
use Rattle.std.specs.Str.{chars}
use Rattle.py_grammar.specs.declared.words.Form.{Form}
use Rattle.py_grammar.specs.declared.words.Form.TheVariants as forms
use Rattle.py_grammar.specs.declared.words.Terminal.{Terminal}
use Rattle.py_grammar.specs.declared.words.Terminal.TheVariants as terminals
use Rattle.py_grammar.specs.Table.{number, plain}
use Rattle.py_grammar.specs.Terminal.{terminal, lookup, first_of}
use Rattle.py_grammar.specs.Reading.{Reading, opened, joined, Parts, no_more, word, part}

-- what stands side by side in a node: tokens and the trees of parts
pub data Piece : Type 0 where
  of_word : Token → Piece
  of_tree : SyntaxTree → Piece

abbrev pub words_of : List Piece → List Token
words_of [] = []
words_of (of_word w ∷ xs) = w ∷ words_of xs
words_of (of_tree t ∷ xs) = words_of xs

abbrev pub is_word : Terminal → Token → Bool
is_word k w = number (plain (terminal w)) == number k

-- whether one of the words is this terminal
abbrev pub has_word : Terminal → List Token → Bool
has_word k ws = is_some (find (is_word k) ws)

-- The kinds: that of the form, and some that hang on a further word.
abbrev pub kind_of_form : Form → NodeKind
kind_of_form forms.Entries = kinds.Entries
kind_of_form forms.Named = kinds.Named
kind_of_form forms.Lambda = kinds.Lambda
kind_of_form forms.Conditional = kinds.Conditional
kind_of_form forms.Or = kinds.Or
kind_of_form forms.And = kinds.And
kind_of_form forms.Not = kinds.Not
kind_of_form forms.Comparison = kinds.Comparison
kind_of_form forms.BitOr = kinds.Binary
kind_of_form forms.BitXor = kinds.Binary
kind_of_form forms.BitAnd = kinds.Binary
kind_of_form forms.Shift = kinds.Binary
kind_of_form forms.Sum = kinds.Binary
kind_of_form forms.Product = kinds.Binary
kind_of_form forms.Unary = kinds.Unary
kind_of_form forms.Power = kinds.Binary
kind_of_form forms.Await = kinds.Await
kind_of_form forms.Attribute = kinds.Attribute
kind_of_form forms.Call = kinds.Call
kind_of_form forms.Subscript = kinds.Subscript
kind_of_form forms.Name = kinds.Name
kind_of_form forms.TypeName = kinds.Name
kind_of_form forms.Underscore = kinds.Name
kind_of_form forms.Int = kinds.Int
kind_of_form forms.Float = kinds.Float
kind_of_form forms.Imaginary = kinds.Imaginary
kind_of_form forms.Strings = kinds.Strings
kind_of_form forms.BytesStrings = kinds.BytesStrings
kind_of_form forms.NoneValue = kinds.NoneValue
kind_of_form forms.TrueValue = kinds.TrueValue
kind_of_form forms.FalseValue = kinds.FalseValue
kind_of_form forms.Ellipsis = kinds.Ellipsis
kind_of_form forms.Round = kinds.Round
kind_of_form forms.Square = kinds.Square
kind_of_form forms.Curly = kinds.Curly
kind_of_form forms.Starred = kinds.Starred
kind_of_form forms.DoubleStarred = kinds.DoubleStarred
kind_of_form forms.StarArgument = kinds.Starred
kind_of_form forms.DoubleStarArgument = kinds.DoubleStarred
kind_of_form forms.Keyword = kinds.Keyword
kind_of_form forms.Item = kinds.Item
kind_of_form forms.ComprehensionFor = kinds.ComprehensionFor
kind_of_form forms.AsyncComprehensionFor = kinds.AsyncComprehensionFor
kind_of_form forms.ComprehensionIf = kinds.ComprehensionIf
kind_of_form forms.Targets = kinds.Targets
kind_of_form forms.IndexTuple = kinds.Entries
kind_of_form forms.Slice = kinds.Slice
kind_of_form forms.SliceFrom = kinds.Slice
kind_of_form forms.Link = kinds.Link
kind_of_form forms.Parameter = kinds.Parameter
kind_of_form forms.SlashParameter = kinds.Slash
kind_of_form forms.StarParameter = kinds.StarParameter
kind_of_form forms.DoubleStarParameter = kinds.DoubleStarParameter
kind_of_form forms.Yield = kinds.Yield
kind_of_form forms.Field = kinds.Field
kind_of_form forms.Format = kinds.Format
kind_of_form forms.Statements = kinds.Statements
kind_of_form forms.Assign = kinds.Assign
kind_of_form forms.AnnotatedAssign = kinds.AnnotatedAssign
kind_of_form forms.AugmentedAssign = kinds.AugmentedAssign
kind_of_form forms.Pass = kinds.Pass
kind_of_form forms.Break = kinds.Break
kind_of_form forms.Continue = kinds.Continue
kind_of_form forms.Return = kinds.Return
kind_of_form forms.Raise = kinds.Raise
kind_of_form forms.Global = kinds.Global
kind_of_form forms.Nonlocal = kinds.Nonlocal
kind_of_form forms.Del = kinds.Del
kind_of_form forms.Assert = kinds.Assert
kind_of_form forms.Import = kinds.Import
kind_of_form forms.ImportFrom = kinds.ImportFrom
kind_of_form forms.DottedName = kinds.DottedName
kind_of_form forms.RelativeSource = kinds.RelativeSource
kind_of_form forms.Alias = kinds.Alias
kind_of_form forms.FromAlias = kinds.Alias
kind_of_form forms.TypeAlias = kinds.TypeAlias
kind_of_form forms.TypeParameters = kinds.TypeParameters
kind_of_form forms.TypeParameter = kinds.TypeParameter
kind_of_form forms.StarTypeParameter = kinds.StarTypeParameter
kind_of_form forms.DoubleStarTypeParameter = kinds.DoubleStarTypeParameter
kind_of_form forms.Parameters = kinds.Parameters
kind_of_form forms.AnnotatedParameter = kinds.AnnotatedParameter
kind_of_form forms.DefStarParameter = kinds.StarParameter
kind_of_form forms.DefDoubleStarParameter = kinds.DoubleStarParameter
kind_of_form forms.Result = kinds.Result
kind_of_form forms.Arguments = kinds.Arguments
kind_of_form forms.Suite = kinds.Suite
kind_of_form forms.If = kinds.If
kind_of_form forms.Elif = kinds.Elif
kind_of_form forms.Else = kinds.Else
kind_of_form forms.While = kinds.While
kind_of_form forms.For = kinds.For
kind_of_form forms.Try = kinds.Try
kind_of_form forms.Except = kinds.Except
kind_of_form forms.Finally = kinds.Finally
kind_of_form forms.With = kinds.With
kind_of_form forms.BracketedWith = kinds.With
kind_of_form forms.WithItem = kinds.WithItem
kind_of_form forms.Def = kinds.Def
kind_of_form forms.Class = kinds.Class
kind_of_form forms.Match = kinds.Match
kind_of_form forms.Case = kinds.Case
kind_of_form forms.Async = kinds.Async
kind_of_form forms.BracketedAsync = kinds.Async
kind_of_form forms.Decorator = kinds.Decorator
kind_of_form forms.SignedNumber = kinds.Unary
kind_of_form forms.ComplexNumber = kinds.Binary
kind_of_form forms.PatternAttribute = kinds.Attribute
kind_of_form forms.PatternRound = kinds.Round
kind_of_form forms.PatternSquare = kinds.Square
kind_of_form forms.Patterns = kinds.Patterns
kind_of_form forms.StarPattern = kinds.StarPattern
kind_of_form forms.DoubleStarPattern = kinds.DoubleStarPattern
kind_of_form forms.MappingPattern = kinds.MappingPattern
kind_of_form forms.PatternItem = kinds.PatternItem
kind_of_form forms.ClassPattern = kinds.ClassPattern
kind_of_form forms.KeywordPattern = kinds.KeywordPattern
kind_of_form forms.OrPattern = kinds.OrPattern
kind_of_form forms.AsPattern = kinds.AsPattern

abbrev pub only_if : Bool → NodeKind → Option NodeKind
only_if true k = Some k
only_if false k = None

abbrev pub further_kind : Form → List Token → Option NodeKind
further_kind forms.Yield ws = only_if (has_word terminals.From ws) kinds.YieldFrom
further_kind forms.StarParameter ws = only_if (not (has_word terminals.Name ws)) kinds.BareStar
further_kind forms.DefStarParameter ws = only_if (not (has_word terminals.Name ws)) kinds.BareStar
further_kind forms.ImportFrom ws = only_if (has_word terminals.Star ws) kinds.ImportAll
further_kind forms.Except ws = only_if (has_word terminals.Star ws) kinds.ExceptStar
further_kind f ws = None

abbrev pub or_plain : Option NodeKind → NodeKind → NodeKind
or_plain (Some k) plainly = k
or_plain None plainly = plainly

abbrev pub kind_for : Form → List Token → NodeKind
kind_for f ws = or_plain (further_kind f ws) (kind_of_form f)

-- The span: from the first to the last of the tokens.
abbrev pub piece_span : Piece → Span
piece_span (of_word w) = w.span
piece_span (of_tree t) = span_of t

abbrev pub first_from : List Piece → ℕ
first_from [] = 0
first_from (x ∷ xs) = (piece_span x).from

abbrev pub last_to : List Piece → ℕ
last_to xs = fold (λ end x. (piece_span x).to) 0 xs

-- The word: a name, the value of an integer or of strings, or an operator.
abbrev pub named : Option Token → Said
named None = nothing
named (Some w) = name w.text

abbrev pub name_in : List Token → Said
name_in ws = named (find (is_word terminals.Name) ws)

-- the first of the words
abbrev pub first_word : List Token → Option Token
first_word ws = find (λ w. true) ws

abbrev pub valued : Option ℤ → Said
valued None = nothing
valued (Some n) = int n

abbrev pub value_of : Option Token → Said
value_of None = nothing
value_of (Some w) = valued (int_of w.text)

-- the value of a literal of characters, where it is known
abbrev pub text_value_of : Option StringValue → Option (List ℕ)
text_value_of (Some (values.Text cs)) = Some cs
text_value_of found = None

unfoldable pub text_in : Token → Option (List ℕ)
text_in w = text_value_of (string_value (chars w.text))

-- the value of a literal of bytes, where it is known
abbrev pub bytes_value_of : Option StringValue → Option (List ℕ)
bytes_value_of (Some (values.Bytes bs)) = Some bs
bytes_value_of found = None

unfoldable pub bytes_in : Token → Option (List ℕ)
bytes_in w = bytes_value_of (string_value (chars w.text))

-- what literals side by side are together, where each is known; an f-string's pieces never are
abbrev pub joined_by : (Token → Option (List ℕ)) → List Token → Option (List ℕ)
joined_by f [] = Some []
joined_by f (w ∷ ws) = append_known (f w) (joined_by f ws)

abbrev pub said_text : Option (List ℕ) → Said
said_text None = nothing
said_text (Some cs) = of_chars cs

abbrev pub said_bytes : Option (List ℕ) → Said
said_bytes None = nothing
said_bytes (Some bs) = of_bytes bs

abbrev pub arithmetic_ops : List (List ℕ × Op)
arithmetic_ops =
    (codes "+", ops.Plus) ∷ (codes "-", ops.Minus) ∷ (codes "*", ops.Star) ∷ (codes "/", ops.Slash)
    ∷ (codes "%", ops.Percent) ∷ (codes "@", ops.At) ∷ (codes "//", ops.DoubleSlash) ∷ (codes "**", ops.DoubleStar) ∷ []

abbrev pub bitwise_ops : List (List ℕ × Op)
bitwise_ops =
    (codes "&", ops.BitAnd) ∷ (codes "|", ops.BitOr) ∷ (codes "^", ops.BitXor) ∷ (codes "~", ops.Tilde)
    ∷ (codes "<<", ops.ShiftLeft) ∷ (codes ">>", ops.ShiftRight) ∷ []

abbrev pub comparison_ops : List (List ℕ × Op)
comparison_ops =
    (codes "<", ops.Less) ∷ (codes ">", ops.Greater) ∷ (codes "<=", ops.LessEqual) ∷ (codes ">=", ops.GreaterEqual)
    ∷ (codes "==", ops.Equal) ∷ (codes "!=", ops.NotEqual) ∷ []

abbrev pub augmented_ops : List (List ℕ × Op)
augmented_ops =
    (codes "+=", ops.Plus) ∷ (codes "-=", ops.Minus) ∷ (codes "*=", ops.Star) ∷ (codes "/=", ops.Slash) ∷ (codes "//=", ops.DoubleSlash)
    ∷ (codes "%=", ops.Percent) ∷ (codes "@=", ops.At) ∷ (codes "&=", ops.BitAnd) ∷ (codes "|=", ops.BitOr) ∷ (codes "^=", ops.BitXor)
    ∷ (codes ">>=", ops.ShiftRight) ∷ (codes "<<=", ops.ShiftLeft) ∷ (codes "**=", ops.DoubleStar) ∷ []

abbrev pub conversions : List (List ℕ × Op)
conversions = (codes "!r", ops.ToRepr) ∷ (codes "!s", ops.ToStr) ∷ (codes "!a", ops.ToAscii) ∷ []

abbrev pub operated : Option Op → Said
operated None = nothing
operated (Some o) = op o

abbrev pub op_of_text : List ℕ → Option Op
op_of_text text = first_of (lookup arithmetic_ops text) (first_of (lookup comparison_ops text) (first_of (lookup bitwise_ops text) (lookup augmented_ops text)))

abbrev pub spelled_op : Option Token → Option Op
spelled_op None = None
spelled_op (Some w) = op_of_text w.text

-- the operator that an operator's words spell together
abbrev pub op_of_words : List Token → Option Op
op_of_words ws =
    if has_word terminals.Is ws then (if has_word terminals.Not ws then Some ops.IsNot else Some ops.Is)
    else (if has_word terminals.Not ws then Some ops.NotIn else (if has_word terminals.In ws then Some ops.In else spelled_op (first_word ws)))

abbrev pub converted : Option Token → Said
converted None = nothing
converted (Some w) = operated (lookup conversions w.text)

abbrev pub conversion_in : List Token → Said
conversion_in ws = converted (find (is_word terminals.FConversion) ws)

-- the forms whose word is a name
abbrev pub takes_name : Form → Bool
takes_name forms.Name = true
takes_name forms.TypeName = true
takes_name forms.Underscore = true
takes_name forms.Attribute = true
takes_name forms.PatternAttribute = true
takes_name _ = false

-- the forms whose word is an operator
abbrev pub takes_op : Form → Bool
takes_op forms.Comparison = true
takes_op forms.Link = true
takes_op forms.BitOr = true
takes_op forms.BitXor = true
takes_op forms.BitAnd = true
takes_op forms.Shift = true
takes_op forms.Sum = true
takes_op forms.Product = true
takes_op forms.Unary = true
takes_op forms.Power = true
takes_op forms.AugmentedAssign = true
takes_op forms.SignedNumber = true
takes_op forms.ComplexNumber = true
takes_op _ = false

abbrev pub said_plainly : Form → List Token → Said
said_plainly forms.Int ws = value_of (first_word ws)
said_plainly forms.Field ws = conversion_in ws
said_plainly forms.Strings ws = said_text (joined_by text_in ws)
said_plainly forms.BytesStrings ws = said_bytes (joined_by bytes_in ws)
said_plainly f ws = if takes_op f then operated (op_of_words ws) else nothing

-- WHAT THE WORD OF A NODE SAYS
abbrev pub said_for : Form → List Token → Said
said_for f ws = if takes_name f then name_in ws else said_plainly f ws

-- The parts: those of the reading, and leaves for some words.
abbrev pub is_slice : Form → Bool
is_slice forms.Slice = true
is_slice forms.SliceFrom = true
is_slice _ = false

abbrev pub is_relative : Form → Bool
is_relative forms.RelativeSource = true
is_relative _ = false

abbrev pub is_import : Form → Bool
is_import forms.ImportFrom = true
is_import _ = false

-- the forms of which a word is a name on its own
abbrev pub holds_name : Form → Bool
holds_name forms.StarParameter = true
holds_name forms.DefStarParameter = true
holds_name forms.DefDoubleStarParameter = true
holds_name forms.DottedName = true
holds_name forms.TypeAlias = true
holds_name _ = false

-- the leaf that a word leaves: a comma before no part, a colon of a slice, a dot before a source, and a name
abbrev pub mark_for : Form → Terminal → Bool → Option NodeKind
mark_for f terminals.Comma b = only_if (not b && not (is_import f)) kinds.LastComma
mark_for f terminals.Colon b = only_if (is_slice f) kinds.Colon
mark_for f terminals.Dot b = only_if (is_relative f) kinds.Dot
mark_for f terminals.Ellipsis b = only_if (is_relative f) kinds.Ellipsis
mark_for f terminals.Name b = only_if (holds_name f) kinds.Name
mark_for f _ b = None

abbrev pub is_tree_next : List Piece → Bool
is_tree_next [] = false
is_tree_next (of_word w ∷ xs) = false
is_tree_next (of_tree t ∷ xs) = true

abbrev pub is_name : NodeKind → Bool
is_name kinds.Name = true
is_name _ = false

-- what a leaf says: a name its text
abbrev pub said_leaf : NodeKind → Token → Said
said_leaf k w = if is_name k then name w.text else nothing

abbrev pub leaf_of : NodeKind → Token → SyntaxTree
leaf_of k w = node k w.span (said_leaf k w) no_parts

abbrev pub marked : Option NodeKind → Token → List SyntaxTree
marked None w = []
marked (Some k) w = leaf_of k w ∷ []

-- what is kept of a piece before another one
abbrev pub kept_one : Form → Piece → Bool → List SyntaxTree
kept_one f (of_word w) b = marked (mark_for f (plain (terminal w)) b) w
kept_one f (of_tree t) b = t ∷ []

abbrev pub kept : Form → List Piece → List SyntaxTree
kept f [] = []
kept f (x ∷ xs) = kept_one f x (is_tree_next xs) ++ kept f xs

abbrev pub listed : List SyntaxTree → SyntaxTrees
listed [] = no_parts
listed (t ∷ ts) = with_part t (listed ts)

-- the node of a form over its tokens and the trees of its parts, as they stand
abbrev pub one_node : Form → List Piece → SyntaxTree
one_node f xs = node (kind_for f (words_of xs)) (record { from = first_from xs; to = last_to xs }) (said_for f (words_of xs)) (listed (kept f xs))

-- A comprehension alone among arguments is a tree of its own, over what stands in the brackets, these included (6.3.4 and 6.2.8).
abbrev pub has_arguments : Form → Bool
has_arguments forms.Call = true
has_arguments forms.Arguments = true
has_arguments _ = false

-- how many pieces stand before the brackets
abbrev pub called : Form → ℕ
called forms.Call = 1
called _ = 0

abbrev pub is_clause : NodeKind → Bool
is_clause kinds.ComprehensionFor = true
is_clause kinds.AsyncComprehensionFor = true
is_clause _ = false

abbrev pub is_clause_piece : Piece → Bool
is_clause_piece (of_word w) = false
is_clause_piece (of_tree t) = is_clause (kind_of t)

abbrev pub is_comprehension : Form → List Piece → Bool
is_comprehension f xs = has_arguments f && list_any is_clause_piece xs

abbrev pub bracketed : Form → List Piece → List Piece
bracketed f xs = take (called f) xs ++ of_tree (one_node forms.Round (drop (called f) xs)) ∷ []

-- the node of a form over its tokens and the trees of its parts
abbrev pub assembled : Form → List Piece → SyntaxTree
assembled f xs = one_node f (if is_comprehension f xs then bracketed f xs else xs)

-- THE TREE OF A READING
abbrev mutual
  pub tree_of_reading : Reading → SyntaxTree
  tree_of_reading (opened f w ps) = assembled f (of_word w ∷ pieces ps)
  tree_of_reading (joined f t w ps) = assembled f (of_tree (tree_of_reading t) ∷ of_word w ∷ pieces ps)

  pub pieces : Parts → List Piece
  pieces no_more = []
  pieces (word w ps) = of_word w ∷ pieces ps
  pieces (part t ps) = of_tree (tree_of_reading t) ∷ pieces ps
