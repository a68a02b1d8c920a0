-- What each expression is, whatever stands around it (Python 3.12 language reference, 6.2 to 6.15; 2.4 for literals).
use Rattle.std.specs.Prelude.{ℕ, zero, suc, ◌+◌, ◌*◌, ℤ, pos, negsuc, true, false, List, [], ◌∷◌, Option, None, Some, slice_get, if◌then◌else◌}
use Rattle.std.specs.Option.{option_and_then}
use Rattle.py_base.specs.declared.node.Op.{Op}
use Rattle.py_base.specs.declared.node.Op.TheVariants as ops
use Rattle.py_base.specs.declared.node.Word.{Word}
use Rattle.py_base.specs.declared.node.Word.TheVariants as words
use Rattle.py_base.specs.declared.ids.NodeId.{NodeId}
use Rattle.py_base.specs.declared.node.Node.{Node}
use Rattle.py_base.specs.declared.node.NodeKind.{NodeKind}
use Rattle.py_base.specs.declared.node.NodeKind.TheVariants as kinds
use Rattle.py_base.specs.Nodes.{kind_at, parts_at, word_at}
use Rattle.node_shapes.specs.Parts.{last_or, head}
use Rattle.node_shapes.specs.Entries.{is_comprehension}
use Rattle.node_shapes.specs.declared.expressions.Expression.{Expression}
use Rattle.node_shapes.specs.declared.expressions.Expression.TheVariants as form
use Rattle.node_shapes.specs.declared.expressions.Literal.TheVariants as literal
use Rattle.node_shapes.specs.declared.expressions.Container.{Container}
use Rattle.node_shapes.specs.declared.expressions.Container.TheVariants as containers

-- LITERALS, by their words: a value, or the form alone where the tree knows none
abbrev pub int_form : Word → Expression
int_form (words.Int z) = form.Literal (literal.Int z)
int_form word = form.NoExpression

abbrev pub text_form : Word → Expression
text_form (words.Chars text) = form.Literal literal.Str
text_form word = form.Literal literal.UnknownStr

abbrev pub bytes_form : Word → Expression
bytes_form (words.Bytes bytes) = form.Literal literal.Bytes
bytes_form word = form.Literal literal.UnknownBytes

-- `-` directly before an integer is a literal; no integer of a text is below zero.
abbrev pub negated : ℤ → ℤ
negated (pos zero) = pos zero
negated (pos (suc n)) = negsuc n
negated (negsuc n) = negsuc n

abbrev pub negative_or : NodeKind → Word → Expression → Expression
negative_or kinds.Int (words.Int (pos n)) other = form.Literal (literal.Int (negated (pos n)))
negative_or kind word other = other

abbrev pub unary_form : List Node → Word → List NodeId → Expression
unary_form nodes (words.Op ops.Minus) (e ∷ []) = negative_or (kind_at nodes e) (word_at nodes e) (form.Unary ops.Minus e)
unary_form nodes (words.Op op) (e ∷ []) = form.Unary op e
unary_form nodes word parts = form.NoExpression

-- ENTRIES IN BRACKETS: one expression without a comma is a group, an element and clauses a comprehension, all else a display.
abbrev pub brackets_form : Container → Container → List Node → List NodeId → Expression
brackets_form comprehended displayed nodes [] = form.Display displayed
brackets_form comprehended displayed nodes (e ∷ more) =
    if is_comprehension nodes (e ∷ more) then form.Comprehension comprehended e else form.Display displayed

abbrev pub round_form : List Node → List NodeId → Expression
round_form nodes (e ∷ []) = form.Group e
round_form nodes parts = brackets_form containers.Generator containers.Tuple nodes parts

-- curly brackets are a dict where they are empty or begin with an entry of one
abbrev pub curly : List Node → List NodeId → Container
curly nodes [] = containers.Dict
curly nodes (p ∷ more) = elim (kind_at nodes p) as (λ _. Container) [ kinds.Item ↦ containers.Dict | kinds.DoubleStarred ↦ containers.Dict | _ ↦ containers.Set ]

abbrev pub binary_form : Word → List NodeId → Expression
binary_form (words.Op op) (left ∷ right ∷ []) = form.Binary op left right
binary_form word parts = form.NoExpression

abbrev pub attribute_form : Word → List NodeId → Expression
attribute_form (words.Name m) (e ∷ []) = form.Attribute e m
attribute_form word parts = form.NoExpression

abbrev pub name_form : Word → Expression
name_form (words.Name m) = form.Name m
name_form word = form.NoExpression

abbrev pub one : (NodeId → Expression) → List NodeId → Expression
one f (p ∷ []) = f p
one f parts = form.NoExpression

abbrev pub two : (NodeId → NodeId → Expression) → List NodeId → Expression
two f (p ∷ q ∷ []) = f p q
two f parts = form.NoExpression

abbrev pub conditional_form : List NodeId → Expression
conditional_form (value ∷ test ∷ other ∷ []) = form.Conditional (record { value = value; test = test; other = other })
conditional_form parts = form.NoExpression

abbrev pub first_form : (NodeId → Expression) → List NodeId → Expression
first_form f (p ∷ more) = f p
first_form f [] = form.NoExpression

abbrev pub lambda_form : List NodeId → Expression
lambda_form (p ∷ more) = form.Lambda (last_or p more)
lambda_form [] = form.NoExpression

-- by kind, word and parts
abbrev pub expression_by : List Node → NodeKind → Word → List NodeId → Expression
expression_by nodes kinds.Name word parts = name_form word
expression_by nodes kinds.Int word parts = int_form word
expression_by nodes kinds.Float word parts = form.Literal literal.Float
expression_by nodes kinds.Imaginary word parts = form.Literal literal.Imaginary
expression_by nodes kinds.Strings word parts = text_form word
expression_by nodes kinds.BytesStrings word parts = bytes_form word
expression_by nodes kinds.NoneValue word parts = form.Literal literal.None
expression_by nodes kinds.TrueValue word parts = form.Literal (literal.Bool true)
expression_by nodes kinds.FalseValue word parts = form.Literal (literal.Bool false)
expression_by nodes kinds.Ellipsis word parts = form.Literal literal.Ellipsis
expression_by nodes kinds.Round word parts = round_form nodes parts
expression_by nodes kinds.Square word parts = brackets_form containers.List containers.List nodes parts
expression_by nodes kinds.Curly word parts = let c = curly nodes parts in brackets_form c c nodes parts
expression_by nodes kinds.Entries word parts = form.Display containers.Tuple
expression_by nodes kinds.Attribute word parts = attribute_form word parts
expression_by nodes kinds.Call word parts = first_form form.Call parts
expression_by nodes kinds.Subscript word parts = two form.Subscript parts
expression_by nodes kinds.Await word parts = one form.Await parts
expression_by nodes kinds.Unary word parts = unary_form nodes word parts
expression_by nodes kinds.Binary word parts = binary_form word parts
expression_by nodes kinds.Comparison word parts = first_form form.Comparison parts
expression_by nodes kinds.Not word parts = one form.Not parts
expression_by nodes kinds.And word parts = two form.And parts
expression_by nodes kinds.Or word parts = two form.Or parts
expression_by nodes kinds.Conditional word parts = conditional_form parts
expression_by nodes kinds.Lambda word parts = lambda_form parts
expression_by nodes kinds.Named word parts = two form.Named parts
expression_by nodes kinds.Yield word parts = form.Yield (head parts)
expression_by nodes kinds.YieldFrom word parts = one form.YieldFrom parts
expression_by nodes kind word parts = form.NoExpression

-- WHAT AN EXPRESSION IS
abbrev pub expression : List Node → NodeId → Expression
expression nodes n = expression_by nodes (kind_at nodes n) (word_at nodes n) (parts_at nodes n)

-- the operator of a comparison in a chain: the first is the word of the chain, the others those of the links before
abbrev pub operator_in : Word → Option Op
operator_in (words.Op op) = Some op
operator_in word = None

abbrev pub operator_at : List Node → NodeId → List NodeId → ℕ → Option Op
operator_at nodes n parts zero = operator_in (word_at nodes n)
operator_at nodes n parts (suc i) = option_and_then (λ link. operator_in (word_at nodes link)) (slice_get parts (2 * suc i))

abbrev pub compared : Option Op → Option NodeId → Option (Op × NodeId)
compared (Some op) (Some p) = Some (op, p)
compared _ _ = None

abbrev pub comparison_in : List Node → NodeId → NodeKind → List NodeId → ℕ → Option (Op × NodeId)
comparison_in nodes n kinds.Comparison parts i = compared (operator_at nodes n parts i) (slice_get parts (2 * i + 1))
comparison_in nodes n kind parts i = None

-- THE i-TH COMPARISON OF A CHAIN, in the order of the text: an operator, and what it compares with; none behind the last
abbrev pub comparison : List Node → NodeId → ℕ → Option (Op × NodeId)
comparison nodes n i = comparison_in nodes n (kind_at nodes n) (parts_at nodes n) i

-- WHAT STANDS IN BRACKETS, seen through them. Parts are older nodes, so no node stands deeper than its number.
abbrev pub seen_in : (NodeId → NodeId) → NodeId → Expression → NodeId
seen_in inner n (form.Group e) = inner e
seen_in inner n e = n

abbrev pub seen_within : ℕ → List Node → NodeId → NodeId
seen_within zero nodes n = n
seen_within (suc left) nodes n = seen_in (seen_within left nodes) n (expression nodes n)

abbrev pub seen : List Node → NodeId → NodeId
seen nodes n = seen_within (suc n.0) nodes n
