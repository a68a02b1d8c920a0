-- What a table of levels can't say: which trees are targets, in which order the entries of some forms stand, that a `:` outside
-- brackets ends the value of a field, and that the first part of a complex number in a pattern is real (Python 3.12 language reference,
-- 7.2 for targets, 6.3.4 for arguments, 8.7 and 6.14 for parameters, 6.2.7 for the entries of curly brackets, 2.4.3 for fields, 8.6.4
-- for patterns).
use Rattle.std.specs.Prelude.{ℕ, ◌-◌, nat_lt, Bool, true, false, not, ◌&&◌, ◌||◌, List, [], ◌∷◌, length, take, if◌then◌else◌}
use Rattle.std.specs.List.{list_all}
use Rattle.py_base.specs.declared.node.NodeKind.{NodeKind}
use Rattle.py_base.specs.declared.node.NodeKind.TheVariants as kinds
use Rattle.py_grammar.specs.declared.order.Order.{Order}
use Rattle.py_grammar.specs.declared.order.Order.TheVariants as orders
use Rattle.py_grammar.specs.declared.order.Binding.{Binding}
use Rattle.py_grammar.specs.declared.order.Binding.TheVariants as bindings
use Rattle.py_base.specs.Tree.{SyntaxTree, SyntaxTrees, node, no_parts, with_part, kind_of}

abbrev pub kinds_of : SyntaxTrees → List NodeKind
kinds_of no_parts = []
kinds_of (with_part t ts) = kind_of t ∷ kinds_of ts

-- An entry bars the entries behind it: those whose bar is not above its grade. Nothing has a grade above 8.
abbrev pub are_ordered : (NodeKind → ℕ) → (NodeKind → ℕ) → List NodeKind → Bool
are_ordered grade bar [] = true
are_ordered grade bar (k ∷ ks) = list_all (λ l. nat_lt (grade k) (bar l)) ks && are_ordered grade bar ks

-- Arguments: behind `name =` stands no plain argument, behind `**` no `*` either.
abbrev pub argument_grade : NodeKind → ℕ
argument_grade kinds.Keyword = 1
argument_grade kinds.DoubleStarred = 2
argument_grade _ = 0

abbrev pub argument_bar : NodeKind → ℕ
argument_bar kinds.Keyword = 9
argument_bar kinds.DoubleStarred = 9
argument_bar kinds.LastComma = 9
argument_bar kinds.Starred = 2
argument_bar _ = 1

-- Parameters: behind `/` stands no `/`, behind `*` neither, and no second `*`, behind `**` no parameter.
abbrev pub parameter_grade : NodeKind → ℕ
parameter_grade kinds.Slash = 1
parameter_grade kinds.BareStar = 2
parameter_grade kinds.StarParameter = 2
parameter_grade kinds.DoubleStarParameter = 3
parameter_grade _ = 0

abbrev pub parameter_bar : NodeKind → ℕ
parameter_bar kinds.Slash = 1
parameter_bar kinds.BareStar = 2
parameter_bar kinds.StarParameter = 2
parameter_bar kinds.Name = 3
parameter_bar kinds.Parameter = 3
parameter_bar kinds.AnnotatedParameter = 3
parameter_bar kinds.DoubleStarParameter = 3
parameter_bar _ = 9

-- Patterns of a sequence: behind `*` stands no second one.
abbrev pub sequence_grade : NodeKind → ℕ
sequence_grade kinds.StarPattern = 1
sequence_grade _ = 0

abbrev pub sequence_bar : NodeKind → ℕ
sequence_bar kinds.StarPattern = 1
sequence_bar _ = 9

-- Patterns of a class: behind `name =` stands no plain pattern.
abbrev pub class_grade : NodeKind → ℕ
class_grade kinds.KeywordPattern = 1
class_grade _ = 0

abbrev pub class_bar : NodeKind → ℕ
class_bar kinds.KeywordPattern = 9
class_bar kinds.LastComma = 9
class_bar _ = 1

-- what an order is of
abbrev pub grade_for : Order → NodeKind → ℕ
grade_for orders.Arguments k = argument_grade k
grade_for orders.Parameters k = parameter_grade k
grade_for orders.SequencePatterns k = sequence_grade k
grade_for orders.ClassPatterns k = class_grade k

abbrev pub bar_for : Order → NodeKind → ℕ
bar_for orders.Arguments k = argument_bar k
bar_for orders.Parameters k = parameter_bar k
bar_for orders.SequencePatterns k = sequence_bar k
bar_for orders.ClassPatterns k = class_bar k

abbrev pub is_parameter : NodeKind → Bool
is_parameter kinds.Name = true
is_parameter kinds.Parameter = true
is_parameter kinds.AnnotatedParameter = true
is_parameter _ = false

abbrev pub begins_with_parameter : List NodeKind → Bool
begins_with_parameter [] = false
begins_with_parameter (k ∷ ks) = is_parameter k

abbrev pub is_bare_star : NodeKind → Bool
is_bare_star kinds.BareStar = true
is_bare_star _ = false

-- a bare `*` is directly followed by a parameter
abbrev pub stars_fit : List NodeKind → Bool
stars_fit [] = true
stars_fit (k ∷ ks) = (not (is_bare_star k) || begins_with_parameter ks) && stars_fit ks

abbrev pub is_slash : NodeKind → Bool
is_slash kinds.Slash = true
is_slash _ = false

-- `/` is not the first
abbrev pub slash_fits : List NodeKind → Bool
slash_fits [] = true
slash_fits (k ∷ ks) = not (is_slash k)

abbrev pub parameters_fit : List NodeKind → Bool
parameters_fit ks = slash_fits ks && stars_fit ks && are_ordered (grade_for orders.Parameters) (bar_for orders.Parameters) ks

-- the parts of a lambda without its body
abbrev pub without_last : List NodeKind → List NodeKind
without_last ks = take (length ks - 1) ks

-- Curly brackets: what makes a dict and what makes a set don't stand together.
abbrev pub is_dict_entry : NodeKind → Bool
is_dict_entry kinds.Item = true
is_dict_entry kinds.DoubleStarred = true
is_dict_entry _ = false

-- what is no entry
abbrev pub is_neutral : NodeKind → Bool
is_neutral kinds.LastComma = true
is_neutral kinds.ComprehensionFor = true
is_neutral kinds.AsyncComprehensionFor = true
is_neutral kinds.ComprehensionIf = true
is_neutral _ = false

abbrev pub same : Bool → Bool → Bool
same true b = b
same false b = not b

-- each entry is of the sort of the first
abbrev pub entries_fit : List NodeKind → Bool
entries_fit [] = true
entries_fit (k ∷ ks) = list_all (λ l. is_neutral l || same (is_dict_entry k) (is_dict_entry l)) ks

abbrev pub is_starred : NodeKind → Bool
is_starred kinds.Starred = true
is_starred _ = false

abbrev pub begins_starred : List NodeKind → Bool
begins_starred [] = false
begins_starred (k ∷ ks) = is_starred k

-- one starred entry alone: round brackets hold it as a target, but as no expression
abbrev pub is_lone_star : List NodeKind → Bool
is_lone_star [] = false
is_lone_star (k ∷ []) = is_starred k
is_lone_star (k ∷ l ∷ ks) = false

-- `name = value` is no element of a comprehension
abbrev pub begins_keyword : List NodeKind → Bool
begins_keyword (kinds.Keyword ∷ ks) = true
begins_keyword _ = false

-- what a node asks of the kinds of its parts
abbrev pub fits : NodeKind → List NodeKind → Bool
fits kinds.Call ks = are_ordered (grade_for orders.Arguments) (bar_for orders.Arguments) ks
fits kinds.Arguments ks = are_ordered (grade_for orders.Arguments) (bar_for orders.Arguments) ks
fits kinds.Lambda ks = parameters_fit (without_last ks)
fits kinds.Parameters ks = parameters_fit ks
fits kinds.Curly ks = entries_fit ks
fits kinds.Starred ks = not (begins_starred ks)
fits kinds.Round ks = not (is_lone_star ks) && not (begins_keyword ks) && are_ordered (grade_for orders.SequencePatterns) (bar_for orders.SequencePatterns) ks
fits kinds.Square ks = are_ordered (grade_for orders.SequencePatterns) (bar_for orders.SequencePatterns) ks
fits kinds.Patterns ks = are_ordered (grade_for orders.SequencePatterns) (bar_for orders.SequencePatterns) ks
fits kinds.ClassPattern ks = are_ordered (grade_for orders.ClassPatterns) (bar_for orders.ClassPatterns) ks
fits _ ks = true

-- a name, an attribute or a subscript
abbrev pub is_reference : NodeKind → Bool
is_reference kinds.Name = true
is_reference kinds.Attribute = true
is_reference kinds.Subscript = true
is_reference _ = false

-- what holds targets: `*`, brackets, and targets by commas; the last comma stands among them
abbrev pub holds_targets : NodeKind → Bool
holds_targets kinds.Starred = true
holds_targets kinds.Round = true
holds_targets kinds.Square = true
holds_targets kinds.Targets = true
holds_targets kinds.Entries = true
holds_targets kinds.LastComma = true
holds_targets _ = false

-- which parts are bound
abbrev pub binding : NodeKind → Binding
binding kinds.ComprehensionFor = bindings.First
binding kinds.AsyncComprehensionFor = bindings.First
binding kinds.For = bindings.First
binding kinds.Del = bindings.First
binding kinds.WithItem = bindings.AllButFirst
binding kinds.Assign = bindings.AllButLast
binding _ = bindings.Nothing

abbrev pub is_lambda : NodeKind → Bool
is_lambda kinds.Lambda = true
is_lambda _ = false

abbrev pub is_field : NodeKind → Bool
is_field kinds.Field = true
is_field _ = false

-- what has its parts in brackets or quotes; what is called or subscripted is never a bare lambda
abbrev pub encloses : NodeKind → Bool
encloses kinds.Round = true
encloses kinds.Square = true
encloses kinds.Curly = true
encloses kinds.Call = true
encloses kinds.Subscript = true
encloses kinds.Strings = true
encloses _ = false

-- the `:` of a lambda stands in the tree outside all brackets
abbrev mutual
  pub has_colon : SyntaxTree → Bool
  has_colon (node k at said ts) = is_lambda k || (not (encloses k) && have_colon ts)

  pub have_colon : SyntaxTrees → Bool
  have_colon no_parts = false
  have_colon (with_part t ts) = has_colon t || have_colon ts

abbrev pub is_unary : NodeKind → Bool
is_unary kinds.Unary = true
is_unary _ = false

abbrev pub is_binary : NodeKind → Bool
is_binary kinds.Binary = true
is_binary _ = false

abbrev pub is_strings : NodeKind → Bool
is_strings kinds.Strings = true
is_strings _ = false

abbrev pub is_case : NodeKind → Bool
is_case kinds.Case = true
is_case _ = false

abbrev pub begins_imaginary : List NodeKind → Bool
begins_imaginary (kinds.Imaginary ∷ ks) = true
begins_imaginary _ = false

-- a sign before an imaginary number
abbrev pub is_signed_imaginary : SyntaxTree → Bool
is_signed_imaginary (node k at said ts) = is_unary k && begins_imaginary (kinds_of ts)

abbrev pub begins_signed : SyntaxTrees → Bool
begins_signed no_parts = false
begins_signed (with_part t ts) = is_signed_imaginary t

-- in the tree of a pattern, outside the fields of its strings, something is added to an imaginary number that has a sign
abbrev mutual
  pub is_unreal : SyntaxTree → Bool
  is_unreal (node k at said ts) = (is_binary k && begins_signed ts) || (not (is_strings k) && are_unreal ts)

  pub are_unreal : SyntaxTrees → Bool
  are_unreal no_parts = false
  are_unreal (with_part t ts) = is_unreal t || are_unreal ts

abbrev pub begins_unreal : SyntaxTrees → Bool
begins_unreal no_parts = false
begins_unreal (with_part t ts) = is_unreal t

-- a field whose value a `:` would end too soon, and a case whose pattern has a number of two imaginary parts
abbrev pub is_faulty : NodeKind → SyntaxTrees → Bool
is_faulty k ts = (is_field k && have_colon ts) || (is_case k && begins_unreal ts)

abbrev pub is_end : SyntaxTrees → Bool
is_end no_parts = true
is_end (with_part t ts) = false

-- what is assigned is not starred
abbrev pub is_value : NodeKind → Bool → Bool
is_value k proper = proper && not (is_starred k)

-- A TREE IS PROPER where each node in it has what it asks of its parts; a target is one that can be bound.
abbrev mutual
  pub is_proper : SyntaxTree → Bool
  is_proper (node k at said ts) = parts_proper (binding k) ts && fits k (kinds_of ts) && not (is_faulty k ts)

  pub is_target : SyntaxTree → Bool
  is_target (node k at said ts) = (is_reference k && are_proper ts) || (holds_targets k && are_targets ts)

  pub parts_proper : Binding → SyntaxTrees → Bool
  parts_proper b no_parts = true
  parts_proper bindings.Nothing (with_part t ts) = is_proper t && are_proper ts
  parts_proper bindings.First (with_part t ts) = is_target t && are_proper ts
  parts_proper bindings.AllButFirst (with_part t ts) = is_proper t && are_targets ts
  parts_proper bindings.AllButLast (with_part t ts) = (if is_end ts then is_value (kind_of t) (is_proper t) else is_target t) && are_assigned ts

  -- targets, and as the last what is assigned
  pub are_assigned : SyntaxTrees → Bool
  are_assigned no_parts = true
  are_assigned (with_part t ts) = (if is_end ts then is_value (kind_of t) (is_proper t) else is_target t) && are_assigned ts

  pub are_proper : SyntaxTrees → Bool
  are_proper no_parts = true
  are_proper (with_part t ts) = is_proper t && are_proper ts

  pub are_targets : SyntaxTrees → Bool
  are_targets no_parts = true
  are_targets (with_part t ts) = is_target t && are_targets ts
