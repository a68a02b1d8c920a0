-- Which reference a node tests: the forms that narrow what a name or a chain stands for, after the typing specification's part on narrowing
-- (Python 3.12 language reference, 6.10 for comparisons, 6.3.4 for calls, 6.12 for named expressions, 8.6 for `match`). What the names of
-- classes and functions in a form stand for isn't looked at. Brackets around one expression change no form.
use Rattle.std.specs.Prelude.{ℕ, zero, suc, Bool, true, false, ◌&&◌, ◌||◌, List, [], ◌∷◌, Option, None, Some, slice_get, bytes_eq, codes, if◌then◌else◌}
use Rattle.std.specs.List.{list_all}
use Rattle.py_base.specs.declared.ids.NodeId.{NodeId}
use Rattle.py_base.specs.declared.ids.NameId.{NameId}
use Rattle.py_base.specs.declared.node.Node.{Node}
use Rattle.py_base.specs.declared.node.NodeKind.{NodeKind}
use Rattle.py_base.specs.declared.node.NodeKind.TheVariants as kinds
use Rattle.py_base.specs.declared.node.Op.{Op}
use Rattle.py_base.specs.declared.node.Op.TheVariants as ops
use Rattle.py_base.specs.declared.node.Word.{Word}
use Rattle.py_base.specs.declared.node.Word.TheVariants as words
use Rattle.py_base.specs.Tree.{Arena}
use Rattle.py_scopes.specs.declared.owner.Owner.{Owner}
use Rattle.py_scopes.specs.Occurrences.{name_of}
use Rattle.flow_rows.specs.declared.point.Point.{Point}
use Rattle.flow_rows.specs.declared.form.Form.{Form}
use Rattle.flow_rows.specs.declared.form.Form.TheVariants as forms
use Rattle.py_base.specs.Nodes.{kind_at, parts_at}
use Rattle.flow_forms.specs.Forms.{forms_of}
use Rattle.node_references.specs.Reference.{Reference}
use Rattle.node_references.specs.declared.shape.Shape.{Shape}
use Rattle.node_references.specs.declared.shape.Shape.TheVariants as shapes
use Rattle.node_references.specs.References.{shape, reference_of}
use Rattle.node_references.specs.Marks.{is_among}
use Rattle.flow_graph.specs.declared.condition.Test.{Test}
use Rattle.flow_graph.specs.declared.condition.Tests.{Tests}
use Rattle.flow_graph.specs.declared.condition.TestForm.{TestForm}
use Rattle.flow_graph.specs.declared.condition.TestForm.TheVariants as tests
use Rattle.flow_graph.specs.Bindings.{run_nodes, is_read}

-- what stands in brackets, down to a depth
abbrev pub within_group : (NodeId → NodeId) → NodeId → Shape → NodeId
within_group inner n shapes.Name = n
within_group inner n (shapes.Attribute p) = n
within_group inner n (shapes.Group p) = inner p
within_group inner n shapes.Match = n
within_group inner n shapes.Other = n

abbrev pub bared : ℕ → List Node → NodeId → NodeId
bared zero nodes n = n
bared (suc left) nodes n = within_group (bared left nodes) n (shape (kind_at nodes n) (parts_at nodes n))

unfoldable pub seen : List Node → NodeId → NodeId
seen nodes n = bared 256 nodes n

abbrev pub kind_seen : List Node → NodeId → NodeKind
kind_seen nodes n = kind_at nodes (seen nodes n)

abbrev pub parts_seen : List Node → NodeId → List NodeId
parts_seen nodes n = parts_at nodes (seen nodes n)

-- in place of x a named expression stands for its name
abbrev pub named_in : NodeId → NodeKind → List NodeId → NodeId
named_in n kinds.Named (p ∷ more) = p
named_in n kind parts = n

-- a test of what stands in place of x
abbrev pub test : List Node → TestForm → NodeId → Test
test nodes form n = record { place = named_in (seen nodes n) (kind_seen nodes n) (parts_seen nodes n); form = form }

abbrev pub test_of : List Node → TestForm → Option NodeId → Option Test
test_of nodes form None = None
test_of nodes form (Some n) = Some (test nodes form n)

abbrev pub when : {A : Type 0} → Bool → Option A → Option A
when true x = x
when false x = None

abbrev pub or_else : {A : Type 0} → Option A → Option A → Option A
or_else None y = y
or_else (Some x) y = Some x

-- a name, or names by dots, down to a depth
abbrev pub chain_by : (NodeId → Bool) → Shape → Bool
chain_by inner shapes.Name = true
chain_by inner (shapes.Attribute p) = inner p
chain_by inner (shapes.Group p) = inner p
chain_by inner shapes.Match = false
chain_by inner shapes.Other = false

abbrev pub chain_within : ℕ → List Node → NodeId → Bool
chain_within zero nodes n = false
chain_within (suc left) nodes n = chain_by (chain_within left nodes) (shape (kind_at nodes n) (parts_at nodes n))

unfoldable pub is_chain : List Node → NodeId → Bool
is_chain nodes n = chain_within 256 nodes n

-- a name by a dot, as a member of an enum is written
abbrev pub is_dotted_kind : NodeKind → Bool
is_dotted_kind kinds.Attribute = true
is_dotted_kind kind = false

abbrev pub is_member_name : List Node → NodeId → Bool
is_member_name nodes n = is_dotted_kind (kind_seen nodes n) && is_chain nodes n

-- `None`, `True`, `False`
abbrev pub is_constant : NodeKind → Bool
is_constant kinds.NoneValue = true
is_constant kinds.TrueValue = true
is_constant kinds.FalseValue = true
is_constant kind = false

-- what x may be, by identity
abbrev pub is_singleton : List Node → NodeId → Bool
is_singleton nodes n = is_constant (kind_seen nodes n) || is_member_name nodes n

abbrev pub is_integer : NodeKind → Bool
is_integer kinds.Int = true
is_integer kind = false

abbrev pub first_is_integer : List Node → List NodeId → Bool
first_is_integer nodes [] = false
first_is_integer nodes (p ∷ more) = is_integer (kind_at nodes p)

-- a literal: an integer, one directly behind `-`, and strings and bytes literals whose value is known
abbrev pub is_literal_by : List Node → NodeKind → Word → List NodeId → Bool
is_literal_by nodes kinds.Int word parts = true
is_literal_by nodes kinds.Unary (words.Op ops.Minus) parts = first_is_integer nodes parts
is_literal_by nodes kinds.Strings (words.Chars text) parts = true
is_literal_by nodes kinds.BytesStrings (words.Bytes bytes) parts = true
is_literal_by nodes kind word parts = false

abbrev pub is_literal_node : List Node → Option Node → Bool
is_literal_node nodes None = false
is_literal_node nodes (Some node) = is_literal_by nodes node.kind node.word node.parts

-- what x may be equal to
unfoldable pub is_value : List Node → NodeId → Bool
is_value nodes n = is_singleton nodes n || is_literal_node nodes (slice_get nodes (seen nodes n).0)

abbrev pub is_comma : NodeKind → Bool
is_comma kinds.LastComma = true
is_comma kind = false

abbrev pub is_entry : List Node → NodeId → Bool
is_entry nodes n = is_comma (kind_at nodes n) || is_value nodes n

-- a tuple, list or set display; empty curly brackets are a dict
abbrev pub is_display_of : List Node → NodeKind → List NodeId → Bool
is_display_of nodes kinds.Round parts = list_all (is_entry nodes) parts
is_display_of nodes kinds.Square parts = list_all (is_entry nodes) parts
is_display_of nodes kinds.Curly [] = false
is_display_of nodes kinds.Curly (p ∷ more) = list_all (is_entry nodes) (p ∷ more)
is_display_of nodes kind parts = false

-- what x may be in
unfoldable pub is_display : List Node → NodeId → Bool
is_display nodes n = is_display_of nodes (kind_seen nodes n) (parts_seen nodes n)

-- the one argument of a call, behind which a comma may stand
abbrev pub only_argument : List Node → List NodeId → Option NodeId
only_argument nodes [] = None
only_argument nodes (p ∷ []) = Some p
only_argument nodes (p ∷ q ∷ []) = when (is_comma (kind_at nodes q)) (Some p)
only_argument nodes (p ∷ q ∷ r ∷ more) = None

-- a class or a tuple of classes
abbrev pub is_class_entry : List Node → NodeId → Bool
is_class_entry nodes n = is_comma (kind_at nodes n) || is_chain nodes n

abbrev pub is_tuple_of_classes : List Node → NodeKind → List NodeId → Bool
is_tuple_of_classes nodes kinds.Round parts = list_all (is_class_entry nodes) parts
is_tuple_of_classes nodes kind parts = false

unfoldable pub are_classes : List Node → NodeId → Bool
are_classes nodes n = is_chain nodes n || is_tuple_of_classes nodes (kind_seen nodes n) (parts_seen nodes n)

-- the two arguments of a call, of which the second is classes
abbrev pub class_test : List Node → NodeId → List NodeId → Option Test
class_test nodes f [] = None
class_test nodes f (p ∷ []) = None
class_test nodes f (p ∷ q ∷ []) = when (are_classes nodes q) (Some (test nodes (tests.CallOf f q) p))
class_test nodes f (p ∷ q ∷ r ∷ []) = when (is_comma (kind_at nodes r) && are_classes nodes q) (Some (test nodes (tests.CallOf f q) p))
class_test nodes f (p ∷ q ∷ r ∷ s ∷ more) = None

-- the name by which a function is called
abbrev pub is_name_kind : NodeKind → Bool
is_name_kind kinds.Name = true
is_name_kind kind = false

abbrev pub is_text : List ℕ → Option (List ℕ) → Bool
is_text text None = false
is_text text (Some name) = bytes_eq name text

abbrev pub is_spelled : List (List ℕ) → List ℕ → Option NameId → Bool
is_spelled names text None = false
is_spelled names text (Some name) = is_text text (slice_get names name.0)

unfoldable pub is_called : Arena → List ℕ → NodeId → Bool
is_called a text f = is_name_kind (kind_seen a.nodes f) && is_spelled a.names text (name_of a (seen a.nodes f))

abbrev pub is_class_test : Arena → NodeId → Bool
is_class_test a f = is_called a (codes "isinstance") f || is_called a (codes "issubclass") f

-- `callable(x)`, `bool(x)`, `f(x)`, `isinstance(x, C)`, `issubclass(x, C)`
abbrev pub call_test : Arena → List NodeId → Option Test
call_test a [] = None
call_test a (f ∷ arguments) =
    or_else (when (is_name_kind (kind_seen a.nodes f)) (test_of a.nodes (tests.Call f) (only_argument a.nodes arguments)))
    (when (is_class_test a f) (class_test a.nodes f arguments))

-- the argument of `type(x)`
abbrev pub type_argument_in : Arena → NodeKind → List NodeId → Option NodeId
type_argument_in a kinds.Call (f ∷ arguments) = when (is_called a (codes "type") f) (only_argument a.nodes arguments)
type_argument_in a kind parts = None

unfoldable pub type_argument : Arena → NodeId → Option NodeId
type_argument a n = type_argument_in a (kind_seen a.nodes n) (parts_seen a.nodes n)

-- `type(x) is T`, `type(x) == T`
abbrev pub type_test : Arena → NodeId → NodeId → Option Test
type_test a p q = when (is_chain a.nodes q) (test_of a.nodes (tests.Type q) (type_argument a p))

-- `x is None`, `x is L`
abbrev pub identity_test : Arena → NodeId → NodeId → Option Test
identity_test a p q = or_else (type_test a p q) (when (is_singleton a.nodes q) (Some (test a.nodes (tests.Is q) p)))

-- `x == None`, `x == L`
abbrev pub equality_test : Arena → NodeId → NodeId → Option Test
equality_test a p q = when (is_value a.nodes q) (Some (test a.nodes (tests.Equal q) p))

-- `x in` a display
abbrev pub membership_test : Arena → NodeId → NodeId → Option Test
membership_test a p q = when (is_display a.nodes q) (Some (test a.nodes (tests.In q) p))

-- the form as written alone
abbrev pub written : Option Test → Tests
written x = record { written = x; mirrored = None }

-- by the operator; `None == x` and `L == x` are tests too, of the form written the other way
abbrev pub operator_tests : Arena → Op → NodeId → NodeId → Tests
operator_tests a ops.Is p q = written (identity_test a p q)
operator_tests a ops.IsNot p q = written (identity_test a p q)
operator_tests a ops.Equal p q = record { written = or_else (type_test a p q) (equality_test a p q); mirrored = equality_test a q p }
operator_tests a ops.NotEqual p q = record { written = or_else (type_test a p q) (equality_test a p q); mirrored = equality_test a q p }
operator_tests a ops.In p q = written (membership_test a p q)
operator_tests a ops.NotIn p q = written (membership_test a p q)
operator_tests a op p q = written None

-- a comparison of two; a chain of comparisons is no test
abbrev pub comparison_tests : Arena → Word → List NodeId → Tests
comparison_tests a (words.Op op) (p ∷ q ∷ []) = operator_tests a op p q
comparison_tests a word parts = written None

-- the subject of a case, by the `match` statements that have it; one alone in a tree of a text
abbrev pub subject_in : NodeId → Form → Option NodeId
subject_in n (forms.Match form) = if is_among form.cases n then Some form.subject else None
subject_in n form = None

abbrev pub subject_among : NodeId → List Form → Option NodeId
subject_among n [] = None
subject_among n (form ∷ more) = or_else (subject_in n form) (subject_among n more)

abbrev pub place_test : TestForm → NodeId → Test
place_test form n = record { place = n; form = form }

abbrev pub case_test : Option NodeId → Option Test
case_test None = None
case_test (Some subject) = Some (place_test tests.Case subject)

-- the forms that may be tests
pub data Testing : Type 0 where
  a_place : Testing
  a_named : Testing
  a_comparison : Testing
  a_call : Testing
  a_case : Testing
  no_test : Testing

abbrev pub testing : NodeKind → Testing
testing kinds.Name = a_place
testing kinds.Attribute = a_place
testing kinds.Named = a_named
testing kinds.Comparison = a_comparison
testing kinds.Call = a_call
testing kinds.CaseStatement = a_case
testing kind = no_test

-- THE TESTS THAT A NODE HAS THE FORM OF. `and`, `or`, `not`, brackets and conditional expressions have no exits of their own and test
-- nothing: what stands in them does.
abbrev pub form_tests : Arena → Bool → Option NodeId → NodeId → Testing → Word → List NodeId → Tests
form_tests a read subject n a_place word parts = written (when read (Some (place_test tests.Truth n)))
form_tests a read subject n a_named word parts = written (Some (place_test tests.Truth (named_in n kinds.Named parts)))
form_tests a read subject n a_comparison word parts = comparison_tests a word parts
form_tests a read subject n a_call word parts = written (call_test a parts)
form_tests a read subject n a_case word parts = written (case_test subject)
form_tests a read subject n no_test word parts = written None

abbrev pub node_tests : Arena → Bool → Option NodeId → NodeId → Option Node → Tests
node_tests a read subject n None = written None
node_tests a read subject n (Some node) = form_tests a read subject n (testing node.kind) node.word node.parts

-- a test of what its place stands for, where that is a reference
abbrev pub with_form : {A : Type 0} → Option A → TestForm → Option (A × TestForm)
with_form None form = None
with_form (Some x) form = Some (x, form)

abbrev pub of_test : {A : Type 0} → (NodeId → Option A) → Option Test → Option (A × TestForm)
of_test of None = None
of_test of (Some t) = with_form (of t.place) t.form

-- the form as written, and where that tests no reference the one written the other way
abbrev pub tested_by : {A : Type 0} → (NodeId → Option A) → Tests → Option (A × TestForm)
tested_by of t = or_else (of_test of t.written) (of_test of t.mirrored)

-- the form written the other way, where both test a reference
abbrev pub beside : {A : Type 0} → Option A → Option A → Option A
beside None y = None
beside (Some x) y = y

abbrev pub mirrored_by : {A : Type 0} → (NodeId → Option A) → Tests → Option (A × TestForm)
mirrored_by of t = beside (of_test of t.written) (of_test of t.mirrored)

-- the reference of a node that runs; in a call of `cast` the first argument doesn't
abbrev pub running_reference : Arena → List Owner → List Point → NodeId → Option Reference
running_reference a os points n = when (is_among (run_nodes points) n) (reference_of a os n)

-- the tests of a node that runs
abbrev pub tests_at : Arena → List Point → NodeId → Tests
tests_at a points n =
    if is_among (run_nodes points) n then node_tests a (is_read a n) (subject_among n (forms_of a)) n (slice_get a.nodes n.0) else written None

-- THE REFERENCE THAT A NODE TESTS, with the form of the test: both run
abbrev pub tested : Arena → List Owner → List Point → NodeId → Option (Reference × TestForm)
tested a os points n = tested_by (running_reference a os points) (tests_at a points n)

-- THE OTHER REFERENCE THAT IT TESTS, where `L == x` has a reference on both sides
abbrev pub mirrored : Arena → List Owner → List Point → NodeId → Option (Reference × TestForm)
mirrored a os points n = mirrored_by (running_reference a os points) (tests_at a points n)
