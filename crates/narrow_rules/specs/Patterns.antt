-- Which test each pattern of a `case` is of the subject, and what the names in it bind.
-- From: the Python 3.12 language reference, 8.6.4 (patterns); the Python typing specification, "Type narrowing". Which test a pattern is, and
-- that what is known of the subject reaches only the names at the top of a pattern, is this project's own table.
use Rattle.std.specs.Prelude.{ℕ, zero, suc, ◌==◌, position, Bool, true, false, List, [], ◌∷◌, ◌++◌, map, Option, None, Some}
use Rattle.py_base.specs.declared.ids.ClassId.{ClassId}
use Rattle.py_base.specs.declared.ids.NameId.{NameId}
use Rattle.py_base.specs.declared.ids.NodeId.{NodeId}
use Rattle.py_base.specs.declared.node.Node.{Node}
use Rattle.py_base.specs.declared.node.Word.{Word}
use Rattle.py_base.specs.declared.node.Word.TheVariants as words
use Rattle.py_base.specs.Tree.{Arena}
use Rattle.py_base.specs.Nodes.{word_at}
use Rattle.node_shapes.specs.declared.expressions.Expression.{Expression}
use Rattle.node_shapes.specs.declared.expressions.Expression.TheVariants as form
use Rattle.node_shapes.specs.declared.expressions.Literal.TheVariants as written
use Rattle.node_shapes.specs.declared.patterns.Pattern.{Pattern}
use Rattle.node_shapes.specs.declared.patterns.Pattern.TheVariants as patterns
use Rattle.node_shapes.specs.Entries.{entries_of}
use Rattle.node_shapes.specs.Expressions.{expression}
use Rattle.node_shapes.specs.Patterns.{pattern}
use Rattle.type_terms.specs.declared.literal.Literal.{Literal}
use Rattle.type_terms.specs.declared.literal.Literal.TheVariants as literal
use Rattle.type_terms.specs.declared.atom.Atom.TheVariants as atom
use Rattle.type_terms.specs.declared.narrowing.Test.{Test}
use Rattle.type_terms.specs.declared.narrowing.Test.TheVariants as test
use Rattle.type_terms.specs.Facts.{NameTable}
use Rattle.narrow_rules.specs.declared.patterns.Capture.{Capture}
use Rattle.narrow_rules.specs.declared.patterns.Capture.TheVariants as capture

-- A VALUE: `==` with it, where it is one that a type can have as a member; all is kept on both sides where it is none
abbrev pub equals : Option Literal → Test
equals (Some value) = test.EqualsLit (atom.Lit value)
equals None = test.KeepBoth

-- strings and bytes, as far as their value is known
abbrev pub text_value : Word → Option Literal
text_value (words.Chars text) = Some (literal.Str text)
text_value (words.Bytes bytes) = Some (literal.Bytes bytes)
text_value word = None

-- a literal: `is` for None, True and False, and `==` for the others that have a value
abbrev pub literal_test : Expression → Word → Test
literal_test (form.Literal written.None) word = test.IsNone
literal_test (form.Literal (written.Bool b)) word = test.IsLit (atom.Lit (literal.Bool b))
literal_test (form.Literal (written.Int z)) word = equals (Some (literal.Int z))
literal_test (form.Literal written.Str) word = equals (text_value word)
literal_test (form.Literal written.Bytes) word = equals (text_value word)
literal_test other word = test.KeepBoth

-- a dotted name, by the enum member that it names
abbrev pub in_class : ClassId → Option ℕ → Option Literal
in_class class (Some place) = Some (literal.Member class place)
in_class class None = None

abbrev pub member_value : NameTable → Option (ClassId × NameId) → Option Literal
member_value names (Some (class, name)) = in_class class (position (λ (member : NameId). member.0 == name.0) (names.enum_members class))
member_value names None = None

-- a class, by what its name names, and the patterns in its brackets
abbrev pub class_test : Option ClassId → List NodeId → Test
class_test (Some class) [] = test.Instance (class ∷ [])
class_test (Some class) (p ∷ more) = test.WithParts class
class_test None parts = test.KeepBoth

-- WHICH TEST A PATTERN IS, given those in it
abbrev pub pattern_test : (NodeId → Test) → NameTable → List Node → NodeId → Pattern → Test
pattern_test inner names nodes n patterns.Capture = test.KeepTrue
pattern_test inner names nodes n patterns.Wildcard = test.KeepTrue
pattern_test inner names nodes n patterns.Literal = literal_test (expression nodes n) (word_at nodes n)
pattern_test inner names nodes n patterns.Value = equals (member_value names (names.member_at n))
pattern_test inner names nodes n (patterns.Class class) = class_test (names.class_at class) (entries_of nodes n)
pattern_test inner names nodes n (patterns.Group p) = inner p
pattern_test inner names nodes n (patterns.As p name) = inner p
pattern_test inner names nodes n patterns.Or = test.Either (map inner (entries_of nodes n))
pattern_test inner names nodes n other = test.KeepBoth

-- down to a depth; the tree of a line is at most 256 high
abbrev pub test_within : ℕ → NameTable → Arena → NodeId → Test
test_within zero names a n = test.KeepBoth
test_within (suc left) names a n = pattern_test (test_within left names a) names a.nodes n (pattern a n)

-- what a name binds: at the top the subject, further in a part of it of which nothing is known
abbrev pub bound : Bool → Capture
bound true = capture.Subject
bound false = capture.Unknown

abbrev pub gather : {A : Type 0} → (NodeId → List A) → List NodeId → List A
gather f [] = []
gather f (p ∷ more) = f p ++ gather f more

-- WHAT A PATTERN CAPTURES, given what those in it do, at the top or not: a group and `as` stand where their own pattern stands, and so does the
-- name behind `as`; what stands in any other pattern, also between `|`, isn't at the top
abbrev pub pattern_captures : (Bool → NodeId → List (NodeId × Capture)) → List Node → Bool → NodeId → Pattern → List (NodeId × Capture)
pattern_captures inner nodes top n patterns.Capture = (n, bound top) ∷ []
pattern_captures inner nodes top n (patterns.Group p) = inner top p
pattern_captures inner nodes top n (patterns.As p name) = inner top p ++ inner top name
pattern_captures inner nodes top n (patterns.Star name) = inner false name
pattern_captures inner nodes top n (patterns.DoubleStar name) = inner false name
pattern_captures inner nodes top n (patterns.Item key p) = inner false p
pattern_captures inner nodes top n (patterns.Keyword name p) = inner false p
pattern_captures inner nodes top n patterns.Sequence = gather (inner false) (entries_of nodes n)
pattern_captures inner nodes top n patterns.Mapping = gather (inner false) (entries_of nodes n)
pattern_captures inner nodes top n (patterns.Class class) = gather (inner false) (entries_of nodes n)
pattern_captures inner nodes top n patterns.Or = gather (inner false) (entries_of nodes n)
pattern_captures inner nodes top n other = []

-- in the order of evaluation, down to a depth
abbrev pub captures_within : ℕ → Arena → Bool → NodeId → List (NodeId × Capture)
captures_within zero a top n = []
captures_within (suc left) a top n = pattern_captures (captures_within left a) a.nodes top n (pattern a n)
