-- What each pattern is (Python 3.12 language reference, 8.6.4): in patterns a name captures, but for `_`.
use Rattle.std.specs.Prelude.{ℕ, List, [], ◌∷◌, Option, None, Some, bytes_eq, codes, if◌then◌else◌}
use Rattle.py_base.specs.declared.ids.NameId.{NameId}
use Rattle.py_base.specs.Tree.{Arena, name_at}
use Rattle.py_base.specs.declared.ids.NodeId.{NodeId}
use Rattle.py_base.specs.declared.node.NodeKind.{NodeKind}
use Rattle.py_base.specs.declared.node.NodeKind.TheVariants as kinds
use Rattle.py_base.specs.Nodes.{kind_at, parts_at, name_of}
use Rattle.node_shapes.specs.declared.patterns.Pattern.{Pattern}
use Rattle.node_shapes.specs.declared.patterns.Pattern.TheVariants as patterns

abbrev pub named_pattern : List (List ℕ) → Option NameId → Pattern
named_pattern names None = patterns.NoPattern
named_pattern names (Some m) = if bytes_eq (name_at names m.0) (codes "_") then patterns.Wildcard else patterns.Capture

abbrev pub pattern_by : NodeKind → List NodeId → Pattern → Pattern
pattern_by kinds.Name parts named = named
pattern_by kinds.Attribute parts named = patterns.Value
pattern_by kinds.Int parts named = patterns.Literal
pattern_by kinds.Float parts named = patterns.Literal
pattern_by kinds.Imaginary parts named = patterns.Literal
pattern_by kinds.Unary parts named = patterns.Literal
pattern_by kinds.Binary parts named = patterns.Literal
pattern_by kinds.Strings parts named = patterns.Literal
pattern_by kinds.BytesStrings parts named = patterns.Literal
pattern_by kinds.NoneValue parts named = patterns.Literal
pattern_by kinds.TrueValue parts named = patterns.Literal
pattern_by kinds.FalseValue parts named = patterns.Literal
pattern_by kinds.Round (p ∷ []) named = patterns.Group p
pattern_by kinds.Round parts named = patterns.Sequence
pattern_by kinds.Square parts named = patterns.Sequence
pattern_by kinds.Patterns parts named = patterns.Sequence
pattern_by kinds.MappingPattern parts named = patterns.Mapping
pattern_by kinds.ClassPattern (class ∷ more) named = patterns.Class class
pattern_by kinds.OrPattern parts named = patterns.Or
pattern_by kinds.AsPattern (p ∷ name ∷ []) named = patterns.As p name
pattern_by kinds.StarPattern (name ∷ []) named = patterns.Star name
pattern_by kinds.DoubleStarPattern (name ∷ []) named = patterns.DoubleStar name
pattern_by kinds.PatternItem (key ∷ p ∷ []) named = patterns.Item key p
pattern_by kinds.KeywordPattern (name ∷ p ∷ []) named = patterns.Keyword name p
pattern_by kind parts named = patterns.NoPattern

-- WHAT A PATTERN IS; those in a sequence, a mapping, a class pattern and `|` are its entries
abbrev pub pattern : Arena → NodeId → Pattern
pattern a n = pattern_by (kind_at a.nodes n) (parts_at a.nodes n) (named_pattern a.names (name_of a.nodes n))
