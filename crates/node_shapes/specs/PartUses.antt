-- What a node does with the names in its parts: the one table of reads, bindings, spellings and declarations (Python 3.12 language
-- reference, 4.2.1, "Binding of names"; 7.2 for targets, 7.5 for `del`, 7.11 for imports, 7.12 to 7.14, 8.6.4 for patterns, 8.10 for type
-- parameters).
use Rattle.std.specs.Prelude.{ℕ, ◌==◌, ◌-◌, nat_lt, Bool, true, false, ◌&&◌, if◌then◌else◌}
use Rattle.py_base.specs.declared.node.NodeKind.{NodeKind}
use Rattle.py_base.specs.declared.node.NodeKind.TheVariants as kinds
use Rattle.node_shapes.specs.declared.part_uses.PartUse.{PartUse}
use Rattle.node_shapes.specs.declared.part_uses.PartUse.TheVariants as uses

-- one part has a use, the others are read
abbrev pub only : Bool → PartUse → PartUse
only true one = one
only false one = uses.Read

-- one part has this use, the others another
abbrev pub either : Bool → PartUse → PartUse → PartUse
either true one other = one
either false one other = other

-- an annotation alone binds without a value
abbrev pub annotated : ℕ → PartUse
annotated n = if n == 2 then uses.Annotated else uses.Bound

-- WHAT A NODE OF THE KIND DOES WITH ITS i-TH PART OF n. The target of an augmented assignment is read and bound. A key of a mapping pattern
-- is a literal or a dotted name, which captures nothing.
abbrev pub part_use : NodeKind → ℕ → ℕ → PartUse
part_use kinds.Assign i n = only (nat_lt i (n - 1)) uses.Bound
part_use kinds.AnnotatedAssign i n = only (i == 0) (annotated n)
part_use kinds.AugmentedAssign i n = only (i == 0) uses.Augmented
part_use kinds.Named i n = only (i == 0) uses.Bound
part_use kinds.For i n = only (i == 0) uses.Bound
part_use kinds.ComprehensionFor i n = only (i == 0) uses.Bound
part_use kinds.AsyncComprehensionFor i n = only (i == 0) uses.Bound
part_use kinds.WithItem i n = only (i == 1) uses.Bound
part_use kinds.Del i n = uses.Deleted
part_use kinds.Def i n = only (i == 0) uses.Bound
part_use kinds.Class i n = only (i == 0) uses.Bound
part_use kinds.TypeAlias i n = either (i == 0) uses.Spelled (only (i == 1) uses.TypeName)
part_use kinds.Import i n = uses.Bound
part_use kinds.ImportFrom i n = either (i == 0) uses.Spelled uses.Bound
part_use kinds.ImportAll i n = uses.Spelled
part_use kinds.RelativeSource i n = uses.Spelled
part_use kinds.Alias i n = either (i == 0) uses.Spelled (only (i == 1) uses.Bound)
part_use kinds.DottedName i n = either (i == 0) uses.Inherited uses.Spelled
part_use kinds.Except i n = only ((i == 1) && (n == 3)) uses.Bound
part_use kinds.ExceptStar i n = only ((i == 1) && (n == 3)) uses.Bound
part_use kinds.Case i n = only (i == 0) uses.Bound
part_use kinds.Lambda i n = only (nat_lt i (n - 1)) uses.Bound
part_use kinds.Parameters i n = uses.Bound
part_use kinds.Parameter i n = only (i == 0) uses.Bound
part_use kinds.AnnotatedParameter i n = only (i == 0) uses.Bound
part_use kinds.StarParameter i n = only (i == 0) uses.Bound
part_use kinds.DoubleStarParameter i n = only (i == 0) uses.Bound
part_use kinds.TypeParameters i n = uses.TypeName
part_use kinds.TypeParameter i n = only (i == 0) uses.TypeName
part_use kinds.StarTypeParameter i n = uses.TypeName
part_use kinds.DoubleStarTypeParameter i n = uses.TypeName
part_use kinds.Keyword i n = only (i == 0) uses.Spelled
part_use kinds.Global i n = uses.Global
part_use kinds.Nonlocal i n = uses.Nonlocal
part_use kinds.Entries i n = uses.Inherited
part_use kinds.Targets i n = uses.Inherited
part_use kinds.Round i n = uses.Inherited
part_use kinds.Square i n = uses.Inherited
part_use kinds.Starred i n = uses.Inherited
part_use kinds.Patterns i n = uses.Inherited
part_use kinds.OrPattern i n = uses.Inherited
part_use kinds.AsPattern i n = uses.Inherited
part_use kinds.StarPattern i n = uses.Inherited
part_use kinds.MappingPattern i n = uses.Inherited
part_use kinds.DoubleStarPattern i n = uses.Inherited
part_use kinds.PatternItem i n = uses.Inherited
part_use kinds.ClassPattern i n = either (i == 0) uses.Read uses.Inherited
part_use kinds.KeywordPattern i n = either (i == 0) uses.Spelled (only (i == 1) uses.Inherited)
part_use kind i n = uses.Read
