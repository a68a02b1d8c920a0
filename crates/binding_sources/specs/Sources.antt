-- What a node is bound to: where the value comes from, read off the way from the node outward (Python 3.12 language reference, 4.2.1,
-- "Binding of names"; 7.2 for targets, 7.5 for `del`, 7.11 for imports, 8.3 to 8.10 for compound statements, 6.12 and 6.2.4 for named
-- expressions and comprehensions).
use Rattle.std.specs.Prelude.{ℕ, ◌==◌, ◌-◌, Bool, true, false, not, ◌&&◌, List, [], ◌∷◌, length, take, drop, filter, Option, None, Some, slice_get, if◌then◌else◌}
use Rattle.std.specs.Option.{is_some, option_map}
use Rattle.py_base.specs.declared.ids.NodeId.{NodeId}
use Rattle.py_base.specs.declared.node.Node.{Node}
use Rattle.py_base.specs.declared.node.NodeKind.{NodeKind}
use Rattle.py_base.specs.declared.node.NodeKind.TheVariants as kinds
use Rattle.py_base.specs.Nodes.{kind_at, parts_at}
use Rattle.py_base.specs.Tree.{Arena}
use Rattle.node_shapes.specs.declared.outward.Step.{Step}
use Rattle.node_shapes.specs.declared.targets.Target.{Target}
use Rattle.node_shapes.specs.declared.targets.Target.TheVariants as targets
use Rattle.node_shapes.specs.declared.patterns.Pattern.{Pattern}
use Rattle.node_shapes.specs.declared.patterns.Pattern.TheVariants as patterns
use Rattle.node_shapes.specs.declared.part_uses.PartUse.{PartUse}
use Rattle.node_shapes.specs.declared.part_uses.PartUse.TheVariants as uses
use Rattle.node_shapes.specs.Kinds.{is_def, is_class, is_match, is_async}
use Rattle.node_shapes.specs.Targets.{target}
use Rattle.node_shapes.specs.Patterns.{pattern}
use Rattle.node_shapes.specs.declared.parameters.ParameterForm.TheVariants as forms
use Rattle.node_shapes.specs.Entries.{entries_of}
use Rattle.node_shapes.specs.Parameters.{parameter_by}
use Rattle.node_shapes.specs.Outward.{outward, first_around}
use Rattle.node_shapes.specs.Uses.{use_at, inheriting, deciding, is_pattern, in_pattern_string}
use Rattle.binding_sources.specs.declared.sources.Part.{Part}
use Rattle.binding_sources.specs.declared.sources.Handing.{Handing}
use Rattle.binding_sources.specs.declared.sources.Handing.TheVariants as handings
use Rattle.binding_sources.specs.declared.sources.Source.{Source}
use Rattle.binding_sources.specs.declared.sources.Source.TheVariants as source

-- `async` stands around a header
abbrev pub is_asynchronous : List Step → Bool
is_asynchronous [] = false
is_asynchronous (s ∷ ss) = is_async s.kind

-- a part of the node around, and the value of one
abbrev pub nth_part : List Node → Step → ℕ → Option NodeId
nth_part nodes s i = slice_get (parts_at nodes s.around) i

abbrev pub of_part : (NodeId → Source) → Option NodeId → Option Source
of_part give None = None
of_part give (Some p) = Some (give p)

abbrev pub iterated : Bool → NodeId → Source
iterated true e = source.AsyncIterated e
iterated false e = source.Iterated e

abbrev pub entered : Bool → NodeId → Source
entered true e = source.AsyncEntered e
entered false e = source.Entered e

-- a part that is a parameter and no mark
abbrev pub is_parameter : List Node → NodeId → Bool
is_parameter nodes p = is_some (parameter_by forms.Plain p (kind_at nodes p) (parts_at nodes p))

-- which parameter a part of a def's brackets or of a lambda is, marks not counted: its place in `parameters_of` of the def or the lambda
abbrev pub parameter : List Node → Step → NodeId → Source
parameter nodes s function = source.Parameter function (length (filter (is_parameter nodes) (take s.part (parts_at nodes s.around))))

-- A parameter that is more than its name stands in the brackets of a def, or in a lambda.
abbrev pub parameter_in : List Node → NodeKind → Step → List Step → Option Source
parameter_in nodes kinds.Lambda s ss = Some (parameter nodes s s.around)
parameter_in nodes kinds.Parameters s ss = of_part (parameter nodes s) (first_around is_def ss)
parameter_in nodes kind s ss = None

abbrev pub parameter_along : List Node → List Step → Option Source
parameter_along nodes [] = None
parameter_along nodes (s ∷ ss) = parameter_in nodes s.kind s ss

-- WHAT THE NODE THAT BINDS A PART GIVES IT; an annotation alone gives nothing, and of type parameters and `type` statements nothing is known.
abbrev pub given_by : List Node → NodeKind → Step → List Step → Option Source
given_by nodes kinds.Assign s ss = of_part source.Value (nth_part nodes s (s.parts - 1))
given_by nodes kinds.AnnotatedAssign s ss = of_part source.Value (nth_part nodes s 2)
given_by nodes kinds.AugmentedAssign s ss = Some (source.Augmented s.around)
given_by nodes kinds.Named s ss = of_part source.Value (nth_part nodes s 1)
given_by nodes kinds.For s ss = of_part (iterated (is_asynchronous ss)) (nth_part nodes s 1)
given_by nodes kinds.ComprehensionFor s ss = of_part source.Iterated (nth_part nodes s 1)
given_by nodes kinds.AsyncComprehensionFor s ss = of_part source.AsyncIterated (nth_part nodes s 1)
given_by nodes kinds.WithItem s ss = of_part (entered (is_asynchronous (drop 1 ss))) (nth_part nodes s 0)
given_by nodes kinds.Except s ss = of_part source.Caught (nth_part nodes s 0)
given_by nodes kinds.ExceptStar s ss = of_part source.Caught (nth_part nodes s 0)
given_by nodes kinds.Case s ss = of_part source.Subject (first_around is_match ss)
given_by nodes kinds.Import s ss = of_part source.Imported (nth_part nodes s s.part)
given_by nodes kinds.ImportFrom s ss = of_part source.Imported (nth_part nodes s s.part)
given_by nodes kinds.Alias s ss = Some (source.Imported s.around)
given_by nodes kinds.Def s ss = of_part source.Def (first_around is_def ss)
given_by nodes kinds.Class s ss = of_part source.Class (first_around is_class ss)
given_by nodes kinds.Lambda s ss = parameter_in nodes kinds.Lambda s ss
given_by nodes kinds.Parameters s ss = parameter_in nodes kinds.Parameters s ss
given_by nodes kinds.Parameter s ss = parameter_along nodes ss
given_by nodes kinds.AnnotatedParameter s ss = parameter_along nodes ss
given_by nodes kinds.StarParameter s ss = parameter_along nodes ss
given_by nodes kinds.DoubleStarParameter s ss = parameter_along nodes ss
given_by nodes kinds.Del s ss = Some source.Removed
given_by nodes kinds.TypeAlias s ss = Some source.Unknown
given_by nodes kinds.TypeParameters s ss = Some source.Unknown
given_by nodes kinds.TypeParameter s ss = Some source.Unknown
given_by nodes kinds.StarTypeParameter s ss = Some source.Unknown
given_by nodes kinds.DoubleStarTypeParameter s ss = Some source.Unknown
given_by nodes kind s ss = None

-- A list of targets gives each its part of what it is bound to; within a list of patterns, or of what isn't known, nothing is known.
abbrev pub is_removed : Source → Bool
is_removed source.Removed = true
is_removed _ = false

abbrev pub is_undivided : Source → Bool
is_undivided (source.Subject m) = true
is_undivided source.Unknown = true
is_undivided _ = false

-- a starred target, and one in the parts of a pattern
abbrev pub unknown_unless_removed : Source → Source
unknown_unless_removed given = if is_removed given then source.Removed else source.Unknown

abbrev pub part_in : Part → Source → Source
part_in part given = if is_removed given then source.Removed else (if is_undivided given then source.Unknown else source.Part part)

abbrev pub through : Handing → Source → Source
through handings.Whole given = given
through (handings.Part part) given = part_in part given
through handings.Unknown given = unknown_unless_removed given

abbrev pub entry_part : List Node → Step → Handing
entry_part nodes s = handings.Part (record { list = s.around; index = s.part; count = length (entries_of nodes s.around) })

-- WHAT A NODE THAT IS BOUND HANDS ON to its parts: brackets around one and `as` what they are bound to
abbrev pub handing_by : List Node → NodeKind → Step → Handing
handing_by nodes kinds.Round s = if s.parts == 1 then handings.Whole else entry_part nodes s
handing_by nodes kinds.Square s = entry_part nodes s
handing_by nodes kinds.Entries s = entry_part nodes s
handing_by nodes kinds.Targets s = entry_part nodes s
handing_by nodes kinds.AsPattern s = handings.Whole
handing_by nodes kinds.DottedName s = handings.Whole
handing_by nodes kind s = handings.Unknown

abbrev pub handing : List Node → Step → Handing
handing nodes s = handing_by nodes s.kind s

-- through all the steps that hand on
abbrev pub handed_through : List Node → List Step → Option Source → Option Source
handed_through nodes [] given = given
handed_through nodes (s ∷ ss) given = option_map (through (handing nodes s)) (handed_through nodes ss given)

-- whether the use binds, without a value too
abbrev pub is_binding : PartUse → Bool
is_binding uses.Bound = true
is_binding uses.Augmented = true
is_binding uses.Annotated = true
is_binding uses.TypeName = true
is_binding uses.Deleted = true
is_binding _ = false

abbrev pub given : List Node → List Step → Option Source
given nodes [] = None
given nodes (s ∷ ss) = if is_binding (use_at s) then given_by nodes s.kind s ss else None

abbrev pub source_along : List Node → List Step → Option Source
source_along nodes way = handed_through nodes (inheriting way) (given nodes (deciding way))

-- a target, or a list of targets
abbrev pub is_target : Target → Bool
is_target (targets.Starred t) = false
is_target targets.NoTarget = false
is_target t = true

-- in a pattern names alone are bound, but for `_`
abbrev pub is_capture : Pattern → Bool
is_capture patterns.Capture = true
is_capture p = false

abbrev pub is_bindable : Arena → NodeId → Bool → Bool
is_bindable a n true = is_capture (pattern a n)
is_bindable a n false = is_target (target a.nodes n)

-- THE SOURCE OF A BOUND NODE: a name, an attribute or a subscript that is a target, a name that a pattern captures, and a list or a group of
-- targets, whose parts name it; none where the node is bound nowhere, gets no value, or stands in the strings of a pattern
abbrev pub source_of : Arena → NodeId → Option Source
source_of a n =
    let way = outward a.nodes n in
    if not (in_pattern_string way) && is_bindable a n (is_pattern (deciding way)) then source_along a.nodes way else None
