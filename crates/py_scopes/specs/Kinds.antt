-- What a form does with the names in its parts: which parts it binds, to which it hands on that they are bound, which only spell a name
-- (Python 3.12 language reference, 4.2.1, "Binding of names"; 8.6 for patterns; 7.11 for imports).
use Rattle.std.specs.Prelude.{ℕ, ◌==◌, ◌-◌, nat_lt, Bool, true, false, not, ◌&&◌, if◌then◌else◌}
use Rattle.py_base.specs.declared.node.NodeKind.{NodeKind}
use Rattle.py_base.specs.declared.node.NodeKind.TheVariants as kinds
use Rattle.py_scopes.specs.declared.roles.NameRole.{NameRole}
use Rattle.py_scopes.specs.declared.roles.NameRole.TheVariants as name_roles
use Rattle.py_scopes.specs.declared.occurrence.Star.{Star}
use Rattle.py_scopes.specs.declared.occurrence.Star.TheVariants as stars

-- The i-th of n parts is bound by a node of the kind. Where such a part is no name, what is in it is bound only as far as it hands on.
abbrev pub binds_part : NodeKind → ℕ → ℕ → Bool
binds_part kinds.Assign i n = nat_lt i (n - 1)
binds_part kinds.AnnotatedAssign i n = i == 0
binds_part kinds.AugmentedAssign i n = i == 0
binds_part kinds.Named i n = i == 0
binds_part kinds.For i n = i == 0
binds_part kinds.ComprehensionFor i n = i == 0
binds_part kinds.AsyncComprehensionFor i n = i == 0
binds_part kinds.WithItem i n = i == 1
binds_part kinds.Del i n = true
binds_part kinds.Def i n = i == 0
binds_part kinds.Class i n = i == 0
binds_part kinds.TypeAlias i n = i == 1
binds_part kinds.Import i n = true
binds_part kinds.ImportFrom i n = not (i == 0)
binds_part kinds.Alias i n = i == 1
binds_part kinds.Except i n = (i == 1) && (n == 3)
binds_part kinds.ExceptStar i n = (i == 1) && (n == 3)
binds_part kinds.Case i n = i == 0
binds_part kinds.Lambda i n = nat_lt i (n - 1)
binds_part kinds.Parameters i n = true
binds_part kinds.Parameter i n = i == 0
binds_part kinds.AnnotatedParameter i n = i == 0
binds_part kinds.StarParameter i n = i == 0
binds_part kinds.DoubleStarParameter i n = i == 0
binds_part kinds.TypeParameters i n = true
binds_part kinds.TypeParameter i n = i == 0
binds_part kinds.StarTypeParameter i n = true
binds_part kinds.DoubleStarTypeParameter i n = true
binds_part _ i n = false

-- What holds targets or patterns hands on to its i-th part that it is bound, and a dotted name that is imported to its first.
abbrev pub hands_on : NodeKind → ℕ → Bool
hands_on kinds.Entries i = true
hands_on kinds.Targets i = true
hands_on kinds.Round i = true
hands_on kinds.Square i = true
hands_on kinds.Starred i = true
hands_on kinds.Patterns i = true
hands_on kinds.OrPattern i = true
hands_on kinds.AsPattern i = true
hands_on kinds.StarPattern i = true
hands_on kinds.MappingPattern i = true
hands_on kinds.PatternItem i = true
hands_on kinds.DoubleStarPattern i = true
hands_on kinds.ClassPattern i = not (i == 0)
hands_on kinds.KeywordPattern i = i == 1
hands_on kinds.DottedName i = i == 0
hands_on _ i = false

-- The i-th part only spells: a module's name or one in it, that of an argument, a class pattern's keyword, the word `type`.
abbrev pub spells_part : NodeKind → ℕ → Bool
spells_part kinds.Keyword i = i == 0
spells_part kinds.KeywordPattern i = i == 0
spells_part kinds.ImportFrom i = i == 0
spells_part kinds.ImportAll i = true
spells_part kinds.Alias i = i == 0
spells_part kinds.TypeAlias i = i == 0
spells_part kinds.DottedName i = not (i == 0)
spells_part _ i = false

-- the parts of a dotted name spell where it does
abbrev pub is_dotted : NodeKind → Bool
is_dotted kinds.RelativeSource = true
is_dotted kinds.DottedName = true
is_dotted _ = false

abbrev pub is_name : NodeKind → Bool
is_name kinds.Name = true
is_name _ = false

abbrev pub is_attribute : NodeKind → Bool
is_attribute kinds.Attribute = true
is_attribute _ = false

abbrev pub is_round : NodeKind → Bool
is_round kinds.Round = true
is_round _ = false

abbrev pub is_strings : NodeKind → Bool
is_strings kinds.Strings = true
is_strings _ = false

abbrev pub is_for : NodeKind → Bool
is_for kinds.ComprehensionFor = true
is_for kinds.AsyncComprehensionFor = true
is_for _ = false

-- what a list of type parameters belongs to
abbrev pub takes_types : NodeKind → Bool
takes_types kinds.DefStatement = true
takes_types kinds.ClassStatement = true
takes_types kinds.TypeAlias = true
takes_types _ = false

-- the headers among whose parts it stands
abbrev pub takes_list : NodeKind → Bool
takes_list kinds.Def = true
takes_list kinds.Class = true
takes_list _ = false

abbrev pub is_async : NodeKind → Bool
is_async kinds.Async = true
is_async _ = false

abbrev pub is_type_list : NodeKind → Bool
is_type_list kinds.TypeParameters = true
is_type_list _ = false

abbrev pub is_case : NodeKind → Bool
is_case kinds.Case = true
is_case _ = false

abbrev pub is_named : NodeKind → Bool
is_named kinds.Named = true
is_named _ = false

abbrev pub is_global : NodeKind → Bool
is_global kinds.Global = true
is_global _ = false

abbrev pub is_nonlocal : NodeKind → Bool
is_nonlocal kinds.Nonlocal = true
is_nonlocal _ = false

abbrev pub is_decorator : NodeKind → Bool
is_decorator kinds.Decorator = true
is_decorator _ = false

abbrev pub is_parameters : NodeKind → Bool
is_parameters kinds.Parameters = true
is_parameters _ = false

-- a parameter without a star that has more than its name
abbrev pub is_long_parameter : NodeKind → Bool
is_long_parameter kinds.Parameter = true
is_long_parameter kinds.AnnotatedParameter = true
is_long_parameter _ = false

-- What binds a target `p.m`: a value in a pattern is no target, and `del` makes no member.
abbrev pub makes_member : NodeKind → Bool
makes_member kinds.Del = false
makes_member kinds.Case = false
makes_member _ = true

-- an annotation alone is two parts
abbrev pub annotated_as : ℕ → NameRole
annotated_as n = if n == 2 then name_roles.Annotated else name_roles.Bound

-- the role of a name, or of a target, that a node of the kind with n parts binds (7.2, 7.2.1 and 7.2.2, 7.5, 7.14, 8.10)
abbrev pub bound_as : NodeKind → ℕ → NameRole
bound_as kinds.Del n = name_roles.Deleted
bound_as kinds.AnnotatedAssign n = annotated_as n
bound_as kinds.AugmentedAssign n = name_roles.Augmented
bound_as kinds.TypeAlias n = name_roles.TypeName
bound_as kinds.TypeParameters n = name_roles.TypeName
bound_as kinds.TypeParameter n = name_roles.TypeName
bound_as kinds.StarTypeParameter n = name_roles.TypeName
bound_as kinds.DoubleStarTypeParameter n = name_roles.TypeName
bound_as _ n = name_roles.Bound

-- `del` gives no value, nor does an annotation alone
abbrev pub gives_value : NameRole → Bool
gives_value name_roles.Bound = true
gives_value name_roles.Augmented = true
gives_value name_roles.TypeName = true
gives_value _ = false

abbrev pub is_augmented : NameRole → Bool
is_augmented name_roles.Augmented = true
is_augmented _ = false

-- the stars before a parameter
abbrev pub star_of : NodeKind → Star
star_of kinds.StarParameter = stars.Single
star_of kinds.DoubleStarParameter = stars.Double
star_of _ = stars.Plain

abbrev pub is_def_header : NodeKind → Bool
is_def_header kinds.Def = true
is_def_header _ = false

-- the annotation of what is bound is the second of n parts
abbrev pub is_annotated : NodeKind → ℕ → Bool
is_annotated kinds.AnnotatedAssign n = true
is_annotated kinds.AnnotatedParameter n = true
is_annotated kinds.StarParameter n = n == 2
is_annotated kinds.DoubleStarParameter n = n == 2
is_annotated _ n = false
