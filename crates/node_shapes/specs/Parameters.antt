-- The parameters of defs and lambdas (Python 3.12 language reference, 8.7 and 6.14): `/` and a bare `*` are marks among them and none
-- themselves.
use Rattle.std.specs.Prelude.{Bool, true, false, List, [], ◌∷◌, ◌++◌, Option, None, Some, if◌then◌else◌}
use Rattle.std.specs.List.{list_any}
use Rattle.std.specs.Option.{option_to_list}
use Rattle.py_base.specs.declared.ids.NodeId.{NodeId}
use Rattle.py_base.specs.declared.node.Node.{Node}
use Rattle.py_base.specs.declared.node.NodeKind.{NodeKind}
use Rattle.py_base.specs.declared.node.NodeKind.TheVariants as kinds
use Rattle.py_base.specs.Nodes.{kind_at, parts_at}
use Rattle.node_shapes.specs.Parts.{but_last}
use Rattle.node_shapes.specs.declared.parameters.Parameter.{Parameter}
use Rattle.node_shapes.specs.declared.parameters.ParameterForm.{ParameterForm}
use Rattle.node_shapes.specs.declared.parameters.ParameterForm.TheVariants as forms

abbrev pub is_slash : NodeKind → Bool
is_slash kinds.Slash = true
is_slash _ = false

abbrev pub is_star : NodeKind → Bool
is_star kinds.BareStar = true
is_star kinds.StarParameter = true
is_star _ = false

abbrev pub plain : ParameterForm → NodeId → Option NodeId → Option NodeId → Option Parameter
plain form name annotation default = Some (record { name = name; form = form; annotation = annotation; default = default })

-- a part that is a parameter; the form is that of one without a star
abbrev pub parameter_by : ParameterForm → NodeId → NodeKind → List NodeId → Option Parameter
parameter_by form p kinds.Name parts = plain form p None None
parameter_by form p kinds.Parameter (name ∷ default ∷ []) = plain form name None (Some default)
parameter_by form p kinds.AnnotatedParameter (name ∷ annotation ∷ []) = plain form name (Some annotation) None
parameter_by form p kinds.AnnotatedParameter (name ∷ annotation ∷ default ∷ []) = plain form name (Some annotation) (Some default)
parameter_by form p kinds.StarParameter (name ∷ []) = plain forms.Star name None None
parameter_by form p kinds.StarParameter (name ∷ annotation ∷ []) = plain forms.Star name (Some annotation) None
parameter_by form p kinds.DoubleStarParameter (name ∷ []) = plain forms.DoubleStar name None None
parameter_by form p kinds.DoubleStarParameter (name ∷ annotation ∷ []) = plain forms.DoubleStar name (Some annotation) None
parameter_by form p kind parts = None

-- what stands before a part and behind it says how one without a star is filled
abbrev pub has_kind : List Node → (NodeKind → Bool) → List NodeId → Bool
has_kind nodes passes parts = list_any (λ p. passes (kind_at nodes p)) parts

abbrev pub filled_by : Bool → Bool → ParameterForm
filled_by has_slash_behind has_star_before =
    if has_slash_behind then forms.PlaceOnly else (if has_star_before then forms.KeyOnly else forms.Plain)

abbrev pub filled : List Node → List NodeId → List NodeId → ParameterForm
filled nodes before behind = filled_by (has_kind nodes is_slash behind) (has_kind nodes is_star before)

abbrev pub parameters_among : List Node → List NodeId → List NodeId → List Parameter
parameters_among nodes before [] = []
parameters_among nodes before (p ∷ behind) =
    option_to_list (parameter_by (filled nodes before behind) p (kind_at nodes p) (parts_at nodes p)) ++ parameters_among nodes (before ++ p ∷ []) behind

-- the parts among which parameters stand: all those of the brackets of a def, and all but the body of a lambda
abbrev pub places : NodeKind → List NodeId → List NodeId
places kinds.Parameters parts = parts
places kinds.Lambda parts = but_last parts
places _ parts = []

-- THE PARAMETERS of the brackets of a def, or of a lambda, in the order of the text
abbrev pub parameters : List Node → NodeId → List Parameter
parameters nodes n = parameters_among nodes [] (places (kind_at nodes n) (parts_at nodes n))
