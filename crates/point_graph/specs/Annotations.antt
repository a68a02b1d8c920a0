-- The forms in which the nodes of a tree run, where calls of `cast` are known: its first argument is an annotation and doesn't run
-- (Python 3.12 language reference, section 6.3.4, for calls; library reference, `typing.cast`).
use Rattle.std.specs.Prelude.{Bool, true, false, List, ◌∷◌, map, slice_index_or, ◌&&◌, if◌then◌else◌}
use Rattle.py_base.specs.declared.ids.NodeId.{NodeId}
use Rattle.py_base.specs.declared.node.Node.{Node}
use Rattle.py_base.specs.declared.node.NodeKind.{NodeKind}
use Rattle.py_base.specs.declared.node.NodeKind.TheVariants as kinds
use Rattle.py_base.specs.Tree.{Arena}
use Rattle.flow_rows.specs.declared.form.Form.{Form}
use Rattle.flow_rows.specs.declared.form.Form.TheVariants as forms
use Rattle.py_base.specs.Nodes.{kind_at}
use Rattle.flow_forms.specs.Forms.{forms_of}

-- a plain argument: no star stands before it, and no keyword
abbrev pub is_plain : NodeKind → Bool
is_plain kinds.Starred = false
is_plain kinds.DoubleStarred = false
is_plain kinds.Keyword = false
is_plain kind = true

-- whether a node is marked as one that names `cast`
abbrev pub is_marked : List Bool → NodeId → Bool
is_marked casts n = slice_index_or casts n.0 false

-- the form of a node without its annotation, if it is a call of `cast`
abbrev pub without_annotation : List Node → List Bool → Form → Form
without_annotation nodes casts (forms.Call callee (p ∷ more)) =
    if is_marked casts callee && is_plain (kind_at nodes p) then forms.Call callee more else forms.Call callee (p ∷ more)
without_annotation nodes casts form = form

-- THE FORMS IN WHICH THE NODES RUN, in the order of their numbers
abbrev pub run_forms : Arena → List Bool → List Form
run_forms a casts = map (without_annotation a.nodes casts) (forms_of a)
