-- What is asked of the body of a function or a class (Python 3.12 language reference, 6.2.9 for `yield`, 8.7; library reference, "enum", for the
-- names of members, of which the typing specification's "Enumerations" takes the plain assignments).
use Rattle.std.specs.Prelude.{ℕ, ◌==◌, Bool, true, false, not, ◌&&◌, List, [], ◌∷◌, ◌++◌, fold, filter_map, Option, None, Some, if◌then◌else◌}
use Rattle.std.specs.List.{list_any, list_all}
use Rattle.py_base.specs.declared.ids.NameId.{NameId}
use Rattle.py_base.specs.Tree.{Arena, name_at}
use Rattle.py_base.specs.declared.ids.NodeId.{NodeId}
use Rattle.py_base.specs.declared.node.Node.{Node}
use Rattle.py_base.specs.declared.node.NodeKind.{NodeKind}
use Rattle.py_base.specs.declared.node.NodeKind.TheVariants as kinds
use Rattle.py_base.specs.Nodes.{kind_at}
use Rattle.node_shapes.specs.declared.definitions.ClassDefinition.{ClassDefinition}
use Rattle.node_shapes.specs.declared.targets.Target.{Target}
use Rattle.node_shapes.specs.declared.targets.Target.TheVariants as targets
use Rattle.node_shapes.specs.Kinds.{is_yield}
use Rattle.node_shapes.specs.Around.{function_around}
use Rattle.node_shapes.specs.Definitions.{class_definition}
use Rattle.node_shapes.specs.Items.{nodes_of}
use Rattle.node_shapes.specs.Statements.{assigned_targets, statements_of}
use Rattle.node_shapes.specs.Targets.{target}

abbrev pub is_that : NodeId → Option NodeId → Bool
is_that n None = false
is_that n (Some m) = n.0 == m.0

-- WHETHER THE BODY OF A DEF OR A LAMBDA HAS A `yield`, in its classes and comprehensions too and in no function within
abbrev pub has_yield : List Node → NodeId → Bool
has_yield nodes n = list_any (λ y. is_that n (function_around nodes y)) (nodes_of is_yield nodes)

-- `...` without brackets, strings, f-strings among them; error lines are passed over
abbrev pub is_stub : NodeKind → Bool
is_stub kinds.Ellipsis = true
is_stub kinds.Strings = true
is_stub kinds.BytesStrings = true
is_stub kinds.Fault = true
is_stub _ = false

abbrev pub is_stub_at : List Node → NodeId → Bool
is_stub_at nodes s = is_stub (kind_at nodes s)

-- WHETHER A BODY IS ONLY `...` AND STRINGS
abbrev pub is_only_stubs : List Node → NodeId → Bool
is_only_stubs nodes body = list_all (is_stub_at nodes) (statements_of nodes body)

abbrev pub name_in : Target → Option NameId
name_in (targets.Name m) = Some m
name_in _ = None

abbrev pub only_name : List Node → List NodeId → Option NameId
only_name nodes (t ∷ []) = name_in (target nodes t)
only_name nodes ts = None

-- the name of a plain line `NAME = value`
abbrev pub line_name : List Node → NodeId → Option NameId
line_name nodes s = only_name nodes (assigned_targets nodes s)

-- `_` is 95
abbrev pub begins_low : List ℕ → Bool
begins_low [] = false
begins_low (c ∷ cs) = c == 95

abbrev pub begins_twice_low : List ℕ → Bool
begins_twice_low [] = false
begins_twice_low (c ∷ cs) = (c == 95) && begins_low cs

abbrev pub ends_low : List ℕ → Bool
ends_low [] = false
ends_low (c ∷ []) = c == 95
ends_low (c ∷ d ∷ more) = ends_low (d ∷ more)

-- it doesn't begin with `__`, and doesn't both begin and end with `_`
abbrev pub is_member_name : List ℕ → Bool
is_member_name text = not (begins_twice_low text) && not (begins_low text && ends_low text)

abbrev pub member_in : Arena → Option NameId → Option NameId
member_in a None = None
member_in a (Some m) = if is_member_name (name_at a.names m.0) then Some m else None

-- the name that a line makes a member
abbrev pub member_name : Arena → NodeId → Option NameId
member_name a s = member_in a (line_name a.nodes s)

abbrev pub with_once : List NameId → NameId → List NameId
with_once ms m = if list_any (λ (k : NameId). m.0 == k.0) ms then ms else ms ++ m ∷ []

abbrev pub members_by : Arena → Option ClassDefinition → List NameId
members_by a None = []
members_by a (Some class) = fold with_once [] (filter_map (member_name a) (statements_of a.nodes class.body))

-- THE NAMES THAT ARE MEMBERS of a class statement that is an enum: those of plain lines directly in its body, each once, in the order of the
-- text. Whether the class is an enum isn't asked.
abbrev pub enum_members : Arena → NodeId → List NameId
enum_members a n = members_by a (class_definition a.nodes n)
