-- The occurrences of names in a module: where a name stands, what it is there for, and the scopes around it (Python 3.12 language
-- reference, 4.2.1, "Binding of names"; 7.12 and 7.13 for `global` and `nonlocal`; 6.12 for named expressions; 8.6 for patterns).
use Rattle.std.specs.Prelude.{ℕ, zero, suc, ◌==◌, Bool, true, false, not, ◌&&◌, ◌||◌, Option, Some, None, List, [], ◌∷◌, ◌++◌, map, length, filter_map, slice_get, bytes_eq, codes, if◌then◌else◌}
use Rattle.std.specs.List.{list_any}
use Rattle.py_base.specs.declared.ids.NodeId.{NodeId}
use Rattle.py_base.specs.declared.ids.NameId.{NameId}
use Rattle.py_base.specs.declared.node.NodeKind.{NodeKind}
use Rattle.py_base.specs.declared.node.Node.{Node}
use Rattle.py_base.specs.declared.language_names.TheConstants.{BUILTIN_NAMES}
use Rattle.py_base.specs.Nodes as shapes
use Rattle.py_base.specs.Nodes.{span_at, parts_at}
use Rattle.py_base.specs.declared.node.Word.{Word}
use Rattle.py_base.specs.Tree.{Arena, name_at}
use Rattle.py_scopes.specs.declared.way.Step.{Step}
use Rattle.py_scopes.specs.declared.scope.Scope.{Scope}
use Rattle.py_scopes.specs.declared.occurrence.Role.{Role}
use Rattle.py_scopes.specs.declared.occurrence.Role.TheVariants as roles
use Rattle.py_scopes.specs.declared.roles.NameRole.{NameRole}
use Rattle.py_scopes.specs.declared.roles.NameRole.TheVariants as name_roles
use Rattle.py_scopes.specs.declared.occurrence.Star.{Star}
use Rattle.py_scopes.specs.declared.occurrence.Annotation.{Annotation}
use Rattle.py_scopes.specs.declared.occurrence.Occurrence.{Occurrence}
use Rattle.py_scopes.specs.Kinds.{binds_part, hands_on, spells_part, is_dotted, is_name, is_attribute, is_round, is_strings, is_case, is_named, is_global, is_nonlocal, is_decorator, is_parameters, is_long_parameter, makes_member, bound_as, is_annotated, star_of, is_def_header}
use Rattle.py_scopes.specs.Scopes.{scopes_along, kind_around, from_first, takes_named}
use Rattle.py_scopes.specs.Way.{way_out}

-- the step passes, if there is one
abbrev pub of_kind : (NodeKind → Bool) → Option Step → Bool
of_kind passes None = false
of_kind passes (Some s) = passes s.kind

-- WHAT BINDS a place: the first node outward that binds the part that leads in, through nodes that hand on. Of a dotted name that is
-- imported its first name is bound.
abbrev pub binder : List Step → Option Step
binder [] = None
binder (s ∷ ss) =
    if binds_part s.kind s.part s.parts then Some s else (if hands_on s.kind s.part then binder ss else None)

abbrev pub only_spells : List Step → Bool
only_spells [] = false
only_spells (s ∷ ss) = spells_part s.kind s.part || (is_dotted s.kind && only_spells ss)

-- within strings that are a pattern, whose fields aren't evaluated
abbrev pub in_pattern_string : List Step → Bool
in_pattern_string [] = false
in_pattern_string (s ∷ ss) = (is_strings s.kind && of_kind is_case (binder ss)) || in_pattern_string ss

-- The name counts as one: it doesn't only spell, stands in no pattern's strings, and is no `_` of a pattern.
abbrev pub counts : Bool → List Step → Bool
counts underscore way = not (only_spells way) && not (in_pattern_string way) && not (underscore && of_kind is_case (binder way))

-- brackets around one expression
abbrev pub is_group : Step → Bool
is_group s = is_round s.kind && s.parts == 1

-- the way from the target `p.m`, its own step to `p` included, where the place is its `p`; brackets around `p` are seen through
abbrev pub target_way : List Step → List Step
target_way [] = []
target_way (s ∷ ss) = if is_attribute s.kind then s ∷ ss else (if is_group s then target_way ss else [])

abbrev pub node_around : List Step → NodeId
node_around [] = record { 0 = 0 }
node_around (s ∷ ss) = s.around

-- the binder of the target whose `p` the place is
abbrev pub target_binder : List Step → Option Step
target_binder [] = None
target_binder (s ∷ ss) = if of_kind makes_member (binder ss) then binder ss else None

-- the statement of the decorator that the place is, alone or in brackets
abbrev pub decorated : List Step → Option NodeId
decorated [] = None
decorated (s ∷ ss) = if is_decorator s.kind then Some (node_around ss) else (if is_group s then decorated ss else None)

-- the first parameter of a def, where that one has no star
abbrev pub is_first_part : List Step → Bool
is_first_part [] = false
is_first_part (s ∷ ss) = is_parameters s.kind && s.part == 0

abbrev pub is_first_parameter : List Step → Bool
is_first_parameter [] = false
is_first_parameter (s ∷ ss) = is_first_part (s ∷ ss) || (is_long_parameter s.kind && s.part == 0 && is_first_part ss)

-- A name is its number: equal names of a tree have one.
abbrev pub word_name : Word → Option NameId
word_name w = shapes.name_word w

abbrev pub text_of : List (List ℕ) → NameId → List ℕ
text_of names n = name_at names n.0

-- the name that a node's word is
abbrev pub name_of : Arena → NodeId → Option NameId
name_of a id = shapes.name_of a.nodes id

abbrev pub name_if : Arena → Option NodeId → Option NameId
name_if a None = None
name_if a (Some id) = name_of a id

-- the target `p.m`, its `m` being the name
abbrev pub object_of : NodeId → Option NameId → Role
object_of target None = roles.Read
object_of target (Some m) = roles.Object target m

abbrev pub read_by : Arena → List Step → Option Step → Role
read_by a target None = roles.Read
read_by a target (Some b) = object_of (node_around target) (name_of a (node_around target))

abbrev pub static_or : Option NodeId → Role → Role
static_or None other = other
static_or (Some d) other = roles.Static d

abbrev pub static_at : Bool → List Step → Option NodeId
static_at true way = decorated way
static_at false way = None

-- what a name that isn't bound here is there for
abbrev pub read_role : Arena → Bool → List Step → Role
read_role a staticmethod way =
    if is_global (kind_around way) then roles.Global
    else (if is_nonlocal (kind_around way) then roles.Nonlocal
    else static_or (static_at staticmethod way) (read_by a (target_way way) (target_binder (target_way way))))

-- the first name of the header of a def on the way
abbrev pub def_name : Arena → List Step → Option NameId
def_name a [] = None
def_name a (s ∷ ss) = if is_def_header s.kind then name_if a (slice_get (parts_at a.nodes s.around) 0) else def_name a ss

abbrev pub is_init : Arena → Option NameId → Bool
is_init a None = false
is_init a (Some n) = bytes_eq (text_of a.names n) (codes "__init__")

abbrev pub role_by : Arena → Bool → List Step → Option Step → Role
role_by a staticmethod way None = read_role a staticmethod way
role_by a staticmethod way (Some b) = if is_first_parameter way then roles.FirstParameter (is_init a (def_name a way)) else roles.Binding

-- WHAT A NAME IS THERE FOR
abbrev pub role_of : Arena → Bool → List Step → Role
role_of a staticmethod way = role_by a staticmethod way (binder way)

-- what binds the name, or the target `p.m` whose `p` it is
abbrev pub some_binder : List Step → Option Step → Option Step
some_binder way None = target_binder (target_way way)
some_binder way (Some b) = Some b

abbrev pub effect_by : Option Step → NameRole
effect_by None = name_roles.Read
effect_by (Some b) = bound_as b.kind b.parts

abbrev pub annotation_of : Arena → Star → Option NodeId → Option Annotation
annotation_of a star None = None
annotation_of a star (Some id) = Some (record { node = id; from = (span_at a.nodes id).from; star = star })

abbrev pub annotation_by : Arena → Option Step → Option Annotation
annotation_by a None = None
annotation_by a (Some b) = if is_annotated b.kind b.parts then annotation_of a (star_of b.kind) (slice_get (parts_at a.nodes b.around) 1) else None

-- A named expression binds in the innermost scope that isn't a comprehension's (6.12).
abbrev pub scopes_for : List Step → List Scope
scopes_for way = if of_kind is_named (binder way) then from_first takes_named (scopes_along way) else scopes_along way

abbrev pub is_builtin : List ℕ → Bool
is_builtin text = list_any (bytes_eq text) (map (λ n. n.now) BUILTIN_NAMES)

abbrev pub occurrence_on : Arena → NodeId → NameId → List Step → Occurrence
occurrence_on a id name way = record {
  node = id;
  name = name;
  role = role_of a (bytes_eq (text_of a.names name) (codes "staticmethod")) way;
  scopes = scopes_for way;
  effect = effect_by (some_binder way (binder way));
  annotation = annotation_by a (some_binder way (binder way));
}

abbrev pub occurrence_if : Arena → NodeId → List Step → Option NameId → Option Occurrence
occurrence_if a id way None = None
occurrence_if a id way (Some n) =
    if counts (bytes_eq (text_of a.names n) (codes "_")) way then Some (occurrence_on a id n way) else None

abbrev pub leaf_name : Option Node → Option NameId
leaf_name None = None
leaf_name (Some n) = if is_name n.kind then word_name n.word else None

-- THE OCCURRENCE AT A NODE
abbrev pub occurrence_at : Arena → NodeId → Option Occurrence
occurrence_at a id = occurrence_if a id (way_out a.nodes id) (leaf_name (slice_get a.nodes id.0))

-- what a name is there for, as those see it who ask of it alone
abbrev pub seen_as : Role → NameRole → NameRole
seen_as roles.Binding effect = effect
seen_as (roles.FirstParameter init) effect = effect
seen_as roles.Global effect = name_roles.Global
seen_as roles.Nonlocal effect = name_roles.Nonlocal
seen_as _ effect = name_roles.Read

abbrev pub role_if : Option Occurrence → Option NameRole
role_if None = None
role_if (Some o) = Some (seen_as o.role o.effect)

-- THE ROLE OF THE NAME AT A NODE, if it is a name there
abbrev pub role_at : Arena → NodeId → Option NameRole
role_at a id = role_if (occurrence_at a id)

-- the first numbers of nodes
abbrev pub first_ids : ℕ → List NodeId
first_ids zero = []
first_ids (suc n) = first_ids n ++ record { 0 = n } ∷ []

abbrev pub node_ids : Arena → List NodeId
node_ids a = first_ids (length a.nodes)

-- ALL OCCURRENCES, by the numbers of their nodes
abbrev pub occurrences : Arena → List Occurrence
occurrences a = filter_map (occurrence_at a) (node_ids a)
