-- The scopes around a place, the innermost first: the module, each class, def, lambda and comprehension, and each list of type parameters
-- (Python 3.12 language reference, 4.2.2, "Resolution of names"; 6.2.4, 6.14, 8.7, 8.8 and 8.10 for what stands outside of a form).
use Rattle.std.specs.Prelude.{ℕ, ◌-◌, ◌==◌, nat_lt, Bool, true, false, not, ◌&&◌, ◌||◌, List, [], ◌∷◌, drop, if◌then◌else◌}
use Rattle.py_base.specs.declared.ids.NodeId.{NodeId}
use Rattle.py_base.specs.declared.node.NodeKind.{NodeKind}
use Rattle.py_base.specs.declared.node.NodeKind.TheVariants as kinds
use Rattle.py_scopes.specs.declared.way.Step.{Step}
use Rattle.py_scopes.specs.declared.scope.ScopeKind.{ScopeKind}
use Rattle.py_scopes.specs.declared.scope.ScopeKind.TheVariants as scope
use Rattle.py_scopes.specs.declared.scope.Scope.{Scope}
use Rattle.py_scopes.specs.Kinds.{is_name}

-- A class, def, lambda or `type` statement stands in the scope of its type parameters; its own scope, if it has one, is inside of that. Both
-- are told by its node. Where no list of them is written, the place of that scope is still kept, and nothing is bound in it.
abbrev pub opened : NodeId → ScopeKind → List Scope → List Scope
opened node kind around = record { node = node; kind = kind } ∷ around

abbrev pub typed : Bool → NodeId → List Scope → List Scope
typed true node around = opened node scope.TypeParameters around
typed false node around = opened node scope.NoTypeParameters around

-- inside the own scope of the form whose type parameters are the innermost scope
abbrev pub owned : ScopeKind → List Scope → List Scope
owned kind [] = []
owned kind (s ∷ ss) = opened s.node kind (s ∷ ss)

-- outside of the innermost scope
abbrev pub outside : List Scope → List Scope
outside ss = drop 1 ss

-- Decorators stand outside of the statement, its block in its own scope, and its header goes on.
abbrev pub in_statement : ScopeKind → Step → NodeKind → List Scope → List Scope
in_statement kind s kinds.Decorator around = around
in_statement kind s kinds.Block around = opened s.around kind (typed s.generic s.around around)
in_statement kind s part around = typed s.generic s.around around

-- The name of a def or class stands outside of it, what is behind the colon in its own scope, all else behind the type parameters.
abbrev pub in_header : ScopeKind → NodeKind → List Scope → List Scope
in_header kind kinds.Name around = outside around
in_header kind kinds.Suite around = owned kind around
in_header kind part around = around

-- A lambda's body and the names of its parameters are in its own scope.
abbrev pub in_lambda : Step → List Scope → List Scope
in_lambda s around =
    if s.part == s.parts - 1 || is_name s.inner then opened s.around scope.Lambda (typed false s.around around) else typed false s.around around

-- whose parameter it is, by what stands around the parameter
abbrev pub taker : NodeKind → ScopeKind
taker kinds.Lambda = scope.Lambda
taker _ = scope.Def

abbrev pub kind_around : List Step → NodeKind
kind_around [] = kinds.Fault
kind_around (s ∷ ss) = s.kind

-- A parameter's name is in the own scope; its default stands outside of the type parameters too, its annotation behind them.
abbrev pub in_parameter : ScopeKind → ℕ → List Scope → List Scope
in_parameter kind i around = if i == 0 then owned kind around else outside around

abbrev pub in_annotated_parameter : ScopeKind → ℕ → List Scope → List Scope
in_annotated_parameter kind i around = if i == 0 then owned kind around else (if i == 1 then around else outside around)

abbrev pub in_star_parameter : ScopeKind → ℕ → List Scope → List Scope
in_star_parameter kind i around = if i == 0 then owned kind around else around

abbrev pub in_parameters : NodeKind → List Scope → List Scope
in_parameters kinds.Name around = owned scope.Def around
in_parameters part around = around

-- the word `type` and the name of a `type` statement stand outside
abbrev pub in_type_alias : Step → List Scope → List Scope
in_type_alias s around = if nat_lt 1 s.part then typed s.generic s.around around else around

-- Brackets with a `for` among them are a comprehension.
abbrev pub is_comprehension : Step → Bool
is_comprehension s = nat_lt s.first_for s.parts

abbrev pub in_brackets : Step → List Scope → List Scope
in_brackets s around = if is_comprehension s then opened s.around scope.Comprehension around else around

-- The iterable of the first `for` of a comprehension stands outside of it.
abbrev pub is_first_for : List Step → Bool
is_first_for [] = false
is_first_for (s ∷ ss) = s.part == s.first_for

abbrev pub in_for : Step → List Step → List Scope → List Scope
in_for s ss around = if s.part == 1 && is_first_for ss then outside around else around

-- the scopes around a part, where `around` are those around its node
abbrev pub scopes_inside : NodeKind → Step → List Step → List Scope → List Scope
scopes_inside kinds.Module s ss around = opened s.around scope.Module around
scopes_inside kinds.ClassStatement s ss around = in_statement scope.Class s s.inner around
scopes_inside kinds.DefStatement s ss around = in_statement scope.Def s s.inner around
scopes_inside kinds.Class s ss around = in_header scope.Class s.inner around
scopes_inside kinds.Def s ss around = in_header scope.Def s.inner around
scopes_inside kinds.Lambda s ss around = in_lambda s around
scopes_inside kinds.Parameters s ss around = in_parameters s.inner around
scopes_inside kinds.Parameter s ss around = in_parameter (taker (kind_around ss)) s.part around
scopes_inside kinds.AnnotatedParameter s ss around = in_annotated_parameter (taker (kind_around ss)) s.part around
scopes_inside kinds.StarParameter s ss around = in_star_parameter (taker (kind_around ss)) s.part around
scopes_inside kinds.DoubleStarParameter s ss around = in_star_parameter (taker (kind_around ss)) s.part around
scopes_inside kinds.TypeAlias s ss around = in_type_alias s around
scopes_inside kinds.ComprehensionFor s ss around = in_for s ss around
scopes_inside kinds.AsyncComprehensionFor s ss around = in_for s ss around
scopes_inside k s ss around = in_brackets s around

-- THE SCOPES AROUND what a way leads out from
abbrev pub scopes_along : List Step → List Scope
scopes_along [] = []
scopes_along (s ∷ ss) = scopes_inside s.kind s ss (scopes_along ss)

-- Two scopes are one where their node is and both or neither are of type parameters: a node has no other two.
abbrev pub is_of_types : ScopeKind → Bool
is_of_types scope.TypeParameters = true
is_of_types scope.NoTypeParameters = true
is_of_types _ = false

abbrev pub same_flag : Bool → Bool → Bool
same_flag true b = b
same_flag false b = not b

abbrev pub same_scope : Scope → Scope → Bool
same_scope s t = s.node.0 == t.node.0 && same_flag (is_of_types s.kind) (is_of_types t.kind)

-- the scope is the innermost of these
abbrev pub is_innermost : Scope → List Scope → Bool
is_innermost s [] = false
is_innermost s (t ∷ ts) = same_scope s t

-- from the first scope that passes outward
abbrev pub from_first : (ScopeKind → Bool) → List Scope → List Scope
from_first passes [] = []
from_first passes (s ∷ ss) = if passes s.kind then s ∷ ss else from_first passes ss

abbrev pub is_module : ScopeKind → Bool
is_module scope.Module = true
is_module _ = false

abbrev pub is_class : ScopeKind → Bool
is_class scope.Class = true
is_class _ = false

abbrev pub is_def : ScopeKind → Bool
is_def scope.Def = true
is_def _ = false

-- behind these no class is seen
abbrev pub hides_classes : ScopeKind → Bool
hides_classes scope.Def = true
hides_classes scope.Lambda = true
hides_classes scope.Comprehension = true
hides_classes _ = false

-- a named expression binds in the innermost of these
abbrev pub takes_named : ScopeKind → Bool
takes_named scope.Comprehension = false
takes_named scope.NoTypeParameters = false
takes_named _ = true

-- what stands in these and in no further one of them runs in their graph
abbrev pub has_graph : ScopeKind → Bool
has_graph scope.Module = true
has_graph scope.Def = true
has_graph scope.Lambda = true
has_graph _ = false

-- both stand in one graph
abbrev pub same_start : List Scope → List Scope → Bool
same_start [] ss = false
same_start (s ∷ ss) ts = is_innermost s ts

abbrev pub same_graph : List Scope → List Scope → Bool
same_graph ss ts = same_start (from_first has_graph ss) (from_first has_graph ts)
