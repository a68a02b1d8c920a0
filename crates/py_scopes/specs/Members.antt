-- The member symbols of a class: the names of its body, and each `m` of a target `p.m`, `p` being the first parameter of a def directly in
-- it that is no static method (Python 3.12 language reference, 8.8, and 3.2 on instances; that methods declare attributes through their
-- first parameter is the Python typing specification's). A body's name and `p.m` are one symbol.
use Rattle.std.specs.Prelude.{◌==◌, Bool, true, false, not, ◌&&◌, ◌||◌, is_some, Option, Some, None, List, [], ◌∷◌, ◌++◌, fold, filter_map, slice_get, if◌then◌else◌}
use Rattle.std.specs.List.{list_any}
use Rattle.py_base.specs.declared.ids.NodeId.{NodeId}
use Rattle.py_base.specs.declared.ids.NameId.{NameId}
use Rattle.py_scopes.specs.declared.scope.Scope.{Scope}
use Rattle.py_scopes.specs.declared.scope.Symbol.{Symbol}
use Rattle.py_scopes.specs.declared.occurrence.Role.{Role}
use Rattle.py_scopes.specs.declared.occurrence.Role.TheVariants as roles
use Rattle.py_scopes.specs.declared.occurrence.Occurrence.{Occurrence}
use Rattle.py_scopes.specs.Scopes.{is_innermost, is_class}
use Rattle.py_scopes.specs.Kinds.{gives_value, is_augmented}
use Rattle.py_scopes.specs.Owner.{same_name, is_said, symbol_of, same_symbol}

abbrev pub is_first : Role → Bool
is_first (roles.FirstParameter init) = true
is_first _ = false

-- the name is `staticmethod` as a decorator of the def
abbrev pub is_static_of : NodeId → Role → Bool
is_static_of d (roles.Static e) = e.0 == d.0
is_static_of d _ = false

-- and there the builtin one
abbrev pub makes_static : List Occurrence → NodeId → Occurrence → Bool
makes_static all d o = is_static_of d o.role && not (is_some (symbol_of all o))

abbrev pub is_static : List Occurrence → NodeId → Bool
is_static all d = list_any (makes_static all d) all

abbrev pub class_only : Option Scope → Option Scope
class_only None = None
class_only (Some s) = if is_class s.kind then Some s else None

-- The symbol is that of the first parameter here, of a def that isn't static.
abbrev pub is_instance : List Occurrence → Symbol → Occurrence → Bool
is_instance all x o = is_first o.role && same_name o.name x.name && is_innermost x.scope o.scopes && not (is_static all x.scope.node)

-- the class that the def stands directly in: outside of the def's own scope and of its type parameters
abbrev pub class_by : List Occurrence → Symbol → Occurrence → Option Scope
class_by all x o = if is_instance all x o then class_only (slice_get o.scopes 2) else None

-- THE CLASS WHOSE INSTANCE A SYMBOL IS
abbrev pub class_of : List Occurrence → Symbol → Option Scope
class_of all x = slice_get (filter_map (class_by all x) all) 0

abbrev pub member_of : NameId → Option Scope → Option Symbol
member_of m None = None
member_of m (Some c) = Some (record { scope = c; name = m })

abbrev pub member_if : List Occurrence → NameId → Option Symbol → Option Symbol
member_if all m None = None
member_if all m (Some x) = member_of m (class_of all x)

abbrev pub bound_by : List Occurrence → Occurrence → Role → Option Symbol
bound_by all o roles.Binding = symbol_of all o
bound_by all o (roles.FirstParameter init) = symbol_of all o
bound_by all o (roles.Object target m) = member_if all m (symbol_of all o)
bound_by all o _ = None

-- THE SYMBOL THAT IS BOUND at an occurrence or, where that is the `p` of a target `p.m`, at the target
abbrev pub bound_symbol : List Occurrence → Occurrence → Option Symbol
bound_symbol all o = bound_by all o o.role

-- the first parameter of an `__init__`
abbrev pub is_of_init : Role → Bool
is_of_init (roles.FirstParameter init) = init
is_of_init _ = false

abbrev pub is_init_symbol : List Occurrence → Option Symbol → Bool
is_init_symbol all None = false
is_init_symbol all (Some x) = is_said is_of_init all x.scope x.name

-- a value that isn't given through an instance, or that a plain target of an `__init__` gives to its instance
abbrev pub is_own_value : List Occurrence → Occurrence → Role → Bool
is_own_value all o (roles.Object target m) = not (is_augmented o.effect) && is_init_symbol all (symbol_of all o)
is_own_value all o _ = true

-- What is bound here, if anything is, is a member that hides those of its name in the classes behind its own (decided by this project, as the
-- typing specification leaves it open): an annotation declares it here, or its class gives it a value of its own.
abbrev pub makes_hide : List Occurrence → Occurrence → Bool
makes_hide all o = is_some o.annotation || (gives_value o.effect && is_own_value all o o.role)

abbrev pub hider_at : List Occurrence → Occurrence → Option Symbol
hider_at all o = if makes_hide all o then bound_symbol all o else None

-- THE SYMBOL HIDES those of its name in the classes behind its own
abbrev pub hides : List Occurrence → Symbol → Bool
hides all x = list_any (same_symbol x) (filter_map (hider_at all) all)

abbrev pub with_symbol : List Symbol → Symbol → List Symbol
with_symbol xs x = if list_any (same_symbol x) xs then xs else xs ++ x ∷ []

-- THE SYMBOLS BY THEIR NUMBERS, in the order of the nodes that first bind them
abbrev pub symbols : List Occurrence → List Symbol
symbols all = fold with_symbol [] (filter_map (bound_symbol all) all)
