-- Who owns a name: a search from one occurrence outward, for the innermost scope that says whose the name is (Python 3.12 language
-- reference, 4.2.2, "Resolution of names"; 7.12 and 7.13 for `global` and `nonlocal`).
use Rattle.std.specs.Prelude.{◌==◌, Bool, true, false, not, ◌&&◌, ◌||◌, Option, Some, None, List, [], ◌∷◌, if◌then◌else◌}
use Rattle.std.specs.List.{list_any}
use Rattle.py_base.specs.declared.ids.NameId.{NameId}
use Rattle.py_scopes.specs.declared.scope.Scope.{Scope}
use Rattle.py_scopes.specs.declared.scope.Symbol.{Symbol}
use Rattle.py_scopes.specs.declared.occurrence.Role.{Role}
use Rattle.py_scopes.specs.declared.occurrence.Role.TheVariants as roles
use Rattle.py_scopes.specs.declared.occurrence.Occurrence.{Occurrence}
use Rattle.py_scopes.specs.Scopes.{same_scope, is_innermost, from_first, is_module, is_class, is_def, hides_classes}

abbrev pub same_name : NameId → NameId → Bool
same_name m n = m.0 == n.0

abbrev pub is_binding : Role → Bool
is_binding roles.Binding = true
is_binding (roles.FirstParameter init) = true
is_binding _ = false

abbrev pub is_global_name : Role → Bool
is_global_name roles.Global = true
is_global_name _ = false

abbrev pub is_nonlocal_name : Role → Bool
is_nonlocal_name roles.Nonlocal = true
is_nonlocal_name _ = false

-- the occurrence has the role, for the name, and stands directly in the scope
abbrev pub says : (Role → Bool) → Scope → NameId → Occurrence → Bool
says passes s n o = passes o.role && same_name o.name n && is_innermost s o.scopes

-- some occurrence does
abbrev pub is_said : (Role → Bool) → List Occurrence → Scope → NameId → Bool
is_said passes all s n = list_any (says passes s n) all

-- a def that has the name for its own
abbrev pub owns : List Occurrence → NameId → Scope → Bool
owns all n s = is_def s.kind && is_said is_binding all s n && not (is_said is_global_name all s n) && not (is_said is_nonlocal_name all s n)

-- from the innermost owning def outward
abbrev pub owning : List Occurrence → NameId → List Scope → List Scope
owning all n [] = []
owning all n (s ∷ ss) = if owns all n s then s ∷ ss else owning all n ss

-- THE SCOPE WHOSE NAME IT IS IN A SCOPE THAT BINDS OR DECLARES IT, with those outside of it: the module's where it is declared global, that
-- of the next owning def where it is declared nonlocal, else the scope itself.
abbrev pub home : List Occurrence → NameId → List Scope → List Scope
home all n [] = []
home all n (s ∷ ss) =
    if is_said is_global_name all s n then from_first is_module (s ∷ ss)
    else (if is_said is_nonlocal_name all s n then owning all n ss else s ∷ ss)

-- some binding of the name belongs to the scope, wherever it stands
abbrev pub belongs : List Occurrence → Scope → NameId → Occurrence → Bool
belongs all s n o = is_binding o.role && same_name o.name n && is_innermost s (home all n o.scopes)

abbrev pub has_symbol : List Occurrence → Scope → NameId → Bool
has_symbol all s n = list_any (belongs all s n) all

-- the scope says whose the name is
abbrev pub decides : List Occurrence → NameId → Scope → Bool
decides all n s = is_said is_global_name all s n || is_said is_nonlocal_name all s n || has_symbol all s n

-- THE SEARCH: the innermost scope that is seen and decides. Behind a def, a lambda or a comprehension no class is seen.
abbrev pub search_out : List Occurrence → NameId → Bool → List Scope → List Scope
search_out all n hidden [] = []
search_out all n hidden (s ∷ ss) =
    if not (hidden && is_class s.kind) && decides all n s then s ∷ ss else search_out all n (hidden || hides_classes s.kind) ss

-- a name that is bound here is of the scope that it is bound for; any other is searched
abbrev pub owner_scopes : List Occurrence → Occurrence → List Scope
owner_scopes all o = home all o.name (if is_binding o.role then o.scopes else search_out all o.name false o.scopes)

abbrev pub symbol_if : List Occurrence → NameId → List Scope → Option Symbol
symbol_if all n [] = None
symbol_if all n (s ∷ ss) = if has_symbol all s n then Some (record { scope = s; name = n }) else None

-- THE SYMBOL THAT A NAME STANDS FOR
abbrev pub symbol_of : List Occurrence → Occurrence → Option Symbol
symbol_of all o = symbol_if all o.name (owner_scopes all o)

abbrev pub same_symbol : Symbol → Symbol → Bool
same_symbol x y = same_name x.name y.name && same_scope x.scope y.scope
