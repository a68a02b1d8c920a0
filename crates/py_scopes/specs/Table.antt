-- What the table of a module says: the owner and the role of each name, of each symbol its scope, its declaration, its bindings and what
-- stands behind it, and of each class its members (Python 3.12 language reference, 4.2.2 for owners; 7.2.2 for annotated assignments, 8.7 for annotated parameters).
use Rattle.std.specs.Prelude.{◌≡◌, ◌<◌, ◌-◌, ℕ, suc, ◌==◌, nat_lt, Bool, true, false, ◌&&◌, Option, Some, None, List, [], ◌∷◌, map, fold, filter_map, position, length, slice_get, IfSome, if◌then◌else◌}
use Rattle.py_base.specs.declared.ids.NodeId.{NodeId}
use Rattle.py_base.specs.declared.ids.NameId.{NameId}
use Rattle.py_base.specs.declared.ids.SymId.{SymId}
use Rattle.py_base.specs.Tree.{Arena, AreOlder}
use Rattle.py_scopes.specs.declared.scope.Symbol.{Symbol}
use Rattle.py_scopes.specs.declared.occurrence.Role.{Role}
use Rattle.py_scopes.specs.declared.occurrence.Role.TheVariants as roles
use Rattle.py_scopes.specs.declared.roles.NameRole.{NameRole}
use Rattle.py_scopes.specs.declared.scope.Scope.{Scope}
use Rattle.py_scopes.specs.declared.scope.ScopeKind.{ScopeKind}
use Rattle.py_scopes.specs.declared.scope.ScopeKind.TheVariants as scope_kinds
use Rattle.py_scopes.specs.declared.facts.Behind.{Behind}
use Rattle.py_scopes.specs.declared.facts.SymbolFacts.{SymbolFacts}
use Rattle.py_scopes.specs.declared.occurrence.Annotation.{Annotation}
use Rattle.py_scopes.specs.declared.occurrence.Occurrence.{Occurrence}
use Rattle.py_scopes.specs.declared.owner.Owner.{Owner}
use Rattle.py_scopes.specs.declared.owner.Owner.TheVariants as owner
use Rattle.py_scopes.specs.Kinds.{gives_value}
use Rattle.py_scopes.specs.Way.{way_out}
use Rattle.py_scopes.specs.Scopes.{scopes_along, from_first, has_graph, is_class, same_graph}
use Rattle.py_scopes.specs.Occurrences.{text_of, is_builtin, occurrence_at, role_at, occurrences, node_ids}
use Rattle.py_scopes.specs.Owner.{owner_scopes, symbol_of, same_symbol}
use Rattle.py_scopes.specs.Members.{hides, bound_symbol, symbols}

-- the number of a symbol; each that a name stands for has one
abbrev pub number_of : List Symbol → Symbol → Option ℕ
number_of numbers x = position (same_symbol x) numbers

-- Local where the graph of the use runs the scope of the symbol
abbrev pub owner_as : Bool → Option ℕ → Owner
owner_as b None = owner.Undefined
owner_as true (Some k) = owner.Local (record { 0 = k })
owner_as false (Some k) = owner.Outer (record { 0 = k })

-- the name, if it is that of a builtin
abbrev pub builtin_of : Arena → NameId → Option NameId
builtin_of a n = if is_builtin (text_of a.names n) then Some n else None

abbrev pub unbound_owner : Option NameId → Owner
unbound_owner None = owner.Undefined
unbound_owner (Some n) = owner.Builtin n

abbrev pub owner_by : Arena → List Occurrence → List Symbol → Occurrence → Option Symbol → Owner
owner_by a all numbers o None = unbound_owner (builtin_of a o.name)
owner_by a all numbers o (Some x) = owner_as (same_graph (owner_scopes all o) o.scopes) (number_of numbers x)

abbrev pub owner_if : Arena → List Occurrence → List Symbol → Option Occurrence → Owner
owner_if a all numbers None = owner.Undefined
owner_if a all numbers (Some o) = owner_by a all numbers o (symbol_of all o)

-- THE OWNER OF THE NAME AT A NODE
abbrev pub owner_at : Arena → List Occurrence → List Symbol → NodeId → Owner
owner_at a all numbers id = owner_if a all numbers (occurrence_at a id)

abbrev pub is_symbol : Symbol → Option Symbol → Bool
is_symbol x None = false
is_symbol x (Some y) = same_symbol x y

abbrev pub is_bound_at : List Occurrence → Symbol → Occurrence → Bool
is_bound_at all x o = is_symbol x (bound_symbol all o)

abbrev pub annotation_at : List Occurrence → Symbol → Occurrence → Option Annotation
annotation_at all x o = if is_bound_at all x o then o.annotation else None

-- the one that stands first in the text
abbrev pub earlier : Annotation → Annotation → Annotation
earlier x y = if nat_lt y.from x.from then y else x

abbrev pub earliest : List Annotation → Option Annotation
earliest [] = None
earliest (x ∷ xs) = Some (fold earlier x xs)

-- THE DECLARATION OF A SYMBOL: the first of its annotations in the text
abbrev pub declaration : List Occurrence → Symbol → Option Annotation
declaration all x = earliest (filter_map (annotation_at all x) all)

abbrev pub node_of : Option Annotation → Option NodeId
node_of None = None
node_of (Some x) = Some x.node

-- the name, or the target `p.m` whose `p` it is
abbrev pub bound_node : NodeId → Role → NodeId
bound_node id (roles.Object target m) = target
bound_node id _ = id

abbrev pub binding_at : List Occurrence → Symbol → Occurrence → Option NodeId
binding_at all x o = if is_bound_at all x o && gives_value o.effect then Some (bound_node o.node o.role) else None

-- THE BINDINGS OF A SYMBOL: what gives it a value
abbrev pub bindings : List Occurrence → Symbol → List NodeId
bindings all x = filter_map (binding_at all x) all

abbrev pub is_member : NodeId → Symbol → Bool
is_member class x = is_class x.scope.kind && x.scope.node.0 == class.0

-- THE MEMBERS OF A CLASS, with the numbers of their symbols, of which the first is the given one
abbrev pub members_from : NodeId → ℕ → List Symbol → List (NameId × SymId)
members_from class k [] = []
members_from class k (x ∷ xs) = if is_member class x then (x.name, record { 0 = k }) ∷ members_from class (suc k) xs else members_from class (suc k) xs

-- the module, whose node is the newest
abbrev pub root : Arena → NodeId
root a = record { 0 = length a.nodes - 1 }

abbrev pub node_or : NodeId → List Scope → NodeId
node_or other [] = other
node_or other (s ∷ ss) = s.node

-- THE GRAPH THAT RUNS A SCOPE: its own node, or that of the innermost def or lambda around it, or the module
abbrev pub graph_of : Arena → Scope → NodeId
graph_of a s = if has_graph s.kind then s.node else node_or (root a) (from_first has_graph (scopes_along (way_out a.nodes s.node)))

abbrev pub sym_of : Option ℕ → Option SymId
sym_of None = None
sym_of (Some k) = Some (record { 0 = k })

-- the number of the module's symbol of a name
abbrev pub of_module : Arena → List Symbol → NameId → Option SymId
of_module a numbers n = sym_of (number_of numbers (record { scope = record { node = root a; kind = scope_kinds.Module }; name = n }))

-- WHAT STANDS BEHIND A SYMBOL that its own class or module has not bound yet: behind a class's the module's of that name and the builtin,
-- behind the module's the builtin, each where there is one; behind any other nothing (4.2.2: class blocks look in the global namespace)
abbrev pub behind_by : Arena → List Symbol → ScopeKind → NameId → Behind
behind_by a numbers scope_kinds.Class n = record { symbol = of_module a numbers n; builtin = builtin_of a n }
behind_by a numbers scope_kinds.Module n = record { symbol = None; builtin = builtin_of a n }
behind_by a numbers k n = record { symbol = None; builtin = None }

unfoldable pub facts_by : Arena → List Symbol → Symbol → Bool → SymbolFacts
facts_by a numbers x hide = record {
  symbol = x;
  graph = graph_of a x.scope;
  hides = hide;
  behind = behind_by a numbers x.scope.kind x.name;
}

-- THE FACTS OF A SYMBOL
abbrev pub facts_of : Arena → List Occurrence → List Symbol → Symbol → SymbolFacts
facts_of a all numbers x = facts_by a numbers x (hides all x)

pub record ScopeTable : Type 0 where
  pub owners : List Owner
  pub roles : List (Option NameRole)
  pub facts : List SymbolFacts
  pub declared : List (Option Annotation)
  pub bound : List (List NodeId)
  pub members : List (List (NameId × SymId))

unfoldable pub table_of : Arena → List Occurrence → List Symbol → ScopeTable
table_of a all numbers = record {
  owners = map (owner_at a all numbers) (node_ids a);
  roles = map (role_at a) (node_ids a);
  facts = map (facts_of a all numbers) numbers;
  declared = map (declaration all) numbers;
  bound = map (bindings all) numbers;
  members = map (λ id. members_from id 0 numbers) (node_ids a);
}

-- THE TABLE OF A MODULE: owners, roles and members by node, facts, declarations and bindings by symbol
unfoldable pub table : Arena → ScopeTable
table a = table_of a (occurrences a) (symbols (occurrences a))

abbrev pub IsTable : Arena → ScopeTable → Type 0
IsTable a t = t ≡ table a

-- a symbol in the owner is one of the first so many
abbrev pub IsNumbered : ℕ → Owner → Type 0
IsNumbered n (owner.Local k) = k.0 < n
IsNumbered n (owner.Outer k) = k.0 < n
IsNumbered n o = Unit {0}

-- each member's symbol is one of the first so many
abbrev pub AreNumbered : ℕ → List (NameId × SymId) → Type 0
AreNumbered n [] = Unit {0}
AreNumbered n (m ∷ ms) = (m.1.0 < n) × AreNumbered n ms

-- WHAT HOLDS OF EACH TABLE: a declaration and bindings for each symbol, an owner and members for each node, no symbol and no node beyond
-- them
pub record IsWhole (t : ScopeTable) : Type 0 where
  pub roles : length t.roles ≡ length t.owners
  pub facts : length t.facts ≡ length t.bound
  pub declared : length t.declared ≡ length t.bound
  pub members : length t.members ≡ length t.owners
  pub room : length t.bound < 33554432
  pub owned : (i : ℕ) (o : Owner) → slice_get t.owners i ≡ Some o → IsNumbered (length t.bound) o
  pub held : (i : ℕ) (ms : List (NameId × SymId)) → slice_get t.members i ≡ Some ms → AreNumbered (length t.bound) ms
  pub behind : (i : ℕ) (f : SymbolFacts) → slice_get t.facts i ≡ Some f → IfSome f.behind.symbol (λ k. k.0 < length t.bound)
  pub annotations : (i : ℕ) (d : Option Annotation) → slice_get t.declared i ≡ Some d → IfSome d (λ y. y.node.0 < length t.owners)
  pub places : (i : ℕ) (ids : List NodeId) → slice_get t.bound i ≡ Some ids → AreOlder (length t.owners) ids
