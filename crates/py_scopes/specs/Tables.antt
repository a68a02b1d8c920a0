-- Helper definitions for private functions: what the tables hold by which the names of a module are found in one pass each (the step
-- outward from each node, the names that are bound or declared in each scope, what is gathered for each symbol). The tables are this
-- project's own; no standard speaks of them, and no public clause cites this file.
use Rattle.std.specs.Prelude.{◌≡◌, ◌<◌, ℕ, ◌==◌, Bool, Option, Some, None, List, [], ◌∷◌, ◌++◌, map, fold, filter_map, option_map, option_to_list, position, slice_get, IfSome, if◌then◌else◌}
use Rattle.std.specs.List.{list_any}
use Rattle.indexmap.specs.IndexMap.{IndexMap, get}
use Rattle.py_base.specs.declared.ids.NodeId.{NodeId}
use Rattle.py_base.specs.declared.ids.NameId.{NameId}
use Rattle.py_base.specs.declared.ids.SymId.{SymId}
use Rattle.py_base.specs.declared.node.Node.{Node}
use Rattle.py_base.specs.Tree.{Arena}
use Rattle.py_scopes.specs.declared.way.Step.{Step}
use Rattle.py_scopes.specs.declared.scope.Scope.{Scope}
use Rattle.py_scopes.specs.declared.scope.Symbol.{Symbol}
use Rattle.py_scopes.specs.declared.occurrence.Role.{Role}
use Rattle.py_scopes.specs.declared.occurrence.Role.TheVariants as roles
use Rattle.py_scopes.specs.declared.occurrence.Annotation.{Annotation}
use Rattle.py_scopes.specs.declared.occurrence.Occurrence.{Occurrence}
use Rattle.py_scopes.specs.Way.{same_node, step_if, step_out}
use Rattle.py_scopes.specs.Occurrences.{node_ids}
use Rattle.py_scopes.specs.Owner.{is_binding, is_said, home, has_symbol, symbol_of, same_symbol}
use Rattle.py_scopes.specs.Members.{is_first, is_static, class_of, hides, bound_symbol, with_symbol}
use Rattle.py_scopes.specs.Table.{number_of, bound_node, binding_at, annotation_at, earlier, is_member}

-- the step outward from each node
abbrev pub steps_outward : Arena → List (Option Step)
steps_outward a = map (step_out a.nodes) (node_ids a)

abbrev pub no_step : NodeId → Option Step
no_step id = None

-- the first of two, if it is there, else the second
abbrev pub or_else : {X : Type 0} → Option X → Option X → Option X
or_else None y = y
or_else (Some x) y = Some x

-- at a place where nothing is, x is put; all other places stay
abbrev pub put_first : {X : Type 0} → ℕ → X → ℕ → Option X → Option X
put_first k x i old = if k == i then or_else old (Some x) else old

abbrev pub PutsFirst : {X : Type 0} → ℕ → X → List (Option X) → List (Option X) → Type 0
PutsFirst k x old new = (i : ℕ) → slice_get new i ≡ option_map (put_first k x i) (slice_get old i)

-- the step outward from the i-th node to the given one, where it is a part of that
abbrev pub step_to : List Node → ℕ → Option Node → ℕ → Option Step
step_to nodes at None i = None
step_to nodes at (Some n) i = step_if nodes at n (position (λ p. same_node p (record { 0 = i })) n.parts) None

-- the steps to a node are put where there are none
abbrev pub PutsSteps : List Node → ℕ → List (Option Step) → List (Option Step) → Type 0
PutsSteps nodes at old new = (i : ℕ) → slice_get new i ≡ option_map (λ o. or_else o (step_to nodes at (slice_get nodes at) i)) (slice_get old i)

-- the name in the innermost of these scopes
abbrev pub symbol_in : NameId → List Scope → Option Symbol
symbol_in n [] = None
symbol_in n (s ∷ ss) = Some (record { scope = s; name = n })

-- the name and the scope of which the occurrence says it
abbrev pub said_at : (Role → Bool) → Occurrence → Option Symbol
said_at passes o = if passes o.role then symbol_in o.name o.scopes else None

abbrev pub AddsSaid : (Role → Bool) → Occurrence → List Symbol → List Symbol → Type 0
AddsSaid passes o old new = new ≡ fold with_symbol old (option_to_list (said_at passes o))

-- all of which it is said, in the order of the first occurrences that say it
abbrev pub names_said : (Role → Bool) → List Occurrence → List Symbol
names_said passes all = fold with_symbol [] (filter_map (said_at passes) all)

-- the table answers what a search through all occurrences does
abbrev pub HasSaid : (Role → Bool) → List Occurrence → List Symbol → Type 0
HasSaid passes all keys = (x : Symbol) → list_any (same_symbol x) keys ≡ is_said passes all x.scope x.name

-- the symbol that a binding belongs to
abbrev pub symbol_at : List Occurrence → Occurrence → Option Symbol
symbol_at all o = if is_binding o.role then symbol_in o.name (home all o.name o.scopes) else None

abbrev pub all_symbols : List Occurrence → List Symbol
all_symbols all = fold with_symbol [] (filter_map (symbol_at all) all)

abbrev pub HasSymbols : List Occurrence → List Symbol → Type 0
HasSymbols all keys = (x : Symbol) → list_any (same_symbol x) keys ≡ has_symbol all x.scope x.name

-- the def that is made a static method here
abbrev pub static_def : Role → Option Symbol → Option NodeId
static_def (roles.Static d) None = Some d
static_def r x = None

abbrev pub static_method_at : List Occurrence → Occurrence → Option NodeId
static_method_at all o = static_def o.role (symbol_of all o)

abbrev pub with_def : List NodeId → NodeId → List NodeId
with_def ds d = if list_any (same_node d) ds then ds else ds ++ d ∷ []

abbrev pub AddsStatic : Option NodeId → List NodeId → List NodeId → Type 0
AddsStatic d old new = new ≡ fold with_def old (option_to_list d)

abbrev pub HasStatics : List Occurrence → List NodeId → Type 0
HasStatics all keys = (d : NodeId) → list_any (same_node d) keys ≡ is_static all d

-- the symbol of the first parameter here, of a def that isn't static
abbrev pub unless_static : List Occurrence → Option Symbol → Option Symbol
unless_static all None = None
unless_static all (Some x) = if is_static all x.scope.node then None else Some x

abbrev pub instance_at : List Occurrence → Occurrence → Option Symbol
instance_at all o = if is_first o.role then unless_static all (symbol_in o.name o.scopes) else None

-- the class, if the symbol is this one
abbrev pub class_for : Option Symbol → Option Scope → Symbol → Option Scope
class_for None class x = None
class_for (Some y) class x = if same_symbol x y then class else None

-- a symbol that has no class gets this one
abbrev pub AddsClass : {S : Type 0} → Option Symbol → Option Scope → IndexMap Symbol Scope S → IndexMap Symbol Scope S → Type 0
AddsClass y class old new = (x : Symbol) → get same_symbol new x ≡ or_else (get same_symbol old x) (class_for y class x)

abbrev pub HasClasses : {S : Type 0} → List Occurrence → IndexMap Symbol Scope S → Type 0
HasClasses all m = (x : Symbol) → get same_symbol m x ≡ class_of all x

-- the number of the symbol that is bound at an occurrence
abbrev pub number_if : List Symbol → Option Symbol → Option ℕ
number_if numbers None = None
number_if numbers (Some x) = number_of numbers x

abbrev pub number_bound : List Occurrence → List Symbol → Occurrence → Option ℕ
number_bound all numbers o = number_if numbers (bound_symbol all o)

-- an item goes to the end of one of the lists
abbrev pub put_at : {X : Type 0} → ℕ → X → ℕ → List X → List X
put_at k x i old = if k == i then old ++ x ∷ [] else old

abbrev pub PutsAt : {X : Type 0} → ℕ → X → List (List X) → List (List X) → Type 0
PutsAt k x old new = (i : ℕ) → slice_get new i ≡ option_map (put_at k x i) (slice_get old i)

abbrev pub no_items : {X : Type 0} → NodeId → List X
no_items id = []

abbrev pub no_annotation : NodeId → Option Annotation
no_annotation id = None

-- the binding here goes to the end of those of its symbol
abbrev pub binding_to : List Occurrence → Occurrence → Symbol → List NodeId → List NodeId
binding_to all o x old = old ++ option_to_list (binding_at all x o)

abbrev pub AddsBinding : List Occurrence → List Symbol → Occurrence → List (List NodeId) → List (List NodeId) → Type 0
AddsBinding all numbers o old new =
    (i : ℕ) (x : Symbol) → slice_get numbers i ≡ Some x → slice_get new i ≡ option_map (binding_to all o x) (slice_get old i)

-- of the annotation that stood first so far and another, the one that stands first in the text
abbrev pub earliest_to : Option Annotation → Annotation → Annotation
earliest_to None y = y
earliest_to (Some x) y = earlier x y

abbrev pub earliest_with : Option Annotation → Option Annotation → Option Annotation
earliest_with old None = old
earliest_with old (Some y) = Some (earliest_to old y)

abbrev pub annotation_to : List Occurrence → Occurrence → Symbol → Option Annotation → Option Annotation
annotation_to all o x old = earliest_with old (annotation_at all x o)

abbrev pub AddsAnnotation : List Occurrence → List Symbol → Occurrence → List (Option Annotation) → List (Option Annotation) → Type 0
AddsAnnotation all numbers o old new =
    (i : ℕ) (x : Symbol) → slice_get numbers i ≡ Some x → slice_get new i ≡ option_map (annotation_to all o x) (slice_get old i)

-- the occurrence of the given number, where it is at the node
abbrev pub if_node : NodeId → Option Occurrence → Option Occurrence
if_node id None = None
if_node id (Some o) = if same_node o.node id then Some o else None

abbrev pub HasHiders : List Occurrence → List Symbol → Type 0
HasHiders all keys = (x : Symbol) → list_any (same_symbol x) keys ≡ hides all x

-- the symbol goes to the end of the members of its class
abbrev pub member_to : Symbol → SymId → ℕ → List (NameId × SymId) → List (NameId × SymId)
member_to x k i old = if is_member (record { 0 = i }) x then old ++ (x.name, k) ∷ [] else old

abbrev pub AddsMember : Symbol → SymId → List (List (NameId × SymId)) → List (List (NameId × SymId)) → Type 0
AddsMember x k old new = (i : ℕ) → slice_get new i ≡ option_map (member_to x k i) (slice_get old i)

-- the nodes that an occurrence names are among the first so many
abbrev pub IsBelow : ℕ → Occurrence → Type 0
IsBelow n o = ((bound_node o.node o.role).0 < n) × IfSome o.annotation (λ x. x.node.0 < n)

abbrev pub AreBelow : ℕ → List Occurrence → Type 0
AreBelow n [] = Unit {0}
AreBelow n (o ∷ os) = IsBelow n o × AreBelow n os
