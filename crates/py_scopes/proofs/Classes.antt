-- The tables of the static methods and of the classes of first parameters.
use Rattle.std.proofs.Common.{◌≡◌, ℕ, zero, suc, ◌==◌, Bool, true, false, not, ◌&&◌, List, [], ◌∷◌, ◌++◌, ◌+◌, ◌≤◌, length, length-append, arith, take, drop, refl, sym, ap, ◌∙◌, if◌then◌else◌}
use Rattle.std.specs.Prelude.{Option, Some, None, is_some, fold, filter_map, slice_get}
use Rattle.std.specs.Option.{option_to_list}
use Rattle.std.specs.List.{list_any, cons_option}
use Rattle.std.specs.Map.{lookup}
use Rattle.indexmap.specs.IndexMap.{IndexMap, get}
use Rattle.std.specs.Cmp.{IsEquivalence}
use Rattle.std.proofs.lemmas.Cmp.{nat_eq_equiv, on_equiv}
use Rattle.py_base.specs.declared.ids.NodeId.{NodeId}
use Rattle.py_scopes.specs.declared.scope.Scope.{Scope}
use Rattle.py_scopes.specs.declared.scope.Symbol.{Symbol}
use Rattle.py_scopes.specs.declared.occurrence.Role.{Role}
use Rattle.py_scopes.specs.declared.occurrence.Role.TheVariants as roles
use Rattle.py_scopes.specs.declared.occurrence.Occurrence.{Occurrence}
use Rattle.py_scopes.specs.Way.{same_node}
use Rattle.py_scopes.specs.Scopes.{same_scope, is_innermost}
use Rattle.py_scopes.specs.Owner.{same_name, same_symbol, symbol_of}
use Rattle.py_scopes.specs.Members.{is_first, is_static_of, makes_static, is_static, class_only, class_by, class_of}
use Rattle.py_scopes.specs.Same.{same-node}
use Rattle.py_scopes.specs.Tables.{symbol_in, or_else, static_def, static_method_at, with_def, HasStatics, unless_static, instance_at, class_for}
use Rattle.py_scopes.specs.Members.{with_symbol}
use Rattle.py_scopes.proofs.Walks.{drop-next}
use Rattle.py_scopes.proofs.Sets.{option_any, table-answers}

and-true : (a : Bool) → a ≡ (a && true)
and-true true = refl
and-true false = refl

and-false : (a : Bool) → false ≡ (a && false)
and-false true = refl
and-false false = refl

no-scope : (a d : Bool) (class : Option Scope) → None ≡ (if (a && false && d) then class else None)
no-scope true d class = refl
no-scope false d class = refl

shuffle : (a b d : Bool) → ((a && b) && d) ≡ (a && b && d)
shuffle true b d = refl
shuffle false b d = refl

node_equiv : IsEquivalence same_node
node_equiv = on_equiv (λ (d : NodeId). d.0) nat_eq_equiv

static-role : (d : NodeId) (r : Role) (x : Option Symbol) → option_any (same_node d) (static_def r x) ≡ (is_static_of d r && not (is_some x))
static-role d roles.Read x = refl
static-role d (roles.Static e) None = nat_eq_equiv.symm d.0 e.0 ∙ and-true (e.0 == d.0)
static-role d (roles.Static e) (Some x) = and-false (e.0 == d.0)
static-role d (roles.Object t m) x = refl
static-role d roles.Binding x = refl
static-role d (roles.FirstParameter b) x = refl
static-role d roles.Global x = refl
static-role d roles.Nonlocal x = refl

pub has-statics : (all : List Occurrence) (keys : List NodeId) → keys ≡ fold with_def [] (filter_map (static_method_at all) all) → HasStatics all keys
has-statics all keys e d = table-answers node_equiv (static_method_at all) (makes_static all d) d (λ o. static-role d o.role (symbol_of all o)) all keys e

-- the class of a symbol, if this is the occurrence of its parameter
node-is : (m n : NodeId) → m.0 ≡ n.0 → m ≡ n
node-is m n same = λ i. record { 0 = same i }

pub class-here : (all : List Occurrence) (x : Symbol) (o : Occurrence) → class_for (instance_at all o) (class_only (slice_get o.scopes 2)) x ≡ class_by all x o
class-here all x o = go (is_first o.role) o.scopes
  where
    static-same : (y : Symbol) → same_symbol x y ≡ true → is_static all x.scope.node ≡ is_static all y.scope.node
    static-same y e = ap (is_static all) (node-is x.scope.node y.scope.node (same-node x y e))

    found : (s : Scope) (class : Option Scope) (b c : Bool) → same_symbol x (record { scope = s; name = o.name }) ≡ b → is_static all s.node ≡ c
        → class_for (if c then None else Some (record { scope = s; name = o.name })) class x ≡ (if (b && not (is_static all x.scope.node)) then class else None)
    found s class true true e f = let y : Symbol = record { scope = s; name = o.name } in sym (ap (λ a. if not a then class else None) (static-same y e ∙ f))
    found s class true false e f =
        let y : Symbol = record { scope = s; name = o.name } in ap (λ a. if a then class else None) e ∙ sym (ap (λ a. if not a then class else None) (static-same y e ∙ f))
    found s class false true e f = refl
    found s class false false e f = ap (λ a. if a then class else None) e

    go : (b : Bool) (ss : List Scope) → class_for (if b then unless_static all (symbol_in o.name ss) else None) (class_only (slice_get ss 2)) x
        ≡ (if (b && same_name o.name x.name && is_innermost x.scope ss && not (is_static all x.scope.node)) then class_only (slice_get ss 2) else None)
    go false ss = refl
    go true [] = no-scope (same_name o.name x.name) (not (is_static all x.scope.node)) None
    go true (s ∷ ss) =
        let y : Symbol = record { scope = s; name = o.name } in
        let class : Option Scope = class_only (slice_get (s ∷ ss) 2) in
        let fixed : Bool = not (is_static all x.scope.node) in
        found s class (same_symbol x y) (is_static all s.node) refl refl
        ∙ ap (λ a. if a then class else None) (shuffle (same_name x.name o.name) (same_scope x.scope s) fixed ∙ ap (λ a. a && same_scope x.scope s && fixed) (nat_eq_equiv.symm x.name.0 o.name.0))

assoc : {X : Type 0} (a b c : Option X) → or_else (or_else a b) c ≡ or_else a (or_else b c)
assoc None b c = refl
assoc (Some x) b c = refl

first-kept : {X : Type 0} (o : Option X) (xs : List X) → slice_get (cons_option o xs) 0 ≡ or_else o (slice_get xs 0)
first-kept None xs = refl
first-kept (Some x) xs = refl

pub classes-next : (all items : List Occurrence) (x : Symbol) (i : ℕ) (o : Occurrence) (old new : Option Scope) → slice_get items i ≡ Some o → new ≡ or_else old (class_by all x o)
    → or_else old (slice_get (filter_map (class_by all x) (drop i items)) 0) ≡ class_of all x → or_else new (slice_get (filter_map (class_by all x) (drop (i + 1) items)) 0) ≡ class_of all x
classes-next all items x i o old new here made before =
    let rest : List Scope = filter_map (class_by all x) (drop (i + 1) items) in
    ap (λ a. or_else a (slice_get rest 0)) made ∙ assoc old (class_by all x o) (slice_get rest 0)
    ∙ ap (or_else old) (sym (ap (λ l. slice_get (filter_map (class_by all x) l) 0) (drop-next items i o here) ∙ first-kept (class_by all x o) rest)) ∙ before

or_else-none : {X : Type 0} (o : Option X) → o ≡ or_else o None
or_else-none None = refl
or_else-none (Some x) = refl

pub classes-end : (all rest : List Occurrence) (x : Symbol) (now : Option Scope) → rest ≡ [] → or_else now (slice_get (filter_map (class_by all x) rest) 0) ≡ class_of all x → now ≡ class_of all x
classes-end all rest x now done before = or_else-none now ∙ ap (λ l. or_else now (slice_get (filter_map (class_by all x) l) 0)) (sym done) ∙ before

pub length-with : (keys : List Symbol) (o : Option Symbol) → length (fold with_symbol keys (option_to_list o)) ≤ length keys + 1
length-with keys None = omega arith
length-with keys (Some y) = go (list_any (same_symbol y) keys)
  where
    go : (b : Bool) → length (if b then keys else keys ++ y ∷ []) ≤ length keys + 1
    go true = omega arith
    go false = omega (arith, length-append keys (y ∷ []))

pub all-taken : {X : Type 0} (xs : List X) (n : ℕ) → length xs ≤ n → take n xs ≡ xs
all-taken [] zero le = refl
all-taken [] (suc n) le = refl
all-taken (x ∷ xs) zero le = absurd (omega arith)
all-taken (x ∷ xs) (suc n) le = ap (λ l. x ∷ l) (all-taken xs n (omega arith))

pub class-made : (all : List Occurrence) (x : Symbol) (o : Occurrence) (instance : Option Symbol) (class old new : Option Scope) → instance ≡ instance_at all o → class ≡ class_only (slice_get o.scopes 2)
    → new ≡ or_else old (class_for instance class x) → new ≡ or_else old (class_by all x o)
class-made all x o instance class old new e f made =
    made ∙ ap (λ y. or_else old (class_for y class x)) e ∙ ap (λ k. or_else old (class_for (instance_at all o) k x)) f ∙ ap (or_else old) (class-here all x o)

pub classes-start : {S : Type 0} (all items : List Occurrence) (x : Symbol) (m : IndexMap Symbol Scope S) → m.entries ≡ [] → items ≡ all
    → or_else (get same_symbol m x) (slice_get (filter_map (class_by all x) (drop 0 items)) 0) ≡ class_of all x
classes-start all items x m empty same =
    ap (λ es. or_else (lookup (same_symbol x) es) (slice_get (filter_map (class_by all x) items) 0)) empty ∙ ap (λ l. slice_get (filter_map (class_by all x) l) 0) same
