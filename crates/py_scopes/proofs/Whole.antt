-- A table names no symbol beyond those that it has, and has an owner and members for each node.
use Rattle.std.proofs.Common.{◌≡◌, ℕ, suc, ◌+◌, ◌<◌, ◌≤◌, List, [], ◌∷◌, ◌++◌, length, take, get_or, map, refl, sym, ap, subst, ◌∙◌, arith}
use Rattle.std.specs.Prelude.{Bool, true, false, Option, Some, None, IfSome, option_map, slice_get, if◌then◌else◌}
use Rattle.std.proofs.lemmas.Option.{slice_get-map, slice_get-get_or}
use Rattle.std.proofs.lemmas.List.{length-map, map-append}
use Rattle.std.proofs.lemmas.List.Quantifiers.{position-Some}
use Rattle.py_base.specs.declared.ids.NodeId.{NodeId}
use Rattle.py_base.specs.declared.ids.NameId.{NameId}
use Rattle.py_base.specs.declared.ids.SymId.{SymId}
use Rattle.py_base.specs.Tree.{Arena, AreOlder}
use Rattle.py_scopes.specs.declared.scope.Symbol.{Symbol}
use Rattle.py_scopes.specs.declared.occurrence.Occurrence.{Occurrence}
use Rattle.py_scopes.specs.declared.scope.ScopeKind.{ScopeKind}
use Rattle.py_scopes.specs.declared.scope.ScopeKind.TheVariants as kinds
use Rattle.py_scopes.specs.Scopes.{same_graph}
use Rattle.py_scopes.specs.Occurrences.{node_ids, occurrence_at, role_at, occurrences}
use Rattle.py_scopes.specs.declared.facts.SymbolFacts.{SymbolFacts}
use Rattle.py_scopes.proofs.Walks.{length-ids, take-next}
use Rattle.py_scopes.specs.Owner.{owner_scopes, symbol_of, same_symbol}
use Rattle.py_scopes.specs.Members.{hides, symbols}
use Rattle.py_scopes.specs.Tables.{AreBelow}
use Rattle.py_scopes.proofs.Below.{declaration-below, bindings-below}
use Rattle.py_scopes.specs.Table.{number_of, builtin_of, unbound_owner, root, sym_of, graph_of, behind_by, facts_by, facts_of, owner_as, owner_by, owner_if, owner_at, declaration, bindings, is_member, members_from, ScopeTable, table_of, table, IsTable, IsNumbered, AreNumbered, IsWhole}

from-option : {X Y : Type 0} (f : X → Y) (y : Y) (P : Y → Type 0) → ((x : X) → P (f x)) → (o : Option X) → option_map f o ≡ Some y → P y
from-option f y P each None e = absurd (cc)
from-option f y P each (Some x) e = let same : f x ≡ y = cc in subst P same (each x)

-- what holds of each value holds of each that a list of them has
each-made : {X Y : Type 0} (f : X → Y) (P : Y → Type 0) → ((x : X) → P (f x)) → (xs : List X) (i : ℕ) (y : Y) → slice_get (map f xs) i ≡ Some y → P y
each-made f P each xs i y e = from-option f y P each (slice_get xs i) (sym (slice_get-map f xs i) ∙ e)

as-numbered : (n : ℕ) (b : Bool) (k : Option ℕ) → ((j : ℕ) → k ≡ Some j → j < n) → IsNumbered n (owner_as b k)
as-numbered n b None h = tt
as-numbered n true (Some j) h = h j refl
as-numbered n false (Some j) h = h j refl

no-symbol : (n : ℕ) (m : Option NameId) → IsNumbered n (unbound_owner m)
no-symbol n (Some m) = tt
no-symbol n None = tt

by-numbered : (a : Arena) (all : List Occurrence) (numbers : List Symbol) (o : Occurrence) (x : Option Symbol) → IsNumbered (length numbers) (owner_by a all numbers o x)
by-numbered a all numbers o None = no-symbol (length numbers) (builtin_of a o.name)
by-numbered a all numbers o (Some x) =
    as-numbered (length numbers) (same_graph (owner_scopes all o) o.scopes) (number_of numbers x) (λ j e. (position-Some (same_symbol x) numbers j x e).0)

if-numbered : (a : Arena) (all : List Occurrence) (numbers : List Symbol) (o : Option Occurrence) → IsNumbered (length numbers) (owner_if a all numbers o)
if-numbered a all numbers None = tt
if-numbered a all numbers (Some o) = by-numbered a all numbers o (symbol_of all o)

sym-numbered : (n : ℕ) (k : Option ℕ) → ((j : ℕ) → k ≡ Some j → j < n) → IfSome (sym_of k) (λ s. s.0 < n)
sym-numbered n None h = tt
sym-numbered n (Some j) h = h j refl

behind-numbered : (a : Arena) (numbers : List Symbol) (k : ScopeKind) (n : NameId) → IfSome (behind_by a numbers k n).symbol (λ s. s.0 < length numbers)
behind-numbered a numbers kinds.Module n = tt
behind-numbered a numbers kinds.Class n =
    let x : Symbol = record { scope = record { node = root a; kind = kinds.Module }; name = n } in
    sym-numbered (length numbers) (number_of numbers x) (λ j e. (position-Some (same_symbol x) numbers j x e).0)
behind-numbered a numbers kinds.Def n = tt
behind-numbered a numbers kinds.Lambda n = tt
behind-numbered a numbers kinds.Comprehension n = tt
behind-numbered a numbers kinds.TypeParameters n = tt
behind-numbered a numbers kinds.NoTypeParameters n = tt

member-more : (b : Bool) (n : ℕ) (m : NameId × SymId) (ms : List (NameId × SymId)) → m.1.0 < n → AreNumbered n ms → AreNumbered n (if b then m ∷ ms else ms)
member-more true n m ms h k = (h, k)
member-more false n m ms h k = k

members-numbered : (class : NodeId) (k : ℕ) (xs : List Symbol) (n : ℕ) → k + length xs ≤ n → AreNumbered n (members_from class k xs)
members-numbered class k [] n h = tt
members-numbered class k (x ∷ xs) n h =
    member-more (is_member class x) n (x.name, record { 0 = k }) (members_from class (suc k) xs) (omega arith) (members-numbered class (suc k) xs n (omega arith))

count-owners : (a : Arena) (all : List Occurrence) (numbers : List Symbol) → length (map (owner_at a all numbers) (node_ids a)) ≡ length a.nodes
count-owners a all numbers = length-map (node_ids a) (owner_at a all numbers) ∙ length-ids (length a.nodes)

-- THE TABLE OVER OCCURRENCES AND SYMBOLS IS WHOLE
pub whole : (a : Arena) (all : List Occurrence) (numbers : List Symbol) (t : ScopeTable) → length numbers < 33554432 → AreBelow (length a.nodes) all → t ≡ table_of a all numbers → IsWhole t
unfolding table_of facts_by
whole a all numbers t room below e = subst IsWhole (sym e) (record {
  roles = length-map (node_ids a) (role_at a) ∙ sym (length-map (node_ids a) (owner_at a all numbers));
  facts = length-map numbers (facts_of a all numbers) ∙ sym (length-map numbers (bindings all));
  declared = length-map numbers (declaration all) ∙ sym (length-map numbers (bindings all));
  members = length-map (node_ids a) (λ id. members_from id 0 numbers) ∙ sym (length-map (node_ids a) (owner_at a all numbers));
  room = let n = length-map numbers (bindings all) in omega (arith, n);
  owned = λ i o h. subst (λ k. IsNumbered k o) (sym (length-map numbers (bindings all))) (each-made (owner_at a all numbers) (IsNumbered (length numbers)) (λ id. if-numbered a all numbers (occurrence_at a id)) (node_ids a) i o h);
  held = λ i ms h. subst (λ k. AreNumbered k ms) (sym (length-map numbers (bindings all))) (each-made (λ id. members_from id 0 numbers) (AreNumbered (length numbers)) (λ id. members-numbered id 0 numbers (length numbers) (omega arith)) (node_ids a) i ms h);
  behind = λ i f h. subst (λ k. IfSome f.behind.symbol (λ s. s.0 < k)) (sym (length-map numbers (bindings all))) (each-made (facts_of a all numbers) (λ g. IfSome g.behind.symbol (λ s. s.0 < length numbers)) (λ x. behind-numbered a numbers x.scope.kind x.name) numbers i f h);
  annotations = λ i d h. subst (λ k. IfSome d (λ y. y.node.0 < k)) (sym (count-owners a all numbers)) (each-made (declaration all) (λ d2. IfSome d2 (λ y. y.node.0 < length a.nodes)) (declaration-below all (length a.nodes) below) numbers i d h);
  places = λ i ids h. subst (λ k. AreOlder k ids) (sym (count-owners a all numbers)) (each-made (bindings all) (AreOlder (length a.nodes)) (bindings-below all (length a.nodes) below) numbers i ids h);
})

-- over the occurrences of a module and its symbols it is the table of the module
pub is-table : (a : Arena) (all : List Occurrence) (numbers : List Symbol) → all ≡ occurrences a → numbers ≡ symbols all → (t : ScopeTable) → t ≡ table_of a all numbers → IsTable a t
unfolding table
is-table a all numbers e f t same = same ∙ ap (table_of a all) f ∙ ap (λ xs. table_of a xs (symbols xs)) e

pub has-owners : (a : Arena) (all : List Occurrence) (numbers : List Symbol) (t : ScopeTable) → t ≡ table_of a all numbers → length t.owners ≡ length a.nodes
unfolding table_of
has-owners a all numbers t same = ap (λ u. length u.owners) same ∙ count-owners a all numbers

-- a table made part by part
pub made-of-parts : (a : Arena) (all : List Occurrence) (numbers : List Symbol) (t : ScopeTable) → t.owners ≡ map (owner_at a all numbers) (node_ids a) → t.roles ≡ map (role_at a) (node_ids a)
    → t.facts ≡ map (facts_of a all numbers) numbers → t.declared ≡ map (declaration all) numbers → t.bound ≡ map (bindings all) numbers → t.members ≡ map (λ id. members_from id 0 numbers) (node_ids a) → t ≡ table_of a all numbers
unfolding table_of
made-of-parts a all numbers t eo er ef ed eb em = λ i. record { owners = eo i; roles = er i; facts = ef i; declared = ed i; bound = eb i; members = em i }

-- the facts of a symbol, made part by part
pub facts-made : (a : Arena) (numbers : List Symbol) (f : SymbolFacts) → f.graph ≡ graph_of a f.symbol.scope → f.behind ≡ behind_by a numbers f.symbol.scope.kind f.symbol.name → f ≡ facts_by a numbers f.symbol f.hides
unfolding facts_by
facts-made a numbers f graph behind = λ j. record { symbol = f.symbol; graph = graph j; hides = f.hides; behind = behind j }

-- facts of one symbol more
pub facts-step : (a : Arena) (all : List Occurrence) (numbers items : List Symbol) (i : ℕ) (d : Symbol) (hide : Bool) (old new : List SymbolFacts) (f : SymbolFacts) → i < length items
    → f ≡ facts_by a numbers (get_or items i d) hide → hide ≡ hides all (get_or items i d) → new ≡ old ++ f ∷ []
    → old ≡ map (facts_of a all numbers) (take i items) → new ≡ map (facts_of a all numbers) (take (i + 1) items)
facts-step a all numbers items i d hide old new f lt is hidden made before =
    let x : Symbol = get_or items i d in
    let item : slice_get items i ≡ Some x = slice_get-get_or items i d lt in
    let here : f ≡ facts_of a all numbers x = is ∙ ap (facts_by a numbers x) hidden in
    made ∙ ap (λ l. l ++ f ∷ []) before ∙ ap (λ g. map (facts_of a all numbers) (take i items) ++ g ∷ []) here
    ∙ sym (ap (map (facts_of a all numbers)) (take-next items i x item) ∙ map-append (facts_of a all numbers) (take i items) (x ∷ []))
