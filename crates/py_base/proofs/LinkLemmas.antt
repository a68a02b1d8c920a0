-- What the calls of a tree do to its names.
use Rattle.std.proofs.Common.{◌≡◌, ℕ, suc, true, false, List, [], ◌∷◌, ◌++◌, length, map, Some, refl, sym, ◌∙◌, ap, arith, slice_get, length-append}
use Rattle.std.specs.Prelude.{String, string_bytes, string_eq, bytes_eq, option_map}
use Rattle.std.specs.List.{list_any, position}
use Rattle.std.proofs.lemmas.Slice.Eq.{bytes_eq-Decides}
use Rattle.std.proofs.lemmas.Option.{slice_get-map}
use Rattle.std.proofs.lemmas.List.{map-append, length-map}
use Rattle.indexmap.specs.IndexSet.{insert_key}
use Rattle.py_base.specs.declared.node.Node.{Node}
use Rattle.py_base.specs.Tree.{Arena, with_name, number_of_name}
use Rattle.py_base.proofs.NameLemmas.{any-map, place-map, place-none, place-found, position-found}

-- a name that is found
pub name_found : {Z : Type 0} (keys : List (String Z)) (name : List ℕ) (i : ℕ) → position (λ k. bytes_eq name (string_bytes k)) keys ≡ Some i → (i ≡ number_of_name (map string_bytes keys) name) × (slice_get (map string_bytes keys) i ≡ Some name) × (map string_bytes keys ≡ with_name (map string_bytes keys) name)
name_found {Z} keys name i e =
    let p = λ (k : String Z). bytes_eq name (string_bytes k) in
    let (at, less) = position-found p keys i e in
    let (any, k, is, passes) = place-found p keys (omega arith) in
    let same : name ≡ string_bytes k = (bytes_eq-Decides name (string_bytes k)).0 passes in
    let known : list_any (bytes_eq name) (map string_bytes keys) ≡ true = any-map (bytes_eq name) string_bytes keys ∙ any in
    let stored : slice_get (map string_bytes keys) i ≡ Some (string_bytes k) = slice_get-map string_bytes keys i ∙ ap (λ n. option_map string_bytes (slice_get keys n)) at ∙ ap (λ o. option_map string_bytes o) is in
    (at ∙ sym (place-map (bytes_eq name) string_bytes keys), stored ∙ ap (λ n. Some n) (sym same), rw known refl)

-- a name that isn't, and comes behind the others
pub name_new : {Z : Type 0} (keys new : List (String Z)) (name : List ℕ) (owned : String Z) → list_any (λ k. bytes_eq name (string_bytes k)) keys ≡ false → string_bytes owned ≡ name → new ≡ insert_key string_eq keys owned → (length keys ≡ number_of_name (map string_bytes keys) name) × (map string_bytes new ≡ with_name (map string_bytes keys) name) × (map string_bytes new ≡ map string_bytes keys ++ name ∷ []) × (length new ≡ suc (length keys))
name_new {Z} keys new name owned e is added =
    let missing : list_any (bytes_eq name) (map string_bytes keys) ≡ false = any-map (bytes_eq name) string_bytes keys ∙ e in
    let absent : list_any (string_eq owned) keys ≡ false = rw (← is) at e in
    let behind : new ≡ keys ++ owned ∷ [] = rw absent at added in
    let place : number_of_name (map string_bytes keys) name ≡ length (map string_bytes keys) = place-none (bytes_eq name) (map string_bytes keys) missing in
    let last : map string_bytes new ≡ map string_bytes keys ++ name ∷ [] = rw (behind, map-append string_bytes keys (owned ∷ []), is) refl in
    (sym (place ∙ length-map keys string_bytes), rw missing last, last, rw behind (omega (arith, length-append keys (owned ∷ []))))

-- a name comes behind names that lack it
pub name_behind : (names : List (List ℕ)) (name : List ℕ) → list_any (bytes_eq name) names ≡ false → with_name names name ≡ names ++ name ∷ []
name_behind names name e = rw e refl

pub seam : (names : List (List ℕ)) (name : List ℕ) → slice_get (names ++ name ∷ []) (length names) ≡ Some name
seam [] name = refl
seam (n ∷ names) name = seam names name

pub arena_is : (a : Arena) (names : List (List ℕ)) (nodes : List Node) → a.names ≡ names → a.nodes ≡ nodes → a ≡ record { names = names; nodes = nodes }
arena_is a names nodes e f = rw (← e, ← f) refl
