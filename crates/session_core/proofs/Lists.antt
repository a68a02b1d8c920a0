-- Laws of lists and of maps that the session's tables need.
use Rattle.std.proofs.Common.{◌≡◌, ℕ, zero, suc, ◌+◌, ◌<◌, Bool, true, false, cond, Option, Some, List, [], ◌∷◌, length, get_or, slice_get, drop, drop-cons, add-one, refl, ap, sym, ◌∙◌}
use Rattle.std.proofs.lemmas.Option.{slice_get_within, get_or_from_slice_get}
use Rattle.std.specs.Map.{lookup, set_value}
use Rattle.indexmap.specs.IndexMap.{set_value_at}

-- what is left behind a place begins with the element there
pub drops : {A : Type 0} (xs : List A) (i : ℕ) (x : A) → i < length xs → x ≡ get_or xs i x → drop i xs ≡ x ∷ drop (i + 1) xs
drops xs i x within is = rw add-one (drop-cons xs i x within ∙ ap (λ y. y ∷ drop (suc i) xs) (sym is))

pub drops_at : {A : Type 0} (xs : List A) (i : ℕ) (x : A) → slice_get xs i ≡ Some x → drop i xs ≡ x ∷ drop (i + 1) xs
drops_at xs i x is = drops xs i x (slice_get_within xs i x is) (sym (get_or_from_slice_get xs i x x is))

some_same : {V : Type 0} (x v : V) → Some x ≡ Some v → v ≡ x
some_same x v is = cc

same_first : {K V : Type 0} (b : Bool) (e : K × V) (entries changed : List (K × V)) (found : Option V) (v : V) → cond b (Some e.1) found ≡ Some v → (found ≡ Some v → changed ≡ entries) → cond b ((e.0, v) ∷ entries) (e ∷ changed) ≡ e ∷ entries
same_first true (k, x) entries changed found v is later = ap (λ y. (k, y) ∷ entries) (some_same x v is)
same_first false e entries changed found v is later = ap (λ es. e ∷ es) (later is)

-- a value that is written again changes nothing
pub set_value_same : {K V : Type 0} (test : K → Bool) (entries : List (K × V)) (v : V) → lookup test entries ≡ Some v → set_value test entries v ≡ entries
set_value_same test [] v is = refl
set_value_same test (e ∷ entries) v is = same_first (test e.0) e entries (set_value test entries v) (lookup test entries) v is (set_value_same test entries v)

some_same_value : {K V : Type 0} (e f : K × V) → Some e ≡ Some f → f.1 ≡ e.1
some_same_value e f is = cc

pub set_value_at_same : {K V : Type 0} (entries : List (K × V)) (i : ℕ) (k : K) (v : V) → slice_get entries i ≡ Some (k, v) → set_value_at entries i v ≡ entries
set_value_at_same [] i k v is = refl
set_value_at_same ((l, x) ∷ entries) zero k v is = ap (λ y. (l, y) ∷ entries) (some_same_value (l, x) (k, v) is)
set_value_at_same (e ∷ entries) (suc i) k v is = ap (λ es. e ∷ es) (set_value_at_same entries i k v is)
