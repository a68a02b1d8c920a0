-- What a look-up gives stands in the list of all that look-ups give.
use Rattle.std.proofs.Common.{◌≡◌, ◌+◌, ◌||◌, ℕ, zero, suc, Bool, true, false, cond, List, [], ◌∷◌, refl, sym, subst, arith, Option, Some, None}
use Rattle.std.specs.Prelude.{find, slice_get, bytes_eq}
use Rattle.std.specs.List.{Contains, flat_map, list_any, position_from}
use Rattle.std.proofs.lemmas.List.Elements.{Contains-append_left, Contains-append_right}
use Rattle.std.proofs.lemmas.Slice.Eq.{bytes_eq-Decides}

module _ {X Y : Type 0} where
  -- of an element at a place
  pub flat_at : (f : X → List Y) (xs : List X) (k : ℕ) (x : X) (y : Y) → slice_get xs k ≡ Some x → Contains (f x) y → Contains (flat_map f xs) y
  flat_at f [] k x y e h = cc
  flat_at f (z ∷ xs) zero x y e h = let same : z ≡ x = cc in Contains-append_left (f z) (flat_map f xs) y (subst (λ w. Contains (f w) y) (sym same) h)
  flat_at f (z ∷ xs) (suc k) x y e h = Contains-append_right (f z) (flat_map f xs) y (flat_at f xs k x y e h)

  -- of an element that is found
  pub flat_found : (p : X → Bool) (f : X → List Y) (xs : List X) (x : X) (y : Y) → find p xs ≡ Some x → Contains (f x) y → Contains (flat_map f xs) y
  flat_found p f [] x y e h = cc
  flat_found p f (z ∷ xs) x y e h = step (p z) (λ e. flat_found p f xs x y e h) e
    where
      step : (b : Bool) → (find p xs ≡ Some x → Contains (flat_map f xs) y) → cond b (Some z) (find p xs) ≡ Some x → Contains (flat_map f (z ∷ xs)) y
      step true later e = let same : z ≡ x = cc in Contains-append_left (f z) (flat_map f xs) y (subst (λ w. Contains (f w) y) (sym same) h)
      step false later e = Contains-append_right (f z) (flat_map f xs) y (later e)

-- of a text among these
pub flat_among : {Y : Type 0} (f : List ℕ → List Y) (texts : List (List ℕ)) (text : List ℕ) (y : Y) → list_any (bytes_eq text) texts ≡ true → Contains (f text) y → Contains (flat_map f texts) y
flat_among f [] text y e h = cc
flat_among f (t ∷ texts) text y e h = step (bytes_eq text t) refl (λ e. flat_among f texts text y e h) e
  where
    step : (b : Bool) → bytes_eq text t ≡ b → (list_any (bytes_eq text) texts ≡ true → Contains (flat_map f texts) y) → (b || list_any (bytes_eq text) texts) ≡ true → Contains (flat_map f (t ∷ texts)) y
    step true s later e = Contains-append_left (f t) (flat_map f texts) y (subst (λ w. Contains (f w) y) ((bytes_eq-Decides text t).0 s) h)
    step false s later e = Contains-append_right (f t) (flat_map f texts) y (later e)

-- the element at the place that is found passes the test
abbrev pub passes : {X : Type 0} → (X → Bool) → Option X → Bool
passes p None = false
passes p (Some x) = p x

pub place_passes : {X : Type 0} (p : X → Bool) (xs : List X) (i k : ℕ) → position_from p i xs ≡ Some k → (j : ℕ) × (k ≡ i + j) × (passes p (slice_get xs j) ≡ true)
place_passes p [] i k e = cc
place_passes {X} p (x ∷ xs) i k e = step (p x) refl (place_passes p xs (i + 1) k) e
  where
    step : (b : Bool) → p x ≡ b → (position_from p (i + 1) xs ≡ Some k → (j : ℕ) × (k ≡ i + 1 + j) × (passes p (slice_get xs j) ≡ true))
        → cond b (Some i) (position_from p (i + 1) xs) ≡ Some k → (j : ℕ) × (k ≡ i + j) × (passes p (slice_get (x ∷ xs) j) ≡ true)
    step true s later e = let same : i ≡ k = cc in (0, omega (arith, same), s)
    step false s later e = let (j, at, h) = later e in (suc j, omega (arith, at), h)
