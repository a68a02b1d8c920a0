-- Finding a name among the names of a tree.
use Rattle.std.proofs.Common.{◌≡◌, ℕ, suc, ◌+◌, ◌<◌, Bool, true, false, not, ◌||◌, cond, List, [], ◌∷◌, length, map, Some, None, refl, sym, ap, arith, nat_lt, slice_get}
use Rattle.std.specs.List.{list_any, position, position_or_len}
use Rattle.std.proofs.lemmas.Bool.{ltb-true}

pub any-map : {A B : Type 0} (p : B → Bool) (f : A → B) (xs : List A) → list_any p (map f xs) ≡ list_any (λ x. p (f x)) xs
any-map p f [] = refl
any-map p f (x ∷ xs) = ap (λ b. p (f x) || b) (any-map p f xs)

pub place-map : {A B : Type 0} (p : B → Bool) (f : A → B) (xs : List A) → position_or_len p (map f xs) ≡ position_or_len (λ x. p (f x)) xs
place-map p f [] = refl
place-map p f (x ∷ xs) = ap (λ n. cond (not (p (f x))) (1 + n) 0) (place-map p f xs)

-- a list without it has its place at the end
pub place-none : {A : Type 0} (p : A → Bool) (xs : List A) → list_any p xs ≡ false → position_or_len p xs ≡ length xs
place-none p [] e = refl
place-none p (x ∷ xs) e = go (p x) e (λ h. place-none p xs h)
  where
    go : (b : Bool) → (b || list_any p xs) ≡ false → (list_any p xs ≡ false → position_or_len p xs ≡ length xs) → cond (not b) (1 + position_or_len p xs) 0 ≡ length (x ∷ xs)
    go true e h = cc
    go false e h = omega (arith, h e)

-- what stands at the place passes the test
pub place-found : {A : Type 0} (p : A → Bool) (xs : List A) → position_or_len p xs < length xs → (list_any p xs ≡ true) × (x : A) × (slice_get xs (position_or_len p xs) ≡ Some x) × (p x ≡ true)
place-found {A} p [] h = absurd (omega arith)
place-found {A} p (x ∷ xs) h = go (p x) refl h (λ k. place-found p xs k)
  where
    go : (b : Bool) → p x ≡ b → cond (not b) (1 + position_or_len p xs) 0 < length (x ∷ xs) → (position_or_len p xs < length xs → (list_any p xs ≡ true) × (y : A) × (slice_get xs (position_or_len p xs) ≡ Some y) × (p y ≡ true)) → ((b || list_any p xs) ≡ true) × (y : A) × (slice_get (x ∷ xs) (cond (not b) (1 + position_or_len p xs) 0) ≡ Some y) × (p y ≡ true)
    go true e h k = (refl, x, refl, e)
    go false e h k =
        let small : position_or_len p xs < length xs = omega arith in
        let (any, y, at, passes) = k small in
        let one : 1 + position_or_len p xs ≡ suc (position_or_len p xs) = omega arith in
        (any, y, rw one at, passes)

pub position-found : {A : Type 0} (p : A → Bool) (xs : List A) (i : ℕ) → position p xs ≡ Some i → (i ≡ position_or_len p xs) × (i < length xs)
position-found p xs i e = go (nat_lt (position_or_len p xs) (length xs)) refl e
  where
    go : (b : Bool) → nat_lt (position_or_len p xs) (length xs) ≡ b → cond b (Some (position_or_len p xs)) None ≡ Some i → (i ≡ position_or_len p xs) × (i < length xs)
    go false h e = cc
    go true h e =
        let same : position_or_len p xs ≡ i = cc in
        let less = ltb-true (position_or_len p xs) (length xs) h in
        (sym same, omega arith)
