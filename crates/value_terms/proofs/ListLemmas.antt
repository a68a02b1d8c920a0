-- Lists joined over the elements of another, by their elements.
use Rattle.std.proofs.Common.{◌≡◌, List, [], ◌∷◌, ◌++◌, inl, inr, refl, sym, ap, subst, ◌∙◌, ◌⊎◌, arith}
use Rattle.std.specs.List.{Contains, flat_map}
use Rattle.std.proofs.lemmas.List.Elements.{Contains-append_left, Contains-append_right, Contains-append_cases, Contains-push_cases}
use Rattle.value_terms.specs.Term.{where_some}

module _ {X : Type 0} where
  pub none_in : (x : X) → Contains [] x → ⊥
  none_in x h = let lt = h.1 in omega arith

  pub first_in : (x : X) (xs : List X) → Contains (x ∷ xs) x
  first_in x xs = (0, omega arith, refl)

  pub later_in : (x : X) (xs : List X) (y : X) → Contains xs y → Contains (x ∷ xs) y
  later_in x xs y h = Contains-append_right (x ∷ []) xs y h

  pub in_cases : (x : X) (xs : List X) (y : X) → Contains (x ∷ xs) y → (x ≡ y) ⊎ Contains xs y
  in_cases x xs y h = elim (Contains-append_cases (x ∷ []) xs y h) [
    | inl one ↦ elim (Contains-push_cases [] x y one) [ inl none ↦ absurd (none_in y none) | inr same ↦ inl same ]
    | inr rest ↦ inr rest
  ]

module _ {X Y : Type 0} where
  pub flat_in : (f : X → List Y) (xs : List X) (a : X) (b : Y) → Contains xs a → Contains (f a) b → Contains (flat_map f xs) b
  flat_in f [] a b h k = absurd (none_in a h)
  flat_in f (x ∷ xs) a b h k = elim (in_cases x xs a h) [
    | inl same ↦ Contains-append_left (f x) (flat_map f xs) b (subst (λ z. Contains (f z) b) (sym same) k)
    | inr rest ↦ Contains-append_right (f x) (flat_map f xs) b (flat_in f xs a b rest k)
  ]

  -- what holds of each element of each part holds of each element of the whole
  pub flat_all : (P : Y → Type 0) (f : X → List Y) (xs : List X) → ((a : X) (b : Y) → Contains xs a → Contains (f a) b → P b) → (b : Y) → Contains (flat_map f xs) b → P b
  flat_all P f [] h b at = absurd (none_in b at)
  flat_all P f (x ∷ xs) h b at = elim (Contains-append_cases (f x) (flat_map f xs) b at) [
    | inl here ↦ h x b (first_in x xs) here
    | inr there ↦ flat_all P f xs (λ a c i k. h a c (later_in x xs a i) k) b there
  ]

  pub flat_mono : (f g : X → List Y) (xs ys : List X) → ((a : X) → Contains xs a → Contains ys a) → ((a : X) (b : Y) → Contains (f a) b → Contains (g a) b) → (b : Y) → Contains (flat_map f xs) b → Contains (flat_map g ys) b
  flat_mono f g xs ys inside each = flat_all (λ b. Contains (flat_map g ys) b) f xs (λ a b at k. flat_in g ys a b (inside a at) (each a b k))

  pub flat_same : (f g : X → List Y) (xs : List X) → ((a : X) → Contains xs a → f a ≡ g a) → flat_map f xs ≡ flat_map g xs
  flat_same f g [] h = refl
  flat_same f g (x ∷ xs) h =
      let rest = flat_same f g xs (λ a i. h a (later_in x xs a i)) in
      ap (λ ys. ys ++ flat_map f xs) (h x (first_in x xs)) ∙ ap (λ ys. g x ++ ys) rest

  pub flat_none : (f : X → List Y) → ((x : X) → f x ≡ []) → (xs : List X) → flat_map f xs ≡ []
  flat_none f none [] = refl
  flat_none f none (x ∷ xs) = ap (λ ys. ys ++ flat_map f xs) (none x) ∙ flat_none f none xs

  pub some_in : (xs : List X) (ys : List Y) (a : X) (b : Y) → Contains xs a → Contains ys b → Contains (where_some xs ys) b
  some_in [] ys a b h k = absurd (none_in a h)
  some_in (x ∷ xs) ys a b h k = k

  pub some_all : (P : Y → Type 0) (xs : List X) (ys : List Y) → ((a : X) (b : Y) → Contains xs a → Contains ys b → P b) → (b : Y) → Contains (where_some xs ys) b → P b
  some_all P [] ys h b k = absurd (none_in b k)
  some_all P (x ∷ xs) ys h b k = h x b (first_in x xs) k

  pub some_same : (xs : List X) (us vs : List Y) → ((a : X) → Contains xs a → us ≡ vs) → where_some xs us ≡ where_some xs vs
  some_same [] us vs h = refl
  some_same (x ∷ xs) us vs h = h x (first_in x xs)

pub append_mono : {X : Type 0} (xs ys us vs : List X) → ((a : X) → Contains xs a → Contains us a) → ((a : X) → Contains ys a → Contains vs a) → (a : X) → Contains (xs ++ ys) a → Contains (us ++ vs) a
append_mono xs ys us vs f g a h = elim (Contains-append_cases xs ys a h) [
  | inl left ↦ Contains-append_left us vs a (f a left)
  | inr right ↦ Contains-append_right us vs a (g a right)
]

pub append_all : {X : Type 0} (P : X → Type 0) (xs ys : List X) → ((a : X) → Contains xs a → P a) → ((a : X) → Contains ys a → P a) → (a : X) → Contains (xs ++ ys) a → P a
append_all P xs ys f g a h = elim (Contains-append_cases xs ys a h) [ inl left ↦ f a left | inr right ↦ g a right ]
