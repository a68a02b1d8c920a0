-- Members of lists, and lists that match element by element, in whatever order.
use Rattle.std.proofs.Common.{◌≡◌, List, [], ◌∷◌, ◌++◌, Option, Some, None, inl, inr, ◌⊎◌, refl, sym, ap, subst, ◌∙◌, arith}
use Rattle.std.specs.Prelude.{All, Contains, filter_map, slice_index_or}
use Rattle.std.specs.List.{Any, cons_option}
use Rattle.assign_rules.specs.Places.{Match}
use Rattle.std.proofs.lemmas.List.Elements.{Contains-append_left, Contains-append_right, Contains-append_cases, Contains-push_cases, Contains-push, Contains-get_or}

module _ {X : Type 0} where
  pub none_in : (x : X) → Contains [] x → ⊥
  none_in x h = let within = h.1 in omega arith

  pub first_in : (x : X) (xs : List X) → Contains (x ∷ xs) x
  first_in x xs = (0, omega arith, refl)

  pub later_in : (x : X) (xs : List X) (y : X) → Contains xs y → Contains (x ∷ xs) y
  later_in x xs y h = Contains-append_right (x ∷ []) xs y h

  pub in_cases : (x : X) (xs : List X) (y : X) → Contains (x ∷ xs) y → (x ≡ y) ⊎ Contains xs y
  in_cases x xs y h = elim (Contains-append_cases (x ∷ []) xs y h) [
    | inl one ↦ elim (Contains-push_cases [] x y one) [ inl none ↦ absurd (none_in y none) | inr same ↦ inl same ]
    | inr rest ↦ inr rest
  ]

  pub any_of : (P : X → Type 0) (xs : List X) (x : X) → Contains xs x → P x → Any P xs
  any_of P xs x h p = (h.0, x, h.1, h.2, p)

  pub one_of : (P : X → Type 0) (xs : List X) → Any P xs → (x : X) × Contains xs x × P x
  one_of P xs h = (h.1, (h.0, h.2, h.3), h.4)

  pub all_of : (P : X → Type 0) (xs : List X) → ((x : X) → Contains xs x → P x) → All P xs
  all_of P xs f k d within = f (slice_index_or xs k d) (Contains-get_or xs k d within)

module _ {X Y : Type 0} where
  -- what a function gives for an element is among what it gives for all
  pub mapped_in : (f : X → Option Y) (xs : List X) (x : X) (y : Y) → Contains xs x → f x ≡ Some y → Contains (filter_map f xs) y
  mapped_in f [] x y h e = absurd (none_in x h)
  mapped_in f (z ∷ xs) x y h e = elim (in_cases z xs x h) [
    | inl same ↦ subst (λ o. Contains (cons_option o (filter_map f xs)) y) (sym (ap f same ∙ e)) (first_in y (filter_map f xs))
    | inr rest ↦ elim (f z) as (λ o. Contains (cons_option o (filter_map f xs)) y) [
      | Some w ↦ later_in w (filter_map f xs) y (mapped_in f xs x y rest e)
      | None ↦ mapped_in f xs x y rest e
    ]
  ]

  pub mapped_from : (f : X → Option Y) (xs : List X) (y : Y) → Contains (filter_map f xs) y → (x : X) × Contains xs x × (f x ≡ Some y)
  mapped_from f [] y h = absurd (none_in y h)
  mapped_from f (x ∷ xs) y h = elim (f x) as (λ o. f x ≡ o → Contains (cons_option o (filter_map f xs)) y → (z : X) × Contains (x ∷ xs) z × (f z ≡ Some y)) [
    | Some w ↦ λ is in_one. elim (in_cases w (filter_map f xs) y in_one) [
      | inl same ↦ (x, first_in x xs, is ∙ ap (λ v. Some v) same)
      | inr rest ↦ let found = mapped_from f xs y rest in (found.0, later_in x xs found.0 found.1, found.2)
    ]
    | None ↦ λ is in_rest. let found = mapped_from f xs y in_rest in (found.0, later_in x xs found.0 found.1, found.2)
  ] refl h

  pub match_none : (R : X → Y → Type 0) → Match R [] []
  match_none R = record { forth = λ x h. absurd (none_in x h); back = λ y h. absurd (none_in y h) }

  pub match_weaker : (R S : X → Y → Type 0) → ((x : X) (y : Y) → R x y → S x y) → (xs : List X) (ys : List Y) → Match R xs ys → Match S xs ys
  match_weaker R S f xs ys m = record {
    forth = λ x h. let found = m.forth x h in (found.0, found.1, f x found.0 found.2);
    back = λ y h. let found = m.back y h in (found.0, found.1, f found.0 y found.2);
  }

  pub match_more : (R : X → Y → Type 0) (xs : List X) (ys : List Y) (x : X) (y : Y) → Match R xs ys → R x y → Match R (x ∷ xs) (ys ++ y ∷ [])
  match_more R xs ys x y m r = record {
    forth = λ z h. elim (in_cases x xs z h) as (λ _. (w : Y) × Contains (ys ++ y ∷ []) w × R z w) [
      | inl same ↦ (y, Contains-push ys y, subst (λ v. R v y) same r)
      | inr rest ↦ let found = m.forth z rest in (found.0, Contains-append_left ys (y ∷ []) found.0 found.1, found.2)
    ];
    back = λ z h. elim (Contains-push_cases ys y z h) as (λ _. (w : X) × Contains (x ∷ xs) w × R w z) [
      | inl rest ↦ let found = m.back z rest in (found.0, later_in x xs found.0 found.1, found.2)
      | inr same ↦ (x, first_in x xs, subst (λ v. R x v) same r)
    ];
  }
