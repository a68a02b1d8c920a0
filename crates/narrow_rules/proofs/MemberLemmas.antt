-- The members of lists, of what is kept and of types.
use Rattle.std.proofs.Common.{◌≡◌, List, [], ◌∷◌, ◌++◌, inl, inr, refl, sym, subst, ◌∙◌, ◌⊎◌, arith}
use Rattle.std.specs.Bool.{Decides}
use Rattle.std.specs.List.{Contains, flat_map}
use Rattle.std.proofs.lemmas.List.{append-nil}
use Rattle.std.proofs.lemmas.List.Concat.{flat_map-cons}
use Rattle.std.proofs.lemmas.List.Elements.{Contains-append_left, Contains-append_right, Contains-append_cases, Contains-push_cases}
use Rattle.type_terms.specs.declared.atom.Atom.{Atom}
use Rattle.type_terms.specs.Types.{has, type_of}
use Rattle.narrow_rules.specs.declared.sides.Kept.{Kept}
use Rattle.narrow_rules.specs.declared.sides.Kept.TheVariants.{Itself, Nothing, Others}
use Rattle.narrow_rules.specs.Keep.{members, both, of_kept}
use Rattle.narrow_rules.specs.Laws.{HaveSame}

module _ {X : Type 0} where
  pub none_in : (x : X) → Contains [] x → ⊥
  none_in x h = let lt = h.1 in omega arith

  pub first_in : (x : X) (xs : List X) → Contains (x ∷ xs) x
  first_in x xs = (0, omega arith, refl)

  pub later_in : (x : X) (xs : List X) (y : X) → Contains xs y → Contains (x ∷ xs) y
  later_in x xs y h = Contains-append_right (x ∷ []) xs y h

  pub in_cases : (x : X) (xs : List X) (y : X) → Contains (x ∷ xs) y → (x ≡ y) ⊎ Contains xs y
  in_cases x xs y h = elim (Contains-append_cases (x ∷ []) xs y h) [
    | inl one ↦ elim (Contains-push_cases [] x y one) [ inl none ↦ absurd (none_in y none) | inr same ↦ inl same ]
    | inr rest ↦ inr rest
  ]

module _ {X Y : Type 0} where
  pub flat_in : (f : X → List Y) (xs : List X) (a : X) (b : Y) → Contains xs a → Contains (f a) b → Contains (flat_map f xs) b
  flat_in f [] a b h k = absurd (none_in a h)
  flat_in f (x ∷ xs) a b h k =
      subst (λ ys. Contains ys b) (sym (flat_map-cons f x xs)) (elim (in_cases x xs a h) [
        | inl same ↦ Contains-append_left (f x) (flat_map f xs) b (subst (λ z. Contains (f z) b) (sym same) k)
        | inr rest ↦ Contains-append_right (f x) (flat_map f xs) b (flat_in f xs a b rest k)
      ])

  -- what holds of each element of each part holds of each element of the whole
  pub flat_all : (P : Y → Type 0) (f : X → List Y) (xs : List X) → ((a : X) (b : Y) → Contains xs a → Contains (f a) b → P b) → (b : Y) → Contains (flat_map f xs) b → P b
  flat_all P f [] h b at = absurd (none_in b at)
  flat_all P f (x ∷ xs) h b at = elim (Contains-append_cases (f x) (flat_map f xs) b (subst (λ ys. Contains ys b) (flat_map-cons f x xs) at)) [
    | inl here ↦ h x b (first_in x xs) here
    | inr there ↦ flat_all P f xs (λ a c i k. h a c (later_in x xs a i) k) b there
  ]

  pub flat_rises : (f : X → List Y) (xs ys : List X) → ((a : X) → Contains xs a → Contains ys a) → (b : Y) → Contains (flat_map f xs) b → Contains (flat_map f ys) b
  flat_rises f xs ys inside = flat_all (λ b. Contains (flat_map f ys) b) f xs (λ a b at k. flat_in f ys a b (inside a at) k)

-- lists with the same members
pub same_refl : (xs : List Atom) → HaveSame xs xs
same_refl xs = (λ a at. at, λ a at. at)

pub same_by : (xs ys : List Atom) → xs ≡ ys → HaveSame xs ys
same_by xs ys e = subst (HaveSame xs) e (same_refl xs)

pub same_then : (xs ys zs : List Atom) → HaveSame xs ys → HaveSame ys zs → HaveSame xs zs
same_then xs ys zs h k = (λ a at. k.0 a (h.0 a at), λ a at. h.1 a (k.1 a at))

pub same_twice : (a : Atom) → HaveSame (a ∷ []) ((a ∷ []) ++ a ∷ [])
same_twice a = (
  λ b at. Contains-append_left (a ∷ []) (a ∷ []) b at,
  λ b at. elim (Contains-append_cases (a ∷ []) (a ∷ []) b at) [ inl left ↦ left | inr right ↦ right ],
)

pub same_members : ((type : List Atom) (a : Atom) → Decides (has type a) (Contains type a)) → ((atoms : List Atom) (a : Atom) → has (type_of atoms) a ≡ has atoms a)
    → (xs : List Atom) → HaveSame (type_of xs) xs
same_members decides members xs = (
  λ a at. (decides xs a).0 (sym (members xs a) ∙ (decides (type_of xs) a).1 at),
  λ a at. (decides (type_of xs) a).0 (members xs a ∙ (decides xs a).1 at),
)

module _ (types : (xs : List Atom) → HaveSame (type_of xs) xs) where
  pub both_same : (a : Atom) (one other : Kept) → HaveSame (members (both a one other) a) (members one a ++ members other a)
  both_same a Nothing other = same_refl (members other a)
  both_same a Itself Nothing = same_refl (a ∷ [])
  both_same a (Others type) Nothing = same_by type (type ++ []) (sym (append-nil type))
  both_same a Itself Itself = same_twice a
  both_same a Itself (Others type) = types ((a ∷ []) ++ type)
  both_same a (Others type) Itself = types (type ++ a ∷ [])
  both_same a (Others type) (Others more) = types (type ++ more)

  pub of_kept_same : (keeps : Atom → Kept) (a : Atom) (one : Kept) → HaveSame (members (of_kept keeps a one) a) (flat_map (λ b. members (keeps b) b) (members one a))
  of_kept_same keeps a Itself = same_by _ _ (sym (flat_map-cons (λ b. members (keeps b) b) a [] ∙ append-nil (members (keeps a) a)))
  of_kept_same keeps a Nothing = same_refl []
  of_kept_same keeps a (Others type) = types (flat_map (λ b. members (keeps b) b) type)
