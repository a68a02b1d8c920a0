-- Two types merged: what has been taken, and what is left of each.
use Rattle.std.proofs.Common.{◌≡◌, ℕ, ◌<◌, ◌+◌, length, drop, get_or, drop-cons, add-one, Bool, true, false, ◌||◌, List, [], ◌∷◌, ◌++◌, refl, sym, ap, ◌∙◌, subst, append_assoc}
use Rattle.std.proofs.lemmas.List.{append-nil}
use Rattle.std.specs.declared.cmp.Ordering.TheVariants.{Less, Equal, Greater}
use Rattle.std.specs.Ordering.{eq_by_cmp}
use Rattle.type_terms.specs.declared.atom.Atom.{Atom}
use Rattle.type_terms.specs.Order.{atom_cmp}
use Rattle.type_terms.specs.Types.{IsType, has, union}
use Rattle.type_terms.proofs.OrderLaws.{atom_cmp_total, atom_cmp_tells}
use Rattle.type_terms.proofs.SetLaws.{between, turned}
use Rattle.type_terms.proofs.TypeLaws.{has-append, has-union, union-IsType, same_types}

pub record Merges (left right taken xs ys : List Atom) : Type 0 where
  pub first : IsType (taken ++ xs)
  pub second : IsType (taken ++ ys)
  pub members : (a : Atom) → (has (taken ++ xs) a || has ys a) ≡ (has left a || has right a)

pub begins : (left right : List Atom) → IsType left → IsType right → Merges left right [] left right
begins left right h k = record { first = h; second = k; members = λ a. refl }

-- one more taken is the first of what is left
moved : (taken xs : List Atom) (x : Atom) → taken ++ x ∷ xs ≡ (taken ++ x ∷ []) ++ xs
moved taken xs x = sym (append_assoc taken (x ∷ []) xs)

swap_in : (t e m r : Bool) → (((t || (e || false)) || m) || r) ≡ ((t || m) || (e || r))
swap_in true e m r = refl
swap_in false true true r = refl
swap_in false true false r = refl
swap_in false false m r = refl

once : (t e m r : Bool) → (((t || (e || false)) || m) || r) ≡ ((t || (e || m)) || (e || r))
once true e m r = refl
once false true m r = refl
once false false m r = refl

has-taken : (taken xs : List Atom) (y a : Atom) → has ((taken ++ y ∷ []) ++ xs) a ≡ ((has taken a || (eq_by_cmp atom_cmp a y || false)) || has xs a)
unfolding has
has-taken taken xs y a = has-append (taken ++ y ∷ []) xs a ∙ ap (λ b. b || has xs a) (has-append taken (y ∷ []) a)

has-first : (x : Atom) (xs : List Atom) (a : Atom) → has (x ∷ xs) a ≡ (eq_by_cmp atom_cmp a x || has xs a)
unfolding has
has-first x xs a = refl

pub take_left : (left right taken xs ys : List Atom) (x y : Atom) → Less ≡ atom_cmp x y → Merges left right taken (x ∷ xs) (y ∷ ys) → Merges left right (taken ++ x ∷ []) xs (y ∷ ys)
take_left left right taken xs ys x y e m = record {
  first = subst IsType (moved taken xs x) m.first;
  second = subst IsType (moved taken (y ∷ ys) x) (between atom_cmp_total atom_cmp_tells taken xs ys x y m.first m.second (sym e));
  members = λ a. ap (λ l. has l a || has (y ∷ ys) a) (sym (moved taken xs x)) ∙ m.members a;
}

pub take_right : (left right taken xs ys : List Atom) (x y : Atom) → Greater ≡ atom_cmp x y → Merges left right taken (x ∷ xs) (y ∷ ys) → Merges left right (taken ++ y ∷ []) (x ∷ xs) ys
take_right left right taken xs ys x y e m = record {
  first = subst IsType (moved taken (x ∷ xs) y) (between atom_cmp_total atom_cmp_tells taken ys xs y x m.second m.first (turned atom_cmp_total atom_cmp_tells x y (sym e)));
  second = subst IsType (moved taken ys y) m.second;
  members = λ a.
      ap (λ b. b || has ys a) (has-taken taken (x ∷ xs) y a)
      ∙ swap_in (has taken a) (eq_by_cmp atom_cmp a y) (has (x ∷ xs) a) (has ys a)
      ∙ rw (← has-append taken (x ∷ xs) a, ← has-first y ys a) (m.members a);
}

pub take_both : (left right taken xs ys : List Atom) (x y : Atom) → Equal ≡ atom_cmp x y → Merges left right taken (x ∷ xs) (y ∷ ys) → Merges left right (taken ++ x ∷ []) xs ys
take_both left right taken xs ys x y e m =
    let same : x ≡ y = atom_cmp_tells x y (sym e) in
    let n : Merges left right taken (x ∷ xs) (x ∷ ys) = subst (λ z. Merges left right taken (x ∷ xs) (z ∷ ys)) (sym same) m in
    record {
      first = subst IsType (moved taken xs x) n.first;
      second = subst IsType (moved taken ys x) n.second;
      members = λ a.
          ap (λ b. b || has ys a) (has-taken taken xs x a)
          ∙ once (has taken a) (eq_by_cmp atom_cmp a x) (has xs a) (has ys a)
          ∙ rw (← has-first x xs a, ← has-append taken (x ∷ xs) a, ← has-first x ys a) (n.members a);
    }

-- where nothing is left of one, the rest of the other completes the union
pub left_ends : (left right taken ys : List Atom) → Merges left right taken [] ys → taken ++ ys ≡ union left right
left_ends left right taken ys m =
    same_types (taken ++ ys) (union left right) m.second (union-IsType left right)
    (λ a. has-append taken ys a ∙ ap (λ l. has l a || has ys a) (sym (append-nil taken)) ∙ m.members a ∙ sym (has-union left right a))

or-false : (b : Bool) → b ≡ (b || false)
or-false true = refl
or-false false = refl

has-none : (a : Atom) → has [] a ≡ false
unfolding has
has-none a = refl

pub right_ends : (left right taken xs : List Atom) → Merges left right taken xs [] → taken ++ xs ≡ union left right
right_ends left right taken xs m =
    same_types (taken ++ xs) (union left right) m.first (union-IsType left right)
    (λ a. or-false (has (taken ++ xs) a) ∙ rw (← has-none a) (m.members a ∙ sym (has-union left right a)))

pub opened : {X : Type 0} (xs : List X) (i : ℕ) (x : X) → i < length xs → x ≡ get_or xs i x → drop i xs ≡ x ∷ drop (i + 1) xs
opened xs i x within is = rw (drop-cons xs i x, ← is, add-one i) refl
