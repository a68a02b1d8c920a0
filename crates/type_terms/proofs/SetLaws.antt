-- The laws of sets as lists that rise in a total order.
use Rattle.std.proofs.Common.{◌≡◌, ℕ, zero, suc, ◌<◌, ◌≤◌, Bool, true, false, ◌||◌, List, [], ◌∷◌, ◌++◌, length, get_or, Result, Ok, Err, refl, sym, ap, ◌∙◌, inl, inr, arith}
use Rattle.std.proofs.lemmas.Bool.{true≢false, false≢true, cases_order, cases_lt}
use Rattle.std.proofs.lemmas.List.Folds.{list_any-append, list_any_at}
use Rattle.std.specs.Cmp.{IsTotalOrder, tied_itself}
use Rattle.std.specs.FinSet.{IsAntisymmetric}
use Rattle.std.specs.List.{AllByRecursion}
use Rattle.std.specs.List.Sorted.{IsStrictlySortedBy, IsSearchInRange, IsBinarySearchResult}
use Rattle.std.specs.Result.{is_ok}
use Rattle.std.specs.declared.cmp.Ordering.{Ordering}
use Rattle.std.specs.declared.cmp.Ordering.TheVariants.{Less, Equal, Greater}
use Rattle.std.specs.Ordering.{eq_by_cmp, is_eq, ordering_reverse, ordering_index}
use Rattle.type_terms.specs.Sets.{is_member, by_order, put, set_of}

module _ {X : Type 0} (P : X → Type 0) where
  pub all_append : (xs ys : List X) → AllByRecursion P xs → AllByRecursion P ys → AllByRecursion P (xs ++ ys)
  all_append [] ys a b = b
  all_append (x ∷ xs) ys a b = (a.0, all_append xs ys a.1 b)

  pub all_front : (xs ys : List X) → AllByRecursion P (xs ++ ys) → AllByRecursion P xs
  all_front [] ys a = tt
  all_front (x ∷ xs) ys a = (a.0, all_front xs ys a.1)

  pub all_back : (xs ys : List X) → AllByRecursion P (xs ++ ys) → AllByRecursion P ys
  all_back [] ys a = a
  all_back (x ∷ xs) ys a = all_back xs ys a.1

or_left : (a b c : Bool) → (a || (b || c)) ≡ (b || (a || c))
or_left true true c = refl
or_left true false c = refl
or_left false b c = refl

or_twice : (a b : Bool) → (a || (a || b)) ≡ (a || b)
or_twice true b = refl
or_twice false b = refl

module _ {K : Type 0} {cmp : K → K → Ordering} (o : IsTotalOrder cmp) (tells : IsAntisymmetric cmp) where
  Above : K → List K → Type 0
  Above x xs = AllByRecursion (λ y. cmp x y ≡ Less) xs

  abbrev Rises : List K → Type 0
  Rises = IsStrictlySortedBy cmp

  pub turned : (x y : K) → cmp x y ≡ Greater → cmp y x ≡ Less
  turned x y e = o.antisymm y x ∙ ap ordering_reverse e

  above_lower : (x y : K) (xs : List K) → cmp x y ≡ Less → Above y xs → Above x xs
  unfolding Above
  above_lower x y [] e a = tt
  above_lower x y (z ∷ xs) e a = (o.trans x y z e a.0, above_lower x y xs e a.1)

  above_put : (x k : K) (xs : List K) → cmp x k ≡ Less → Above x xs → Above x (put cmp k xs)
  unfolding Above
  above_put x k [] e a = (e, tt)
  above_put x k (y ∷ ys) e a = elim (cmp k y) as (λ r. AllByRecursion (λ z. cmp x z ≡ Less) (by_order cmp r (k ∷ y ∷ ys) (y ∷ ys) (y ∷ put cmp k ys))) [
    | Less ↦ (e, a)
    | Equal ↦ a
    | Greater ↦ (a.0, above_put x k ys e a.1)
  ]

  pub rises_put : (k : K) (xs : List K) → Rises xs → Rises (put cmp k xs)
  unfolding IsStrictlySortedBy Above
  rises_put k [] h = (tt, tt)
  rises_put k (y ∷ ys) h = elim (cmp k y) as (λ r. cmp k y ≡ r → IsStrictlySortedBy cmp (by_order cmp r (k ∷ y ∷ ys) (y ∷ ys) (y ∷ put cmp k ys))) [
    | Less ↦ λ e. ((e, above_lower k y ys e h.0), h)
    | Equal ↦ λ e. h
    | Greater ↦ λ e. (above_put y k ys (turned k y e) h.0, rises_put k ys h.1)
  ] refl

  pub rises_none : Rises []
  unfolding IsStrictlySortedBy
  rises_none = tt

  pub rises_one : (x : K) → Rises (x ∷ [])
  unfolding IsStrictlySortedBy
  rises_one x = (tt, tt)

  pub rises_set_of : (xs : List K) → Rises (set_of cmp xs)
  unfolding IsStrictlySortedBy
  rises_set_of [] = tt
  rises_set_of (x ∷ xs) = rises_put x (set_of cmp xs) (rises_set_of xs)

  tied : (q k y : K) → cmp k y ≡ Equal → eq_by_cmp cmp q k ≡ eq_by_cmp cmp q y
  tied q k y e = ap (eq_by_cmp cmp q) (tells k y e)

  pub member_put : (k : K) (xs : List K) (q : K) → is_member cmp (put cmp k xs) q ≡ (eq_by_cmp cmp q k || is_member cmp xs q)
  member_put k [] q = refl
  member_put k (y ∷ ys) q = elim (cmp k y) as (λ r. cmp k y ≡ r → is_member cmp (by_order cmp r (k ∷ y ∷ ys) (y ∷ ys) (y ∷ put cmp k ys)) q ≡ (eq_by_cmp cmp q k || (eq_by_cmp cmp q y || is_member cmp ys q))) [
    | Less ↦ λ e. refl
    | Equal ↦ λ e. sym (ap (λ b. b || (eq_by_cmp cmp q y || is_member cmp ys q)) (tied q k y e) ∙ or_twice (eq_by_cmp cmp q y) (is_member cmp ys q))
    | Greater ↦ λ e. ap (λ b. eq_by_cmp cmp q y || b) (member_put k ys q) ∙ or_left (eq_by_cmp cmp q y) (eq_by_cmp cmp q k) (is_member cmp ys q)
  ] refl

  pub member_set_of : (xs : List K) (q : K) → is_member cmp (set_of cmp xs) q ≡ is_member cmp xs q
  member_set_of [] q = refl
  member_set_of (x ∷ xs) q = member_put x (set_of cmp xs) q ∙ ap (λ b. eq_by_cmp cmp q x || b) (member_set_of xs q)

  -- what lies below each member is none
  below_is_none : (q : K) (xs : List K) → Above q xs → is_member cmp xs q ≡ false
  unfolding Above
  below_is_none q [] a = refl
  below_is_none q (x ∷ xs) a = rw a.0 (below_is_none q xs a.1)

  pub itself : (x : K) → eq_by_cmp cmp x x ≡ true
  itself x = ap is_eq (tied_itself o x)

  first_is : (x : K) (xs : List K) → is_member cmp (x ∷ xs) x ≡ true
  first_is x xs = ap (λ b. b || is_member cmp xs x) (itself x)

  -- of two sets with the same members, neither begins below the other
  not_below : (x y : K) (xs ys : List K) → Above y ys → cmp x y ≡ Less → is_member cmp (x ∷ xs) x ≡ is_member cmp (y ∷ ys) x → ⊥
  unfolding Above
  not_below x y xs ys a e same = true≢false (sym (first_is x xs) ∙ same ∙ below_is_none x (y ∷ ys) (e, above_lower x y ys e a))

  rest_same : (x : K) (xs ys : List K) → Above x xs → Above x ys → ((q : K) → is_member cmp (x ∷ xs) q ≡ is_member cmp (x ∷ ys) q) → (q : K) → is_member cmp xs q ≡ is_member cmp ys q
  rest_same x xs ys a b same q =
      elim (cmp q x) as (λ r. cmp q x ≡ r → (is_eq r || is_member cmp xs q) ≡ (is_eq r || is_member cmp ys q) → is_member cmp xs q ≡ is_member cmp ys q) [
        | Less ↦ λ e s. s
        | Equal ↦ λ e s. let same_one = tells q x e in rw (same_one, below_is_none x xs a, below_is_none x ys b) refl
        | Greater ↦ λ e s. s
      ] refl (same q)

  -- two sets with the same members are equal
  pub same_sets : (xs ys : List K) → Rises xs → Rises ys → ((q : K) → is_member cmp xs q ≡ is_member cmp ys q) → xs ≡ ys
  unfolding IsStrictlySortedBy Above
  same_sets [] [] h k same = refl
  same_sets [] (y ∷ ys) h k same = absurd (false≢true (same y ∙ first_is y ys))
  same_sets (x ∷ xs) [] h k same = absurd (true≢false (sym (first_is x xs) ∙ same x))
  same_sets (x ∷ xs) (y ∷ ys) h k same =
      elim (cmp x y) as (λ r. cmp x y ≡ r → x ∷ xs ≡ y ∷ ys) [
        | Less ↦ λ e. absurd (not_below x y xs ys k.0 e (same x))
        | Equal ↦ λ e.
            let one = tells x y e in
            let above : AllByRecursion (λ z. cmp x z ≡ Less) ys = rw one k.0 in
            let rest = same_sets xs ys h.1 k.1 (rest_same x xs ys h.0 above (λ q. same q ∙ rw one refl)) in
            cc
        | Greater ↦ λ e. absurd (not_below y x ys xs h.0 (turned x y e) (sym (same y)))
      ] refl

  pub set_of_set : (xs : List K) → Rises xs → set_of cmp xs ≡ xs
  set_of_set xs h = same_sets (set_of cmp xs) xs (rises_set_of xs) h (member_set_of xs)

  pub member_append : (xs ys : List K) (q : K) → is_member cmp (xs ++ ys) q ≡ (is_member cmp xs q || is_member cmp ys q)
  member_append xs ys q = list_any-append (eq_by_cmp cmp q) xs ys

  -- y between what comes before and what lies above
  pub between : (front xs ys : List K) (x y : K) → Rises (front ++ x ∷ xs) → Rises (front ++ y ∷ ys) → cmp x y ≡ Less → Rises (front ++ x ∷ y ∷ ys)
  unfolding IsStrictlySortedBy Above
  between [] xs ys x y h k e = ((e, above_lower x y ys e k.0), k)
  between (f ∷ front) xs ys x y h k e =
      let first = all_back (λ z. cmp f z ≡ Less) front (x ∷ xs) h.0 in (
        all_append (λ z. cmp f z ≡ Less) front (x ∷ y ∷ ys) (all_front (λ z. cmp f z ≡ Less) front (y ∷ ys) k.0) (first.0, all_back (λ z. cmp f z ≡ Less) front (y ∷ ys) k.0),
        between front xs ys x y h.1 k.1 e,
      )

  pub rises_back : (front xs : List K) → Rises (front ++ xs) → Rises xs
  unfolding IsStrictlySortedBy
  rises_back [] xs h = h
  rises_back (f ∷ front) xs h = rises_back front xs h.1

  pub rises_without : (front xs : List K) (x : K) → Rises (front ++ x ∷ xs) → Rises (front ++ xs)
  unfolding IsStrictlySortedBy
  rises_without [] xs x h = h.1
  rises_without (f ∷ front) xs x h = (
    all_append (λ z. cmp f z ≡ Less) front xs (all_front (λ z. cmp f z ≡ Less) front (x ∷ xs) h.0) (all_back (λ z. cmp f z ≡ Less) front (x ∷ xs) h.0).1,
    rises_without front xs x h.1,
  )

  -- the elements by their places
  above_at : (x : K) (xs : List K) (i : ℕ) (d : K) → Above x xs → i < length xs → cmp x (get_or xs i d) ≡ Less
  unfolding Above
  above_at x [] i d a h = absurd (omega arith)
  above_at x (y ∷ ys) zero d a h = a.0
  above_at x (y ∷ ys) (suc i) d a h = above_at x ys i d a.1 (omega arith)

  rises_at : (xs : List K) (i j : ℕ) (d : K) → Rises xs → i < j → j < length xs → cmp (get_or xs i d) (get_or xs j d) ≡ Less
  unfolding IsStrictlySortedBy Above
  rises_at [] i j d h lt within = absurd (omega arith)
  rises_at (x ∷ xs) i zero d h lt within = absurd (omega arith)
  rises_at (x ∷ xs) zero (suc j) d h lt within = above_at x xs j d h.0 (omega arith)
  rises_at (x ∷ xs) (suc i) (suc j) d h lt within = rises_at xs i j d h.1 (omega arith) (omega arith)

  before_index : (x y q : K) → cmp x y ≡ Less → ordering_index (cmp x q) ≤ ordering_index (cmp y q)
  before_index x y q e = elim (cmp y q) as (λ r. cmp y q ≡ r → ordering_index (cmp x q) ≤ ordering_index r) [
    | Less ↦ λ l. rw (o.trans x y q e l) (omega arith)
    | Equal ↦ λ l. let one = tells y q l in rw (← one, e) (omega arith)
    | Greater ↦ λ l. elim (cmp x q) as (λ r. ordering_index r ≤ 2) [ Less ↦ omega arith | Equal ↦ omega arith | Greater ↦ omega arith ]
  ] refl

  index_rises : (xs : List K) (q : K) → Rises xs → (i j : ℕ) (d : K) → i ≤ j → j < length xs
      → ordering_index (cmp (get_or xs i d) q) ≤ ordering_index (cmp (get_or xs j d) q)
  index_rises xs q h i j d le within = elim (cases_order i j) [
    | inl same ↦ rw same (omega arith)
    | inr (inl less) ↦ before_index (get_or xs i d) (get_or xs j d) q (rises_at xs i j d h less within)
    | inr (inr more) ↦ absurd (omega arith)
  ]

  none_at : (xs : List K) (q : K) → ((k : ℕ) (d : K) → k < length xs → eq_by_cmp cmp q (get_or xs k d) ≡ false) → is_member cmp xs q ≡ false
  none_at [] q none = refl
  none_at (x ∷ xs) q none = rw (none 0 x (omega arith)) (none_at xs q (λ k d h. none (suc k) d (omega arith)))

  unlike : (y q : K) (r : Ordering) → cmp y q ≡ r → is_eq r ≡ false → eq_by_cmp cmp q y ≡ false
  unlike y q r e n = ap is_eq (o.antisymm q y ∙ ap ordering_reverse e) ∙ (elim r as (λ r. is_eq r ≡ false → is_eq (ordering_reverse r) ≡ false) [ Less ↦ λ n. n | Equal ↦ λ n. n | Greater ↦ λ n. n ]) n

  pub found_at : (xs : List K) (q : K) (i : ℕ) (d : K) → i < length xs → cmp (get_or xs i d) q ≡ Equal → is_member cmp xs q ≡ true
  found_at xs q i d within e = list_any_at (eq_by_cmp cmp q) xs i d within (let one = tells (get_or xs i d) q e in rw one (itself q))

  -- a binary search finds just the members
  pub searched_set : (xs : List K) (q : K) (r : Result ℕ ℕ) → Rises xs → IsSearchInRange r (length xs) → IsBinarySearchResult (λ y. cmp y q) xs r → is_ok r ≡ is_member cmp xs q
  searched_set xs q (Ok i) h within found = sym (found_at xs q i q within (found q))
  searched_set xs q (Err i) h within found =
      let parts = found (index_rises xs q h) in
      sym (none_at xs q (λ k d lt. elim (cases_lt k i) [
        | inl low ↦ unlike (get_or xs k d) q Less (parts.0 k d (omega arith) low) refl
        | inr high ↦ unlike (get_or xs k d) q Greater (parts.1 k d high lt) refl
      ]))
