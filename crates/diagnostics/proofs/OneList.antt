-- A list of diagnostics has just one sorted list.
use Rattle.std.proofs.Common.{◌≡◌, List, [], ◌∷◌, ◌++◌, ◌⊎◌, inl, inr, refl, sym, subst, ap, ◌∙◌, arith}
use Rattle.std.proofs.lemmas.Cmp.{tied_itself}
use Rattle.std.proofs.lemmas.List.Elements.{All-contains, Contains-append_right, Contains-append_cases, Contains-push_cases}
use Rattle.std.proofs.lemmas.Map.Keys.{sorted_tail}
use Rattle.std.proofs.lemmas.Map.Views.{All-after_first}
use Rattle.std.specs.List.{Contains}
use Rattle.std.specs.List.Sorted.{IsStrictlySortedBy}
use Rattle.std.specs.Ordering.{ordering_reverse}
use Rattle.std.specs.declared.cmp.Ordering.TheVariants.{Less, Equal, Greater}
use Rattle.py_base.specs.declared.diag.Diag.{Diag}
use Rattle.py_base.specs.DiagOrder.{diag_cmp}
use Rattle.diagnostics.specs.SortedList.{IsSortedList}
use Rattle.diagnostics.proofs.Sorting.{total}

abbrev Rises : List Diag → Type 0
Rises = IsStrictlySortedBy diag_cmp

none_in : (d : Diag) → Contains [] d → ⊥
none_in d h = let lt = h.1 in omega arith

first_in : (d : Diag) (ds : List Diag) → Contains (d ∷ ds) d
first_in d ds = (0, omega arith, refl)

later_in : (x : Diag) (xs : List Diag) (d : Diag) → Contains xs d → Contains (x ∷ xs) d
later_in x xs d h = Contains-append_right (x ∷ []) xs d h

in_cases : (x : Diag) (xs : List Diag) (d : Diag) → Contains (x ∷ xs) d → (x ≡ d) ⊎ Contains xs d
in_cases x xs d h = elim (Contains-append_cases (x ∷ []) xs d h) [
  | inl one ↦ elim (Contains-push_cases [] x d one) [ inl none ↦ absurd (none_in d none) | inr same ↦ inl same ]
  | inr rest ↦ inr rest
]

below : (x : Diag) (xs : List Diag) (d : Diag) → Rises (x ∷ xs) → Contains xs d → diag_cmp x d ≡ Less
below x xs d h c = All-contains (λ q. diag_cmp x q ≡ Less) xs d (All-after_first diag_cmp x xs h) c

not_below_itself : (x : Diag) → diag_cmp x x ≡ Less → ⊥
not_below_itself x e = let bad : Less ≡ Equal = sym e ∙ tied_itself total x in cc

not_both_ways : (x y : Diag) → diag_cmp x y ≡ Less → diag_cmp y x ≡ Less → ⊥
not_both_ways x y e f = let bad : Less ≡ Greater = sym e ∙ total.antisymm x y ∙ ap ordering_reverse f in cc

same_first : (x : Diag) (xs : List Diag) (y : Diag) (ys : List Diag) → Rises (x ∷ xs) → Rises (y ∷ ys) → Contains (y ∷ ys) x → Contains (x ∷ xs) y → x ≡ y
same_first x xs y ys h k c d = elim (in_cases y ys x c) [
  | inl same ↦ sym same
  | inr later ↦ elim (in_cases x xs y d) [
    | inl same ↦ same
    | inr after ↦ absurd (not_both_ways x y (below x xs y h after) (below y ys x k later))
  ]
]

rest_in : (x : Diag) (xs : List Diag) (y : Diag) (ys : List Diag) → x ≡ y → Rises (x ∷ xs) → ((d : Diag) → Contains (x ∷ xs) d → Contains (y ∷ ys) d) → (d : Diag) → Contains xs d → Contains ys d
rest_in x xs y ys one h to d c = elim (in_cases y ys d (to d (later_in x xs d c))) [
  | inl same ↦ absurd (not_below_itself x (subst (λ z. diag_cmp x z ≡ Less) (sym (one ∙ same)) (below x xs d h c)))
  | inr rest ↦ rest
]

same_lists : (xs ys : List Diag) → Rises xs → Rises ys → ((d : Diag) → Contains xs d → Contains ys d) → ((d : Diag) → Contains ys d → Contains xs d) → xs ≡ ys
same_lists [] [] h k to from = refl
same_lists [] (y ∷ ys) h k to from = absurd (none_in y (from y (first_in y ys)))
same_lists (x ∷ xs) [] h k to from = absurd (none_in x (to x (first_in x xs)))
same_lists (x ∷ xs) (y ∷ ys) h k to from =
    let one = same_first x xs y ys h k (to x (first_in x xs)) (from y (first_in y ys)) in
    let rest = same_lists xs ys (sorted_tail diag_cmp x xs h) (sorted_tail diag_cmp y ys k) (rest_in x xs y ys one h to) (rest_in y ys x xs (sym one) k from) in
    cc

pub one_list : (found one other : List Diag) → IsSortedList found one → IsSortedList found other → one ≡ other
one_list found one other h k = same_lists one other h.rises k.rises (λ d c. (k.has d).1 ((h.has d).0 c)) (λ d c. (h.has d).1 ((k.has d).0 c))
