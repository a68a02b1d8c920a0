-- Lists by their items, and lists made for each of the first numbers.
use Rattle.std.proofs.Common.{◌≡◌, ℕ, zero, suc, ◌+◌, ◌<◌, List, [], ◌∷◌, ◌++◌, length, drop, get_or, map, refl, sym, ap, subst, ◌∙◌, length-append, arith, inl, inr}
use Rattle.std.specs.Prelude.{Some, option_map, slice_get, slice_set}
use Rattle.std.proofs.Math.Seq.{drop-cons}
use Rattle.std.proofs.lemmas.Bool.{cases_lt}
use Rattle.std.proofs.lemmas.List.{length-map}
use Rattle.std.proofs.lemmas.Option.{slice_get_within, slice_get_past, slice_get-map, get_or_from_slice_get}
use Rattle.py_base.specs.declared.ids.NodeId.{NodeId}
use Rattle.node_shapes.specs.Items.{first_ids}

-- what is left of a list begins with the item that is next
pub drop-next : {X : Type 0} (xs : List X) (i : ℕ) (x : X) → slice_get xs i ≡ Some x → drop i xs ≡ x ∷ drop (i + 1) xs
drop-next xs i x e =
    let within = slice_get_within xs i x e in
    let here : get_or xs i x ≡ x = get_or_from_slice_get xs i x x e in
    let next : i + 1 ≡ suc i = omega arith in
    drop-cons xs i x within ∙ ap (λ y. y ∷ drop (suc i) xs) here ∙ ap (λ k. x ∷ drop k xs) (sym next)

pub get-set_same : {X : Type 0} (xs : List X) (k : ℕ) (y : X) → k < length xs → slice_get (slice_set xs k y) k ≡ Some y
get-set_same [] k y lt = absurd (omega arith)
get-set_same (x ∷ xs) zero y lt = refl
get-set_same (x ∷ xs) (suc k) y lt = get-set_same xs k y (omega arith)

pub get-set_other : {X : Type 0} (xs : List X) (k i : ℕ) (y : X) → (k ≡ i → ⊥) → slice_get (slice_set xs k y) i ≡ slice_get xs i
get-set_other [] k i y ne = refl
get-set_other (x ∷ xs) zero zero y ne = absurd (ne refl)
get-set_other (x ∷ xs) zero (suc i) y ne = refl
get-set_other (x ∷ xs) (suc k) zero y ne = refl
get-set_other (x ∷ xs) (suc k) (suc i) y ne = get-set_other xs k i y (λ e. ne (ap suc e))

get-left : {X : Type 0} (xs ys : List X) (i : ℕ) → i < length xs → slice_get (xs ++ ys) i ≡ slice_get xs i
get-left [] ys i lt = absurd (omega arith)
get-left (x ∷ xs) ys zero lt = refl
get-left (x ∷ xs) ys (suc i) lt = get-left xs ys i (omega arith)

get-last : {X : Type 0} (xs : List X) (x : X) → slice_get (xs ++ x ∷ []) (length xs) ≡ Some x
get-last [] x = refl
get-last (y ∷ xs) x = get-last xs x

pub length-ids : (n : ℕ) → length (first_ids n) ≡ n
length-ids zero = refl
length-ids (suc n) = omega (arith, length-append (first_ids n) (record { 0 = n } ∷ []), length-ids n)

pub ids-next : (n : ℕ) → first_ids (n + 1) ≡ first_ids n ++ record { 0 = n } ∷ []
ids-next n = let next : n + 1 ≡ suc n = omega arith in ap first_ids next

pub get-ids : (n i : ℕ) → i < n → slice_get (first_ids n) i ≡ Some (record { 0 = i })
get-ids zero i lt = absurd (omega arith)
get-ids (suc n) i lt = elim (cases_lt i n) [
  | inl h ↦ get-left (first_ids n) (record { 0 = n } ∷ []) i (subst (λ k. i < k) (sym (length-ids n)) h) ∙ get-ids n i h
  | inr h ↦ let same : i ≡ n = omega arith in
      ap (slice_get (first_ids n ++ record { 0 = n } ∷ [])) (same ∙ sym (length-ids n)) ∙ get-last (first_ids n) (record { 0 = n }) ∙ ap (λ k. Some (record { 0 = k })) (sym same)
]

same-by-get : {X : Type 0} (xs ys : List X) → ((i : ℕ) → slice_get xs i ≡ slice_get ys i) → xs ≡ ys
same-by-get [] [] h = refl
same-by-get [] (y ∷ ys) h = let e = h 0 in absurd (cc e)
same-by-get (x ∷ xs) [] h = let e = h 0 in absurd (cc e)
same-by-get (x ∷ xs) (y ∷ ys) h =
    let e = h 0 in
    let same : x ≡ y = cc e in
    let rest = same-by-get xs ys (λ i. h (suc i)) in
    λ j. same j ∷ rest j

pub length-made : {Y : Type 0} (f : NodeId → Y) (n : ℕ) → length (map f (first_ids n)) ≡ n
length-made f n = length-map (first_ids n) f ∙ length-ids n

pub get-made : {Y : Type 0} (f : NodeId → Y) (n i : ℕ) → i < n → slice_get (map f (first_ids n)) i ≡ Some (f (record { 0 = i }))
get-made f n i lt = slice_get-map f (first_ids n) i ∙ ap (option_map f) (get-ids n i lt)

pub made-by-get : {Y : Type 0} (f : NodeId → Y) (n : ℕ) (ys : List Y) → length ys ≡ n → ((i : ℕ) → i < n → slice_get ys i ≡ Some (f (record { 0 = i }))) → ys ≡ map f (first_ids n)
made-by-get f n ys count h = same-by-get ys (map f (first_ids n)) (λ i. elim (cases_lt i n) [
  | inl lt ↦ h i lt ∙ sym (get-made f n i lt)
  | inr ge ↦ slice_get_past ys i (omega (arith, count)) ∙ sym (slice_get_past (map f (first_ids n)) i (omega (arith, length-made f n)))
])
