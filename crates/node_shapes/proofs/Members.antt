-- The lines of a body, one after the other.
use Rattle.std.proofs.Common.{◌≡◌, ℕ, suc, ◌+◌, ◌==◌, Bool, false, ◌&&◌, List, [], ◌∷◌, ◌++◌, take, get_or, refl, sym, ap, ◌∙◌, arith}
use Rattle.std.specs.Prelude.{Option, Some, None, slice_get, filter_map, fold}
use Rattle.std.specs.Option.{option_to_list}
use Rattle.std.specs.List.{cons_option, flat_map, list_all}
use Rattle.std.proofs.Math.Seq.{take-suc}
use Rattle.std.proofs.lemmas.Grind.{flat_map-append}
use Rattle.std.proofs.lemmas.List.Elements.{filter_map-append}
use Rattle.std.proofs.lemmas.List.Folds.{list_all-append}
use Rattle.std.proofs.lemmas.List.Sums.{fold-append}
use Rattle.std.proofs.lemmas.Option.{slice_get_within, get_or_from_slice_get}
use Rattle.node_shapes.specs.Bodies.{ends_low}

-- all of what the items of a list give
pub all-flat : {X Y : Type 0} (test : Y → Bool) (f : X → List Y) (xs : List X) → list_all test (flat_map f xs) ≡ list_all (λ x. list_all test (f x)) xs
all-flat test f [] = refl
all-flat test f (x ∷ xs) = list_all-append test (f x) (flat_map f xs) ∙ ap (λ b. list_all test (f x) && b) (all-flat test f xs)

take-next : {X : Type 0} (xs : List X) (i : ℕ) (x : X) → slice_get xs i ≡ Some x → take (i + 1) xs ≡ take i xs ++ x ∷ []
take-next xs i x e =
    let within = slice_get_within xs i x e in
    let here : get_or xs i x ≡ x = get_or_from_slice_get xs i x x e in
    let next : i + 1 ≡ suc i = omega arith in
    ap (λ k. take k xs) next ∙ take-suc xs i x within ∙ ap (λ y. take i xs ++ y ∷ []) here

one-kept : {Y : Type 0} (o : Option Y) → cons_option o [] ≡ option_to_list o
one-kept None = refl
one-kept (Some y) = refl

-- what is gathered of the items so far, with that of the next item
pub fold-next : {X Y B : Type 0} (g : B → Y → B) (b old new : B) (f : X → Option Y) (xs : List X) (i : ℕ) (x : X) (o : Option Y) → slice_get xs i ≡ Some x → new ≡ fold g old (option_to_list o) → o ≡ f x
    → old ≡ fold g b (filter_map f (take i xs)) → new ≡ fold g b (filter_map f (take (i + 1) xs))
fold-next g b old new f xs i x o item made is before =
    made ∙ ap (λ a. fold g a (option_to_list o)) before ∙ ap (λ p. fold g (fold g b (filter_map f (take i xs))) (option_to_list p)) is
    ∙ sym (ap (λ l. fold g b (filter_map f l)) (take-next xs i x item) ∙ ap (fold g b) (filter_map-append f (take i xs) (x ∷ []) ∙ ap (λ l. filter_map f (take i xs) ++ l) (one-kept (f x)))
    ∙ fold-append g b (filter_map f (take i xs)) (option_to_list (f x)))

append-none : {X : Type 0} (xs : List X) → xs ++ [] ≡ xs
append-none [] = refl
append-none (x ∷ xs) = ap (λ l. x ∷ l) (append-none xs)

-- the same, of lists that the items give
pub fold-flat : {X Y Z B : Type 0} (g : B → Z → B) (b old new : B) (f : Y → Option Z) (flat : X → List Y) (xs : List X) (i : ℕ) (x : X) (ys : List Y) → slice_get xs i ≡ Some x
    → new ≡ fold g old (filter_map f ys) → ys ≡ flat x → old ≡ fold g b (filter_map f (flat_map flat (take i xs))) → new ≡ fold g b (filter_map f (flat_map flat (take (i + 1) xs)))
fold-flat g b old new f flat xs i x ys item made is before =
    let so_far = flat_map flat (take i xs) in
    made ∙ ap (λ a. fold g a (filter_map f ys)) before ∙ ap (λ l. fold g (fold g b (filter_map f so_far)) (filter_map f l)) is
    ∙ sym (ap (λ l. fold g b (filter_map f (flat_map flat l))) (take-next xs i x item)
    ∙ ap (λ l. fold g b (filter_map f l)) (flat_map-append flat (take i xs) (x ∷ []) ∙ ap (λ l. so_far ++ l) (append-none (flat x)))
    ∙ ap (fold g b) (filter_map-append f so_far (flat x)) ∙ fold-append g b (filter_map f so_far) (filter_map f (flat x)))

-- the last byte is `_`, and of no bytes it is told
abbrev pub ends_by : Bool → List ℕ → Bool
ends_by told [] = told
ends_by told (c ∷ cs) = ends_by (c == 95) cs

ends-last : (c : ℕ) (cs : List ℕ) → ends_by (c == 95) cs ≡ ends_low (c ∷ cs)
ends-last c [] = refl
ends-last c (d ∷ cs) = ends-last d cs

pub ends-start : (text : List ℕ) → ends_by false text ≡ ends_low text
ends-start [] = refl
ends-start (c ∷ cs) = ends-last c cs
