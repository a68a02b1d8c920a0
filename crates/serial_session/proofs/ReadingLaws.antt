-- Lines are read until one isn't valid.
use Rattle.std.proofs.Common.{◌≡◌, ◌<◌, ◌+◌, ℕ, Bool, true, false, cond, List, [], ◌∷◌, ◌++◌, length, take, drop, get_or, Option, Some, None, IfSome, filter_map, All, sym, ap, ◌∙◌}
use Rattle.std.specs.List.{find, cons_option}
use Rattle.std.specs.Option.{option_or}
use Rattle.std.proofs.lemmas.List.{take-append-drop, drop_more, take_more}
use Rattle.std.proofs.lemmas.List.Elements.{All-head, All-tail, filter_map-append}
use Rattle.std.proofs.lemmas.List.Folds.{find-append}

-- the first of the others passes
pub find-stop : {X : Type 0} (p : X → Bool) (xs : List X) (i : ℕ) (x : X) → i < length xs → find p (take i xs) ≡ None → p (get_or xs i x) ≡ true → find p xs ≡ Some (get_or xs i x)
find-stop p xs i x within none here =
    ap (find p) (sym (take-append-drop i xs))
    ∙ find-append p (take i xs) (drop i xs)
    ∙ ap (λ o. option_or o (find p (drop i xs))) none
    ∙ ap (find p) (drop_more xs i x within)
    ∙ ap (λ b. cond b (Some (get_or xs i x)) (find p (drop (i + 1) xs))) here

-- it doesn't
pub find-go_on : {X : Type 0} (p : X → Bool) (xs : List X) (i : ℕ) (x : X) → i < length xs → find p (take i xs) ≡ None → p (get_or xs i x) ≡ false → find p (take (i + 1) xs) ≡ None
find-go_on p xs i x within none here =
    ap (find p) (take_more xs i x within)
    ∙ find-append p (take i xs) (get_or xs i x ∷ [])
    ∙ ap (λ o. option_or o (find p (get_or xs i x ∷ []))) none
    ∙ ap (λ b. cond b (Some (get_or xs i x)) None) here

pub filter_map-more : {X Y : Type 0} (f : X → Option Y) (xs : List X) (i : ℕ) (x : X) (y : Y) → i < length xs → f (get_or xs i x) ≡ Some y → filter_map f (take (i + 1) xs) ≡ filter_map f (take i xs) ++ y ∷ []
filter_map-more f xs i x y within here =
    ap (filter_map f) (take_more xs i x within)
    ∙ filter_map-append f (take i xs) (get_or xs i x ∷ [])
    ∙ ap (λ o. filter_map f (take i xs) ++ cons_option o []) here

pub All-find : {X : Type 0} (P : X → Type 0) (p : X → Bool) (xs : List X) → All P xs → IfSome (find p xs) P
All-find P p [] all = tt
All-find P p (x ∷ xs) all = elim (p x) as (λ b. IfSome (cond b (Some x) (find p xs)) P) [ true ↦ All-head P x xs all | false ↦ All-find P p xs (All-tail P x xs all) ]
