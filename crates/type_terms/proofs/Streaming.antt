-- What a loop over a list has written and asked, with one element more.
use Rattle.std.proofs.Common.{◌≡◌, ℕ, ◌+◌, ◌<◌, List, [], ◌∷◌, ◌++◌, length, get_or, take, map, Option, Result, sym, ap, subst, ◌∙◌}
use Rattle.std.specs.Prelude.{IfOk}
use Rattle.std.specs.List.{AllByRecursion, flat_map}
use Rattle.std.proofs.lemmas.Grind.{flat_map-append}
use Rattle.std.proofs.lemmas.List.{take_more, append-nil, map-append}
use Rattle.std.proofs.lemmas.List.Concat.{flat_map-cons}
use Rattle.py_base.specs.declared.key.Key.{Key}
use Rattle.type_terms.specs.declared.atom.Atom.{Atom}
use Rattle.type_terms.specs.Asked.{AsksSome}
use Rattle.type_terms.specs.Text.{distinct, put_last, text, text_keys}
use Rattle.type_terms.specs.View.{Meaning}
use Rattle.type_terms.proofs.Asking.{asks_append, asks_of_front, asks_one_more}
use Rattle.type_terms.proofs.TextLemmas.{distinct_push, all_at}

module _ {X : Type 0} (xs : List X) (i : ℕ) (x : X) (m1 m0 : Meaning) (same : m1 ≡ m0) (within : i < length xs) (is : x ≡ get_or xs i x) where
  pub asked_more : (f : Meaning → X → List Key) (before between after : Option (List Key))
      → AsksSome before (flat_map (f m0) (take i xs)) between → AsksSome between (f m1 x) after → AsksSome before (flat_map (f m0) (take (i + 1) xs)) after
  asked_more f before between after h k =
      asks_one_more (f m0) xs i x before between after within h
      (subst (λ y. AsksSome between (f m0 y) after) is (subst (λ m. AsksSome between (f m x) after) same k))

  pub asked_so_far : (f : Meaning → X → List Key) (before between after : Option (List Key))
      → AsksSome before (flat_map (f m0) (take i xs)) between → AsksSome between (f m1 x) after → AsksSome before (flat_map (f m0) xs) after
  asked_so_far f before between after h k = asks_of_front (f m0) xs (i + 1) before after (asked_more f before between after h k)

  taken : take (i + 1) xs ≡ take i xs ++ x ∷ []
  taken = take_more xs i x within ∙ ap (λ y. take i xs ++ y ∷ []) (sym is)

  pub written_more : (f : Meaning → X → List ℕ) (old new word : List ℕ) → old ≡ flat_map (f m0) (take i xs) → word ≡ f m1 x → new ≡ old ++ word → new ≡ flat_map (f m0) (take (i + 1) xs)
  written_more f old new word h k pushed =
      let here : word ≡ f m0 x = k ∙ ap (λ m. f m x) same in
      pushed ∙ ap (λ ws. ws ++ word) h ∙ ap (λ w. flat_map (f m0) (take i xs) ++ w) here
      ∙ sym (ap (flat_map (f m0)) taken ∙ flat_map-append (f m0) (take i xs) (x ∷ []) ∙ ap (λ w. flat_map (f m0) (take i xs) ++ w) (flat_map-cons (f m0) x [] ∙ append-nil (f m0 x)))

  pub distinct_more : (f : Meaning → X → List ℕ) (old new : List (List ℕ)) (word : List ℕ) → old ≡ distinct (map (f m0) (take i xs)) → word ≡ f m1 x → new ≡ put_last old word
      → new ≡ distinct (map (f m0) (take (i + 1) xs))
  distinct_more f old new word h k pushed =
      let here : word ≡ f m0 x = k ∙ ap (λ m. f m x) same in
      pushed ∙ ap (λ ts. put_last ts word) h ∙ ap (put_last (distinct (map (f m0) (take i xs)))) here
      ∙ sym (ap (λ ys. distinct (map (f m0) ys)) taken ∙ ap distinct (map-append (f m0) (take i xs) (x ∷ [])) ∙ distinct_push (map (f m0) (take i xs)) (f m0 x))

  pub still_askable : (P : Meaning → X → Type 0) → AllByRecursion (P m0) xs → P m1 x
  still_askable P h = subst (λ m. P m x) (sym same) (subst (P m0) (sym is) (all_at (P m0) xs i x h within))

pub text_there : {E : Type 0} (r : Result (List ℕ) E) (m1 m0 : Meaning) (levels : ℕ) (type want : List Atom) → m1 ≡ m0 → type ≡ want
    → IfOk r (λ t. t ≡ text m1 levels type) → IfOk r (λ t. t ≡ text m0 levels want)
text_there r m1 m0 levels type want same is h = subst (λ m. IfOk r (λ t. t ≡ text m levels want)) same (subst (λ a. IfOk r (λ t. t ≡ text m1 levels a)) is h)

pub asked_there : (m1 m0 : Meaning) (levels : ℕ) (type want : List Atom) (own : List Key) (before between after : Option (List Key)) → m1 ≡ m0 → type ≡ want
    → AsksSome before own between → AsksSome between (text_keys m1 levels type) after → AsksSome before (own ++ text_keys m0 levels want) after
asked_there m1 m0 levels type want own before between after same is h k =
    asks_append before between after own (text_keys m0 levels want) h
    (subst (λ m. AsksSome between (text_keys m levels want) after) same (subst (λ a. AsksSome between (text_keys m1 levels a) after) is k))
