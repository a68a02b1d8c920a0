-- What several calls ask, one after another.
use Rattle.std.proofs.Common.{◌≡◌, ◌≤◌, ◌+◌, ℕ, List, [], ◌∷◌, ◌++◌, inl, inr, Option, Some, None, Result, Ok, Err, refl, sym, ap, subst, ◌∙◌, arith, length, get_or, take, drop, ◌<◌}
use Rattle.std.specs.Prelude.{OnOk, OnErr}
use Rattle.std.specs.List.{Contains, flat_map}
use Rattle.std.proofs.lemmas.List.Elements.{Contains-append_left, Contains-append_right}
use Rattle.std.proofs.lemmas.Grind.{flat_map-append}
use Rattle.std.proofs.lemmas.List.{take_more, take-append-drop, append-nil}
use Rattle.std.proofs.lemmas.List.Concat.{flat_map-cons}
use Rattle.py_base.specs.declared.key.Key.{Key}
use Rattle.py_base.specs.declared.stop.Stop.{Stop}
use Rattle.py_base.specs.declared.stop.Stop.TheVariants.{Cancelled}
use Rattle.py_base.specs.Causes.{Rose}
use Rattle.type_terms.specs.Asked.{AsksSome, AsksJust, Cancels}

pub just_some : (before : Option (List Key)) (named : List Key) (after : Option (List Key)) → AsksJust before named after → AsksSome before named after
just_some None named after h = h
just_some (Some b) named None h = h
just_some (Some b) named (Some a) h = record { kept = h.kept; among = h.among }

pub asks_nothing : (before : Option (List Key)) (named : List Key) → AsksSome before named before
asks_nothing None named = refl
asks_nothing (Some b) named = record { kept = λ k h. h; among = λ k h. inl h }

-- what one key's answer asked
pub asks_one : {T : Type 0} (r : Result T Stop) (before : Option (List Key)) (named : List Key) (after : Option (List Key)) → OnOk r (AsksJust before named after) → OnErr r (after ≡ before) → AsksSome before named after
asks_one (Ok t) before named after h k = just_some before named after h
asks_one (Err e) before named after h k = subst (λ o. AsksSome before named o) (sym k) (asks_nothing before named)

pub asks_then : (before between after : Option (List Key)) (named : List Key) → AsksSome before named between → AsksSome between named after → AsksSome before named after
asks_then None between after named h k = subst (λ o. AsksSome o named after) h k
asks_then (Some b) None after named h k = absurd h
asks_then (Some b) (Some m) None named h k = k
asks_then (Some b) (Some m) (Some a) named h k = record {
  kept = λ key x. k.kept key (h.kept key x);
  among = λ key x. elim (k.among key x) [ inl y ↦ h.among key y | inr y ↦ inr y ];
}

pub asks_more : (before : Option (List Key)) (few more : List Key) (after : Option (List Key)) → ((key : Key) → Contains few key → Contains more key) → AsksSome before few after → AsksSome before more after
asks_more None few more after f h = h
asks_more (Some b) few more None f h = h
asks_more (Some b) few more (Some a) f h = record {
  kept = h.kept;
  among = λ key x. elim (h.among key x) [ inl y ↦ inl y | inr y ↦ inr (f key y) ];
}

-- a count that rose from a later moment rose from an earlier one
pub rose_before : (a b c : ℕ) → a ≤ b → Rose b c → Rose a c
rose_before a b c le h = omega arith

module _ {T U : Type 0} where
  -- the same answer for another type
  pub cancels_as : (before now : ℕ) (r : Result T Stop) (s : Result U Stop) → (s ≡ Err Cancelled → r ≡ Err Cancelled) → Cancels before now r → Cancels before now s
  cancels_as before now r s f h = record { later = h.later; caused = λ e. h.caused (f e) }

  pub cancels_from : (earlier before now : ℕ) (r : Result T Stop) (s : Result U Stop) → earlier ≤ before → (s ≡ Err Cancelled → r ≡ Err Cancelled) → Cancels before now r → Cancels earlier now s
  cancels_from earlier before now r s le f h = record { later = omega (arith, h.later); caused = λ e. rose_before earlier before now le (h.caused (f e)) }

pub cancels_no : {T : Type 0} (before now : ℕ) (r : Result T Stop) → before ≤ now → (r ≡ Err Cancelled → ⊥) → Cancels before now r
cancels_no before now r le f = record { later = le; caused = λ e. absurd (f e) }

pub asks_append : (before between after : Option (List Key)) (first second : List Key) → AsksSome before first between → AsksSome between second after → AsksSome before (first ++ second) after
asks_append before between after first second h k =
    asks_then before between after (first ++ second)
    (asks_more before first (first ++ second) between (λ key x. Contains-append_left first second key x) h)
    (asks_more between second (first ++ second) after (λ key x. Contains-append_right first second key x) k)

pub asks_front : (before after : Option (List Key)) (first second : List Key) → AsksSome before first after → AsksSome before (first ++ second) after
asks_front before after first second h = asks_more before first (first ++ second) after (λ key x. Contains-append_left first second key x) h

module _ {X : Type 0} (f : X → List Key) where
  -- what was asked for the elements before a place was asked for some of all
  pub asks_of_front : (xs : List X) (i : ℕ) (before after : Option (List Key)) → AsksSome before (flat_map f (take i xs)) after → AsksSome before (flat_map f xs) after
  asks_of_front xs i before after h =
      subst (λ ks. AsksSome before ks after) (sym (flat_map-append f (take i xs) (drop i xs)) ∙ ap (flat_map f) (take-append-drop i xs)) (asks_front before after (flat_map f (take i xs)) (flat_map f (drop i xs)) h)

  flat_map_one : (x : X) → flat_map f (x ∷ []) ≡ f x
  flat_map_one x = flat_map-cons f x [] ∙ append-nil (f x)

  flat_map_more : (xs : List X) (i : ℕ) (d : X) → i < length xs → flat_map f (take i xs) ++ f (get_or xs i d) ≡ flat_map f (take (i + 1) xs)
  flat_map_more xs i d within =
      ap (λ ks. flat_map f (take i xs) ++ ks) (sym (flat_map_one (get_or xs i d))) ∙ sym (flat_map-append f (take i xs) (get_or xs i d ∷ [])) ∙ ap (flat_map f) (sym (take_more xs i d within))

  pub asks_one_more : (xs : List X) (i : ℕ) (d : X) (before between after : Option (List Key)) → i < length xs
      → AsksSome before (flat_map f (take i xs)) between → AsksSome between (f (get_or xs i d)) after → AsksSome before (flat_map f (take (i + 1) xs)) after
  asks_one_more xs i d before between after within h k =
      subst (λ ks. AsksSome before ks after) (flat_map_more xs i d within) (asks_append before between after (flat_map f (take i xs)) (f (get_or xs i d)) h k)
