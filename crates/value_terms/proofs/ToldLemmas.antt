-- What was gathered and asked, one part after another.
use Rattle.std.proofs.Common.{◌≡◌, ℕ, ◌+◌, ◌<◌, ◌≤◌, Bool, true, false, ◌||◌, List, [], ◌∷◌, ◌++◌, length, get_or, drop, map, inl, inr, Option, Result, Ok, Err, OnOk, OnErr, zero, suc, refl, sym, ap, subst, ◌∙◌, append_assoc, arith}
use Rattle.std.specs.List.{Contains, list_any}
use Rattle.std.specs.Bool.{Decides}
use Rattle.std.specs.Cmp.{both_ways}
use Rattle.std.specs.Ordering.{eq_by_cmp}
use Rattle.std.proofs.lemmas.List.{drop_more, append-nil}
use Rattle.py_base.specs.declared.key.Key.{Key}
use Rattle.type_terms.specs.declared.atom.Atom.{Atom}
use Rattle.type_terms.specs.Asked.{AsksSome, AsksJust}
use Rattle.type_terms.specs.Order.{atom_cmp}
use Rattle.type_terms.specs.Types.{IsType, has, type_of}
use Rattle.value_terms.specs.Term.{Assignment}
use Rattle.value_terms.specs.Laws.{IsInside}
use Rattle.value_terms.specs.Outcome.{Outcome}
use Rattle.value_terms.specs.declared.part.Part.{Part}
use Rattle.value_terms.specs.declared.part.Part.TheVariants.{Read, Each}
use Rattle.value_terms.specs.Told.{part_told, rows_told, key_told, Told, Gathered, gathered, Adds, SaysSame, IsAlike, nothing_told, both_told, all_told}
use Rattle.value_terms.proofs.ListLemmas.{append_mono, none_in, first_in, later_in, in_cases}
use Rattle.value_terms.proofs.AskLemmas.{asks_none, asks_both, asks_alike, just_some, some_more, some_both, some_front}

module _ {X : Type 0} where
  pub alike_itself : (xs : List X) → IsAlike xs xs
  alike_itself xs = (λ x h. h, λ x h. h)

  pub alike_then : (xs ys zs : List X) → IsAlike xs ys → IsAlike ys zs → IsAlike xs zs
  alike_then xs ys zs h k = (λ x i. k.0 x (h.0 x i), λ x i. h.1 x (k.1 x i))

  pub alike_turned : (xs ys : List X) → IsAlike xs ys → IsAlike ys xs
  alike_turned xs ys h = (h.1, h.0)

  pub alike_append : (xs ys us vs : List X) → IsAlike xs us → IsAlike ys vs → IsAlike (xs ++ ys) (us ++ vs)
  alike_append xs ys us vs h k = (append_mono xs ys us vs h.0 k.0, append_mono us vs xs ys h.1 k.1)

  pub alike_is : (xs ys : List X) → xs ≡ ys → IsAlike xs ys
  alike_is xs ys e = subst (λ zs. IsAlike xs zs) e (alike_itself xs)

pub or_none : (a : Bool) → a ≡ (a || false)
or_none true = refl
or_none false = refl

or_assoc : (a b c : Bool) → ((a || b) || c) ≡ (a || (b || c))
or_assoc true b c = refl
or_assoc false b c = refl

pub adds_none : (b : Gathered) → Adds nothing_told b b
adds_none b = record { members = alike_is (b.members ++ []) b.members (append-nil b.members); fault = or_none b.fault; asked = asks_none b.asked }

pub adds_both : (x y : Told) (b m a : Gathered) → Adds x b m → Adds y m a → Adds (both_told x y) b a
adds_both x y b m a h k = record {
  members =
      let one = alike_append (b.members ++ x.gives) y.gives m.members y.gives h.members (alike_itself y.gives) in
      alike_then (b.members ++ (x.gives ++ y.gives)) ((b.members ++ x.gives) ++ y.gives) a.members
      (alike_is (b.members ++ (x.gives ++ y.gives)) ((b.members ++ x.gives) ++ y.gives) (sym (append_assoc b.members x.gives y.gives)))
      (alike_then ((b.members ++ x.gives) ++ y.gives) (m.members ++ y.gives) a.members one k.members);
  fault = k.fault ∙ ap (λ f. f || y.fails) h.fault ∙ or_assoc b.fault x.fails y.fails;
  asked = asks_both b.asked m.asked a.asked x.names y.names h.asked k.asked;
}

pub adds_alike : (x y : Told) (b a : Gathered) → SaysSame x y → Adds x b a → Adds y b a
adds_alike x y b a same h = record {
  members = alike_then (b.members ++ y.gives) (b.members ++ x.gives) a.members (alike_append b.members y.gives b.members x.gives (alike_itself b.members) (alike_turned x.gives y.gives same.gives)) h.members;
  fault = h.fault ∙ ap (λ f. b.fault || f) same.fails;
  asked = asks_alike b.asked a.asked x.names y.names same.names h.asked;
}

-- what is left to be added makes up the whole
pub record LeadsTo (left whole : Told) (now before : Gathered) : Type 0 where
  pub adds : (after : Gathered) → Adds left now after → Adds whole before after
  pub asks : (after : Option (List Key)) → AsksSome now.asked left.names after → AsksSome before.asked whole.names after

pub leads_start : (t : Told) (b : Gathered) → LeadsTo t t b b
leads_start t b = record { adds = λ a h. h; asks = λ a h. h }

pub leads_next : (x left whole : Told) (b now next : Gathered) → LeadsTo (both_told x left) whole now b → Adds x now next → LeadsTo left whole next b
leads_next x left whole b now next lead h = record {
  adds = λ a k. lead.adds a (adds_both x left now next a h k);
  asks = λ a k. lead.asks a (some_both now.asked next.asked a x.names left.names (just_some now.asked next.asked x.names h.asked) k);
}

pub leads_end : (whole : Told) (b now : Gathered) → LeadsTo nothing_told whole now b → Adds whole b now
leads_end whole b now lead = lead.adds now (adds_none now)

pub leads_stop : (x left whole : Told) (b now : Gathered) (after : Option (List Key)) → LeadsTo (both_told x left) whole now b → AsksSome now.asked x.names after → AsksSome b.asked whole.names after
leads_stop x left whole b now after lead k = lead.asks after (some_front now.asked after x.names left.names k)

module _ {X S : Type 0} (f : X → S → Told) (xs : List X) (i : ℕ) (x : X) (s1 s0 : S) (same : s1 ≡ s0) (within : i < length xs) (is : x ≡ get_or xs i x) where
  next_told : all_told (map (λ y. f y s0) (drop i xs)) ≡ both_told (f x s1) (all_told (map (λ y. f y s0) (drop (i + 1) xs)))
  next_told =
      ap (λ ys. all_told (map (λ y. f y s0) ys)) (drop_more xs i x within ∙ ap (λ y. y ∷ drop (i + 1) xs) (sym is))
      ∙ ap (λ s. both_told (f x s) (all_told (map (λ y. f y s0) (drop (i + 1) xs)))) (sym same)

  pub loop_next : (whole : Told) (b now next : Gathered) → LeadsTo (all_told (map (λ y. f y s0) (drop i xs))) whole now b → Adds (f x s1) now next → LeadsTo (all_told (map (λ y. f y s0) (drop (i + 1) xs))) whole next b
  loop_next whole b now next lead h = leads_next (f x s1) (all_told (map (λ y. f y s0) (drop (i + 1) xs))) whole b now next (subst (λ t. LeadsTo t whole now b) next_told lead) h

  pub loop_stop : (whole : Told) (b now : Gathered) (after : Option (List Key)) → LeadsTo (all_told (map (λ y. f y s0) (drop i xs))) whole now b → AsksSome now.asked (f x s1).names after → AsksSome b.asked whole.names after
  loop_stop whole b now after lead k = leads_stop (f x s1) (all_told (map (λ y. f y s0) (drop (i + 1) xs))) whole b now after (subst (λ t. LeadsTo t whole now b) next_told lead) k

drop_done : {X : Type 0} (xs : List X) (i : ℕ) → length xs ≤ i → drop i xs ≡ []
drop_done [] zero h = refl
drop_done [] (suc i) h = refl
drop_done (x ∷ xs) zero h = absurd (omega (arith, h))
drop_done (x ∷ xs) (suc i) h = drop_done xs i (omega (arith, h))

pub loop_end : {X : Type 0} (f : X → Told) (xs : List X) (i : ℕ) (whole : Told) (b now : Gathered) → length xs ≤ i → LeadsTo (all_told (map f (drop i xs))) whole now b → Adds whole b now
loop_end f xs i whole b now past lead = leads_end whole b now (subst (λ ys. LeadsTo (all_told (map f ys)) whole now b) (drop_done xs i past) lead)

pub on_err : {T E : Type 0} (r : Result T E) (P : Type 0) → P → OnErr r P
on_err (Ok t) P h = tt
on_err (Err e) P h = h

pub adds_key : (k : Key) (members : List Atom) (fault : Bool) (before after : Option (List Key)) → AsksJust before (k ∷ []) after → Adds (key_told k) (gathered members fault before) (gathered members fault after)
adds_key k members fault before after h = record { members = alike_is (members ++ []) members (append-nil members); fault = or_none fault; asked = h }

module _ {R T E : Type 0} (rule : R → Atom → Outcome Key Atom) (part : Part R) (k : Key) (row : R) (s1 s : Assignment Key Atom) (members : List Atom) (r : Result T E) where
  pub each_adds : (atoms : List Atom) (fault : Bool) (before between : Option (List Key)) (after : Gathered) → part ≡ Each k row → s1 ≡ s → members ≡ s k → AsksJust before (k ∷ []) between
      → OnOk r (Adds (rows_told rule row members s1) (gathered atoms fault between) after) → OnOk r (Adds (part_told rule part s) (gathered atoms fault before) after)
  each_adds atoms fault before between after is same here asked h =
      elim r as (λ z. OnOk z (Adds (rows_told rule row members s1) (gathered atoms fault between) after) → OnOk z (Adds (part_told rule part s) (gathered atoms fault before) after)) [
        | Ok t ↦ λ k1.
            let k2 = subst (λ z. Adds (rows_told rule row members z) (gathered atoms fault between) after) same k1 in
            let k3 = subst (λ ms. Adds (rows_told rule row ms s) (gathered atoms fault between) after) here k2 in
            let k4 = adds_both (key_told k) (rows_told rule row (s k) s) (gathered atoms fault before) (gathered atoms fault between) after (adds_key k atoms fault before between asked) k3 in
            subst (λ p. Adds (part_told rule p s) (gathered atoms fault before) after) (sym is) k4
        | Err e ↦ λ k1. tt
      ] h

  pub each_stop : (before between after : Option (List Key)) → part ≡ Each k row → s1 ≡ s → members ≡ s k → AsksJust before (k ∷ []) between
      → OnErr r (AsksSome between (rows_told rule row members s1).names after) → OnErr r (AsksSome before (part_told rule part s).names after)
  each_stop before between after is same here asked h =
      elim r as (λ z. OnErr z (AsksSome between (rows_told rule row members s1).names after) → OnErr z (AsksSome before (part_told rule part s).names after)) [
        | Ok t ↦ λ k1. tt
        | Err e ↦ λ k1.
            let k2 = subst (λ z. AsksSome between (rows_told rule row members z).names after) same k1 in
            let k3 = subst (λ ms. AsksSome between (rows_told rule row ms s).names after) here k2 in
            let k4 = some_both before between after (k ∷ []) (rows_told rule row (s k) s).names (just_some before between (k ∷ []) asked) k3 in
            subst (λ p. AsksSome before (part_told rule p s).names after) (sym is) k4
      ] h

pub read_stop : {R : Type 0} (rule : R → Atom → Outcome Key Atom) (part : Part R) (k : Key) (s : Assignment Key Atom) (before after : Option (List Key)) → part ≡ Read k → AsksJust before (k ∷ []) after → AsksSome before (part_told rule part s).names after
read_stop rule part k s before after is h = subst (λ p. AsksSome before (part_told rule p s).names after) (sym is) (just_some before after (k ∷ []) h)

-- parts that say the same
module _ {T E : Type 0} (x y : Told) (r : Result T E) (same : SaysSame x y) where
  pub row_adds : (b a : Gathered) → OnOk r (Adds x b a) → OnOk r (Adds y b a)
  row_adds b a h = elim r as (λ z. OnOk z (Adds x b a) → OnOk z (Adds y b a)) [ Ok t ↦ λ k. adds_alike x y b a same k | Err e ↦ λ k. tt ] h

  pub row_stop : (before after : Option (List Key)) → OnErr r (AsksSome before x.names after) → OnErr r (AsksSome before y.names after)
  row_stop before after h = elim r as (λ z. OnErr z (AsksSome before x.names after) → OnErr z (AsksSome before y.names after)) [ Ok t ↦ λ k. tt | Err e ↦ λ k. some_more before after x.names y.names same.names.0 k ] h

-- lists with the same elements make one type
any_in : {X : Type 0} (p : X → Bool) (xs : List X) (x : X) → Contains xs x → p x ≡ true → list_any p xs ≡ true
any_in p [] x h e = absurd (none_in x h)
any_in p (y ∷ xs) x h e = elim (in_cases y xs x h) [
  | inl same ↦ ap (λ b. b || list_any p xs) (subst (λ z. p z ≡ true) (sym same) e)
  | inr rest ↦ or_second (p y) (list_any p xs) (any_in p xs x rest e)
] where
  or_second : (a b : Bool) → b ≡ true → (a || b) ≡ true
  or_second true b e = refl
  or_second false b e = e

pub any_inside : {X : Type 0} (p : X → Bool) (xs ys : List X) → IsInside xs ys → list_any p xs ≡ true → list_any p ys ≡ true
any_inside p [] ys h e = absurd cc
any_inside p (x ∷ xs) ys h e = elim (p x) as (λ b. p x ≡ b → (b || list_any p xs) ≡ true → list_any p ys ≡ true) [
  | true ↦ λ is k. any_in p ys x (h x (first_in x xs)) is
  | false ↦ λ is k. any_inside p xs ys (λ z i. h z (later_in x xs z i)) k
] refl e

pub has_alike : (xs ys : List Atom) → IsAlike xs ys → (a : Atom) → has xs a ≡ has ys a
unfolding has
has_alike xs ys h a = both_ways _ _ (any_inside (eq_by_cmp atom_cmp a) xs ys h.0) (any_inside (eq_by_cmp atom_cmp a) ys xs h.1)

pub inside_by_has : ((type : List Atom) (a : Atom) → Decides (has type a) (Contains type a)) → (xs ys : List Atom) → ((a : Atom) → has xs a ≡ has ys a) → IsInside xs ys
inside_by_has decides xs ys same a at = (decides ys a).0 (sym (same a) ∙ (decides xs a).1 at)

pub alike_types : ((atoms : List Atom) → IsType (type_of atoms)) → ((atoms : List Atom) (a : Atom) → has (type_of atoms) a ≡ has atoms a)
    → ((one other : List Atom) → IsType one → IsType other → ((a : Atom) → has one a ≡ has other a) → one ≡ other)
    → (xs ys : List Atom) → IsAlike xs ys → type_of xs ≡ type_of ys
alike_types rises members same xs ys h = same (type_of xs) (type_of ys) (rises xs) (rises ys) (λ a. members xs a ∙ has_alike xs ys h a ∙ sym (members ys a))

pub from_nothing : (start xs ys : List Atom) → start ≡ [] → IsAlike (start ++ xs) ys → IsAlike ys xs
from_nothing start xs ys is h = alike_turned xs ys (subst (λ zs. IsAlike (zs ++ xs) ys) is h)
