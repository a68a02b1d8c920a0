-- What is told of each member that was told: the laws by which steps are put together.
use Rattle.std.proofs.Common.{◌≡◌, Bool, true, false, ◌||◌, List, [], ◌∷◌, ◌++◌, map, inl, inr, refl, sym, ap, ◌∙◌, append_assoc}
use Rattle.std.specs.List.{Contains, flat_map, list_any}
use Rattle.std.specs.Cmp.{both_ways}
use Rattle.std.proofs.lemmas.List.{append-nil}
use Rattle.std.proofs.lemmas.Grind.{flat_map-append}
use Rattle.std.proofs.lemmas.List.Folds.{list_any-append}
use Rattle.std.proofs.lemmas.List.Elements.{Contains-append_left, Contains-append_right, Contains-append_cases}
use Rattle.py_base.specs.declared.key.Key.{Key}
use Rattle.type_terms.specs.declared.atom.Atom.{Atom}
use Rattle.value_terms.specs.Laws.{IsInside}
use Rattle.value_terms.specs.Term.{Assignment, eval, reads, member}
use Rattle.value_terms.specs.Outcome.{Outcome, and_then, gives}
use Rattle.value_terms.specs.Told.{Told, told, SaysSame, IsAlike, nothing_told, both_told, all_told, has_some, part_told}
use Rattle.value_terms.specs.Chain.{told_of_each, chain_rule}
use Rattle.value_terms.specs.declared.part.Part.TheVariants.{Members, Read, Each}
use Rattle.value_terms.proofs.ListLemmas.{flat_in, flat_all, flat_mono, flat_none, append_all}
use Rattle.value_terms.proofs.ToldLemmas.{alike_itself, alike_then, alike_turned, alike_append, alike_is, any_inside}

or_none : (a : Bool) → (a || false) ≡ a
or_none true = refl
or_none false = refl

or_assoc : (a b c : Bool) → ((a || b) || c) ≡ (a || (b || c))
or_assoc true b c = refl
or_assoc false b c = refl

or_swap : (a b c d : Bool) → ((a || b) || (c || d)) ≡ ((a || c) || (b || d))
or_swap true b c d = refl
or_swap false true true d = refl
or_swap false true false d = refl
or_swap false false c d = refl

pub some_append : {Y : Type 0} (xs ys : List Y) → has_some (xs ++ ys) ≡ (has_some xs || has_some ys)
some_append [] ys = refl
some_append (x ∷ xs) ys = refl

module _ {X Y : Type 0} where
  flat_alike : (f g : X → List Y) (xs ys : List X) → IsAlike xs ys → ((a : X) → IsAlike (f a) (g a)) → IsAlike (flat_map f xs) (flat_map g ys)
  flat_alike f g xs ys h k = (flat_mono f g xs ys h.0 (λ a b. (k a).0 b), flat_mono g f ys xs h.1 (λ a b. (k a).1 b))

  -- the parts of each, and each of the parts
  pub flat_split : (u v : X → List Y) (xs : List X) → IsAlike (flat_map (λ a. u a ++ v a) xs) (flat_map u xs ++ flat_map v xs)
  flat_split u v xs = (
    flat_all (λ b. Contains (flat_map u xs ++ flat_map v xs) b) (λ a. u a ++ v a) xs (λ a b i k. elim (Contains-append_cases (u a) (v a) b k) [
      | inl l ↦ Contains-append_left (flat_map u xs) (flat_map v xs) b (flat_in u xs a b i l)
      | inr r ↦ Contains-append_right (flat_map u xs) (flat_map v xs) b (flat_in v xs a b i r)
    ]),
    append_all (λ b. Contains (flat_map (λ a. u a ++ v a) xs) b) (flat_map u xs) (flat_map v xs)
        (flat_mono u (λ a. u a ++ v a) xs xs (λ a i. i) (λ a b k. Contains-append_left (u a) (v a) b k))
        (flat_mono v (λ a. u a ++ v a) xs xs (λ a i. i) (λ a b k. Contains-append_right (u a) (v a) b k)),
  )

  flat_flat : {Z : Type 0} (f : X → List Y) (g : Y → List Z) (xs : List X) → flat_map g (flat_map f xs) ≡ flat_map (λ a. flat_map g (f a)) xs
  flat_flat f g [] = refl
  flat_flat f g (x ∷ xs) = flat_map-append g (f x) (flat_map f xs) ∙ ap (λ zs. flat_map g (f x) ++ zs) (flat_flat f g xs)

  any_flat : (f : X → List Y) (p : Y → Bool) (xs : List X) → list_any p (flat_map f xs) ≡ list_any (λ a. list_any p (f a)) xs
  any_flat f p [] = refl
  any_flat f p (x ∷ xs) = list_any-append p (f x) (flat_map f xs) ∙ ap (λ b. list_any p (f x) || b) (any_flat f p xs)

  pub some_flat : (f : X → List Y) (xs : List X) → has_some (flat_map f xs) ≡ list_any (λ a. has_some (f a)) xs
  some_flat f [] = refl
  some_flat f (x ∷ xs) = some_append (f x) (flat_map f xs) ∙ ap (λ b. has_some (f x) || b) (some_flat f xs)

module _ {X : Type 0} where
  any_same : (p q : X → Bool) (xs : List X) → ((a : X) → p a ≡ q a) → list_any p xs ≡ list_any q xs
  any_same p q [] h = refl
  any_same p q (x ∷ xs) h = ap (λ b. b || list_any p xs) (h x) ∙ ap (λ b. q x || b) (any_same p q xs h)

  any_alike : (p q : X → Bool) (xs ys : List X) → IsAlike xs ys → ((a : X) → p a ≡ q a) → list_any p xs ≡ list_any q ys
  any_alike p q xs ys h k = both_ways (list_any p xs) (list_any p ys) (any_inside p xs ys h.0) (any_inside p ys xs h.1) ∙ any_same p q ys k

  any_or : (p q : X → Bool) (xs : List X) → list_any (λ a. p a || q a) xs ≡ (list_any p xs || list_any q xs)
  any_or p q [] = refl
  any_or p q (x ∷ xs) = ap (λ b. (p x || q x) || b) (any_or p q xs) ∙ or_swap (p x) (q x) (list_any p xs) (list_any q xs)

one_swapped : (a b c d : List Key) → IsInside ((a ++ b) ++ (c ++ d)) ((a ++ c) ++ (b ++ d))
one_swapped a b c d =
    append_all (λ k. Contains ((a ++ c) ++ (b ++ d)) k) (a ++ b) (c ++ d)
    (append_all (λ k. Contains ((a ++ c) ++ (b ++ d)) k) a b
    (λ k i. Contains-append_left (a ++ c) (b ++ d) k (Contains-append_left a c k i))
    (λ k i. Contains-append_right (a ++ c) (b ++ d) k (Contains-append_left b d k i)))
    (append_all (λ k. Contains ((a ++ c) ++ (b ++ d)) k) c d
    (λ k i. Contains-append_left (a ++ c) (b ++ d) k (Contains-append_right a c k i))
    (λ k i. Contains-append_right (a ++ c) (b ++ d) k (Contains-append_right b d k i)))

pub swapped : (a b c d : List Key) → IsAlike ((a ++ b) ++ (c ++ d)) ((a ++ c) ++ (b ++ d))
swapped a b c d = (one_swapped a b c d, one_swapped a c b d)

gathered_names : (a b c d : List Key) → IsAlike ((a ++ c) ++ (b ++ (a ++ d))) ((a ++ b) ++ (c ++ d))
gathered_names a b c d = (
  append_all (λ k. Contains ((a ++ b) ++ (c ++ d)) k) (a ++ c) (b ++ (a ++ d))
      (append_all (λ k. Contains ((a ++ b) ++ (c ++ d)) k) a c
      (λ k i. Contains-append_left (a ++ b) (c ++ d) k (Contains-append_left a b k i))
      (λ k i. Contains-append_right (a ++ b) (c ++ d) k (Contains-append_left c d k i)))
      (append_all (λ k. Contains ((a ++ b) ++ (c ++ d)) k) b (a ++ d)
      (λ k i. Contains-append_left (a ++ b) (c ++ d) k (Contains-append_right a b k i))
      (append_all (λ k. Contains ((a ++ b) ++ (c ++ d)) k) a d
      (λ k i. Contains-append_left (a ++ b) (c ++ d) k (Contains-append_left a b k i))
      (λ k i. Contains-append_right (a ++ b) (c ++ d) k (Contains-append_right c d k i)))),
  append_all (λ k. Contains ((a ++ c) ++ (b ++ (a ++ d))) k) (a ++ b) (c ++ d)
      (append_all (λ k. Contains ((a ++ c) ++ (b ++ (a ++ d))) k) a b
      (λ k i. Contains-append_left (a ++ c) (b ++ (a ++ d)) k (Contains-append_left a c k i))
      (λ k i. Contains-append_right (a ++ c) (b ++ (a ++ d)) k (Contains-append_left b (a ++ d) k i)))
      (append_all (λ k. Contains ((a ++ c) ++ (b ++ (a ++ d))) k) c d
      (λ k i. Contains-append_left (a ++ c) (b ++ (a ++ d)) k (Contains-append_right a c k i))
      (λ k i. Contains-append_right (a ++ c) (b ++ (a ++ d)) k (Contains-append_right b (a ++ d) k (Contains-append_right a d k i)))),
)

-- saying the same
pub same_itself : (t : Told) → SaysSame t t
same_itself t = record { gives = alike_itself t.gives; fails = refl; names = alike_itself t.names }

pub same_turned : (t u : Told) → SaysSame t u → SaysSame u t
same_turned t u h = record { gives = alike_turned t.gives u.gives h.gives; fails = sym h.fails; names = alike_turned t.names u.names h.names }

pub same_then : (t u v : Told) → SaysSame t u → SaysSame u v → SaysSame t v
same_then t u v h k = record { gives = alike_then t.gives u.gives v.gives h.gives k.gives; fails = h.fails ∙ k.fails; names = alike_then t.names u.names v.names h.names k.names }

pub same_both : (t u v w : Told) → SaysSame t v → SaysSame u w → SaysSame (both_told t u) (both_told v w)
same_both t u v w h k = record {
  gives = alike_append t.gives u.gives v.gives w.gives h.gives k.gives;
  fails = ap (λ b. b || u.fails) h.fails ∙ ap (λ b. v.fails || b) k.fails;
  names = alike_append t.names u.names v.names w.names h.names k.names;
}

-- nothing beside it, and three of them
pub same_alone : (t : Told) → SaysSame (both_told t nothing_told) t
same_alone t = record { gives = alike_is (t.gives ++ []) t.gives (append-nil t.gives); fails = or_none t.fails; names = alike_is (t.names ++ []) t.names (append-nil t.names) }

pub same_assoc : (t u v : Told) → SaysSame (both_told (both_told t u) v) (both_told t (both_told u v))
same_assoc t u v = record {
  gives = alike_is ((t.gives ++ u.gives) ++ v.gives) (t.gives ++ (u.gives ++ v.gives)) (append_assoc t.gives u.gives v.gives);
  fails = or_assoc t.fails u.fails v.fails;
  names = alike_is ((t.names ++ u.names) ++ v.names) (t.names ++ (u.names ++ v.names)) (append_assoc t.names u.names v.names);
}

-- the parts before and the parts behind
pub same_appended : (ts us : List Told) → SaysSame (all_told (ts ++ us)) (both_told (all_told ts) (all_told us))
same_appended [] us = same_itself (all_told us)
same_appended (t ∷ ts) us =
    same_then (both_told t (all_told (ts ++ us))) (both_told t (both_told (all_told ts) (all_told us))) (both_told (both_told t (all_told ts)) (all_told us))
    (same_both t (all_told (ts ++ us)) t (both_told (all_told ts) (all_told us)) (same_itself t) (same_appended ts us))
    (same_turned (both_told (both_told t (all_told ts)) (all_told us)) (both_told t (both_told (all_told ts) (all_told us))) (same_assoc t (all_told ts) (all_told us)))

-- what is told of each
pub each_left : (t u : Told) (f : Atom → Told) → SaysSame t u → SaysSame (told_of_each t f) (told_of_each u f)
each_left t u f h = record {
  gives = flat_alike (λ a. (f a).gives) (λ a. (f a).gives) t.gives u.gives h.gives (λ a. alike_itself (f a).gives);
  fails = ap (λ b. b || list_any (λ a. (f a).fails) t.gives) h.fails ∙ ap (λ b. u.fails || b) (any_alike (λ a. (f a).fails) (λ a. (f a).fails) t.gives u.gives h.gives (λ a. refl));
  names = alike_append t.names (flat_map (λ a. (f a).names) t.gives) u.names (flat_map (λ a. (f a).names) u.gives) h.names
      (flat_alike (λ a. (f a).names) (λ a. (f a).names) t.gives u.gives h.gives (λ a. alike_itself (f a).names));
}

pub each_right : (t : Told) (f g : Atom → Told) → ((a : Atom) → SaysSame (f a) (g a)) → SaysSame (told_of_each t f) (told_of_each t g)
each_right t f g h = record {
  gives = flat_alike (λ a. (f a).gives) (λ a. (g a).gives) t.gives t.gives (alike_itself t.gives) (λ a. (h a).gives);
  fails = ap (λ b. t.fails || b) (any_same (λ a. (f a).fails) (λ a. (g a).fails) t.gives (λ a. (h a).fails));
  names = alike_append t.names (flat_map (λ a. (f a).names) t.gives) t.names (flat_map (λ a. (g a).names) t.gives) (alike_itself t.names)
      (flat_alike (λ a. (f a).names) (λ a. (g a).names) t.gives t.gives (alike_itself t.gives) (λ a. (h a).names));
}

pub each_each : (t : Told) (f g : Atom → Told) → SaysSame (told_of_each (told_of_each t f) g) (told_of_each t (λ a. told_of_each (f a) g))
each_each t f g =
    let given = flat_flat (λ a. (f a).gives) (λ b. (g b).gives) t.gives in
    let asked = flat_flat (λ a. (f a).gives) (λ b. (g b).names) t.gives in
    let first = flat_map (λ a. (f a).names) t.gives in
    let second = flat_map (λ b. (g b).names) (flat_map (λ a. (f a).gives) t.gives) in
    let inner = flat_map (λ a. flat_map (λ b. (g b).names) (f a).gives) t.gives in
    let whole = flat_map (λ a. (f a).names ++ flat_map (λ b. (g b).names) (f a).gives) t.gives in
    let parts : IsAlike (first ++ second) whole =
    alike_then (first ++ second) (first ++ inner) whole (alike_is (first ++ second) (first ++ inner) (ap (λ ks. first ++ ks) asked))
    (alike_turned whole (first ++ inner) (flat_split (λ a. (f a).names) (λ a. flat_map (λ b. (g b).names) (f a).gives) t.gives)) in
    record {
      gives = alike_is (flat_map (λ b. (g b).gives) (flat_map (λ a. (f a).gives) t.gives)) (flat_map (λ a. flat_map (λ b. (g b).gives) (f a).gives) t.gives) given;
      fails =
          let one = ap (λ b. (t.fails || list_any (λ a. (f a).fails) t.gives) || b) (any_flat (λ a. (f a).gives) (λ b. (g b).fails) t.gives) in
          let two = or_assoc t.fails (list_any (λ a. (f a).fails) t.gives) (list_any (λ a. list_any (λ b. (g b).fails) (f a).gives) t.gives) in
          let three = ap (λ b. t.fails || b) (sym (any_or (λ a. (f a).fails) (λ a. list_any (λ b. (g b).fails) (f a).gives) t.gives)) in
          one ∙ two ∙ three;
      names =
          alike_then ((t.names ++ first) ++ second) (t.names ++ (first ++ second)) (t.names ++ whole)
          (alike_is ((t.names ++ first) ++ second) (t.names ++ (first ++ second)) (append_assoc t.names first second))
          (alike_append t.names (first ++ second) t.names whole (alike_itself t.names) parts);
    }

-- of several
pub each_of_both : (t u : Told) (f : Atom → Told) → SaysSame (told_of_each (both_told t u) f) (both_told (told_of_each t f) (told_of_each u f))
each_of_both t u f =
    let tn = flat_map (λ a. (f a).names) t.gives in
    let un = flat_map (λ a. (f a).names) u.gives in
    let all = flat_map (λ a. (f a).names) (t.gives ++ u.gives) in
    let split : all ≡ tn ++ un = flat_map-append (λ a. (f a).names) t.gives u.gives in
    record {
      gives = alike_is (flat_map (λ a. (f a).gives) (t.gives ++ u.gives)) (flat_map (λ a. (f a).gives) t.gives ++ flat_map (λ a. (f a).gives) u.gives) (flat_map-append (λ a. (f a).gives) t.gives u.gives);
      fails = ap (λ b. (t.fails || u.fails) || b) (list_any-append (λ a. (f a).fails) t.gives u.gives) ∙ or_swap t.fails u.fails (list_any (λ a. (f a).fails) t.gives) (list_any (λ a. (f a).fails) u.gives);
      names = alike_then ((t.names ++ u.names) ++ all) ((t.names ++ u.names) ++ (tn ++ un)) ((t.names ++ tn) ++ (u.names ++ un))
          (alike_is ((t.names ++ u.names) ++ all) ((t.names ++ u.names) ++ (tn ++ un)) (ap (λ ks. (t.names ++ u.names) ++ ks) split))
          (swapped t.names u.names tn un);
    }

-- of a list of members
pub each_of_members : (xs : List Atom) (f : Atom → Told) → SaysSame (told_of_each (record { gives = xs; fails = false; names = [] }) f) (all_told (map f xs))
each_of_members [] f = same_itself nothing_told
each_of_members (x ∷ xs) f =
    let rest = each_of_members xs f in
    record {
      gives = alike_append (f x).gives (flat_map (λ a. (f a).gives) xs) (f x).gives (all_told (map f xs)).gives (alike_itself (f x).gives) rest.gives;
      fails = ap (λ b. (f x).fails || b) rest.fails;
      names = alike_append (f x).names (flat_map (λ a. (f a).names) xs) (f x).names (all_told (map f xs)).names (alike_itself (f x).names) rest.names;
    }

-- an outcome and then another
pub told_and_then : (o : Outcome Key Atom) (rule : Atom → Outcome Key Atom) (s : Assignment Key Atom) → SaysSame (told (and_then o rule) s) (told_of_each (told o s) (λ a. told (rule a) s))
told_and_then o rule s =
    let xs = eval o.gives s in
    let og = reads o.gives s in
    let fo = reads o.fails s in
    let g = flat_map (λ a. reads (rule a).gives s) xs in
    let f = flat_map (λ a. reads (rule a).fails s) xs in
    let both = flat_map (λ a. reads (rule a).gives s ++ reads (rule a).fails s) xs in
    record {
      gives = alike_itself (flat_map (λ a. eval (rule a).gives s) xs);
      fails = some_append (eval o.fails s) (flat_map (λ a. eval (rule a).fails s) xs) ∙ ap (λ b. has_some (eval o.fails s) || b) (some_flat (λ a. eval (rule a).fails s) xs);
      names = alike_then ((og ++ g) ++ (fo ++ (og ++ f))) ((og ++ fo) ++ (g ++ f)) ((og ++ fo) ++ both) (gathered_names og fo g f)
          (alike_append (og ++ fo) (g ++ f) (og ++ fo) both (alike_itself (og ++ fo)) (alike_turned both (g ++ f) (flat_split (λ a. reads (rule a).gives s) (λ a. reads (rule a).fails s) xs)));
    }

-- what is told of each member where that is the member itself
singles : {X : Type 0} (xs : List X) → flat_map (λ x. x ∷ []) xs ≡ xs
singles [] = refl
singles (x ∷ xs) = ap (λ ys. x ∷ ys) (singles xs)

none_fails : (xs : List Atom) → list_any (λ a. false) xs ≡ false
none_fails [] = refl
none_fails (x ∷ xs) = none_fails xs

pub each_itself : (t : Told) (s : Assignment Key Atom) → SaysSame (told_of_each t (λ a. told (gives (member a)) s)) t
each_itself t s = record {
  gives = alike_is (flat_map (λ a. a ∷ []) t.gives) t.gives (singles t.gives);
  fails = ap (λ b. t.fails || b) (none_fails t.gives) ∙ or_none t.fails;
  names =
      let none : t.names ++ flat_map (λ a. []) t.gives ≡ t.names = ap (λ ks. t.names ++ ks) (flat_none (λ a. []) (λ a. refl) t.gives) ∙ append-nil t.names in
      alike_is (t.names ++ flat_map (λ a. []) t.gives) t.names none;
}

-- a chain and then another
module _ {S : Type 0} (rule : S → Atom → Outcome Key Atom) (s : Assignment Key Atom) where
  pub chain_appended : (row rest : List S) (a : Atom) → SaysSame (told (chain_rule rule (row ++ rest) a) s) (told_of_each (told (chain_rule rule row a) s) (λ b. told (chain_rule rule rest b) s))
  chain_appended [] rest a =
      let next = λ (b : Atom). told (chain_rule rule rest b) s in
      same_turned (told_of_each (record { gives = a ∷ []; fails = false; names = [] }) next) (next a)
      (same_then (told_of_each (record { gives = a ∷ []; fails = false; names = [] }) next) (both_told (next a) nothing_told) (next a) (each_of_members (a ∷ []) next) (same_alone (next a)))
  chain_appended (step ∷ row) rest a =
      let next = λ (b : Atom). told (chain_rule rule rest b) s in
      let one = told_and_then (rule step a) (chain_rule rule (row ++ rest)) s in
      let two = each_right (told (rule step a) s) (λ b. told (chain_rule rule (row ++ rest) b) s) (λ b. told_of_each (told (chain_rule rule row b) s) next) (λ b. chain_appended row rest b) in
      let three = each_each (told (rule step a) s) (λ b. told (chain_rule rule row b) s) next in
      let four = each_left (told (chain_rule rule (step ∷ row) a) s) (told_of_each (told (rule step a) s) (λ b. told (chain_rule rule row b) s)) next (told_and_then (rule step a) (chain_rule rule row) s) in
      same_then (told (chain_rule rule (step ∷ (row ++ rest)) a) s) (told_of_each (told (rule step a) s) (λ b. told (chain_rule rule (row ++ rest) b) s)) (told_of_each (told (chain_rule rule (step ∷ row) a) s) next) one
      (same_then (told_of_each (told (rule step a) s) (λ b. told (chain_rule rule (row ++ rest) b) s)) (told_of_each (told (rule step a) s) (λ b. told_of_each (told (chain_rule rule row b) s) next)) (told_of_each (told (chain_rule rule (step ∷ row) a) s) next) two
      (same_then (told_of_each (told (rule step a) s) (λ b. told_of_each (told (chain_rule rule row b) s) next)) (told_of_each (told_of_each (told (rule step a) s) (λ b. told (chain_rule rule row b) s)) next) (told_of_each (told (chain_rule rule (step ∷ row) a) s) next)
      (same_turned (told_of_each (told_of_each (told (rule step a) s) (λ b. told (chain_rule rule row b) s)) next) (told_of_each (told (rule step a) s) (λ b. told_of_each (told (chain_rule rule row b) s) next)) three)
      (same_turned (told_of_each (told (chain_rule rule (step ∷ row) a) s) next) (told_of_each (told_of_each (told (rule step a) s) (λ b. told (chain_rule rule row b) s)) next) four)))

  -- a chain of one step
  pub last_alone : (step : S) (a : Atom) → SaysSame (told (rule step a) s) (told (chain_rule rule (step ∷ []) a) s)
  last_alone step a =
      let whole = told (chain_rule rule (step ∷ []) a) s in
      let each = told_of_each (told (rule step a) s) (λ b. told (chain_rule rule [] b) s) in
      same_turned whole (told (rule step a) s) (same_then whole each (told (rule step a) s) (told_and_then (rule step a) (chain_rule rule []) s) (each_itself (told (rule step a) s) s))

  -- a part whose members go on by a chain
  pub read_on : (k : Key) (rest : List S) → SaysSame (part_told (chain_rule rule) (Each k rest) s) (told_of_each (part_told (chain_rule rule) (Read k) s) (λ b. told (chain_rule rule rest b) s))
  read_on k rest = let next = λ (b : Atom). told (chain_rule rule rest b) s in let all = each_of_members (s k) next in record {
    gives = alike_turned (flat_map (λ b. (next b).gives) (s k)) (all_told (map next (s k))).gives all.gives;
    fails = sym all.fails;
    names = alike_append (k ∷ []) (all_told (map next (s k))).names (k ∷ []) (flat_map (λ b. (next b).names) (s k)) (alike_itself (k ∷ []))
        (alike_turned (flat_map (λ b. (next b).names) (s k)) (all_told (map next (s k))).names all.names);
  }

  pub row_on : (k : Key) (row rest : List S) → SaysSame (part_told (chain_rule rule) (Each k (row ++ rest)) s) (told_of_each (part_told (chain_rule rule) (Each k row) s) (λ b. told (chain_rule rule rest b) s))
  row_on k row rest =
      let next = λ (b : Atom). told (chain_rule rule rest b) s in
      let near = λ (b : Atom). told (chain_rule rule row b) s in
      let far = λ (b : Atom). told (chain_rule rule (row ++ rest) b) s in
      let here : Told = record { gives = s k; fails = false; names = k ∷ [] } in
      let one = read_on k (row ++ rest) in
      let two = each_right here far (λ b. told_of_each (near b) next) (λ b. chain_appended row rest b) in
      let three = each_each here near next in
      let four = each_left (part_told (chain_rule rule) (Each k row) s) (told_of_each here near) next (read_on k row) in
      same_then (part_told (chain_rule rule) (Each k (row ++ rest)) s) (told_of_each here far) (told_of_each (part_told (chain_rule rule) (Each k row) s) next) one
      (same_then (told_of_each here far) (told_of_each here (λ b. told_of_each (near b) next)) (told_of_each (part_told (chain_rule rule) (Each k row) s) next) two
      (same_then (told_of_each here (λ b. told_of_each (near b) next)) (told_of_each (told_of_each here near) next) (told_of_each (part_told (chain_rule rule) (Each k row) s) next)
      (same_turned (told_of_each (told_of_each here near) next) (told_of_each here (λ b. told_of_each (near b) next)) three)
      (same_turned (told_of_each (part_told (chain_rule rule) (Each k row) s) next) (told_of_each (told_of_each here near) next) four)))

  -- members that go on by a chain, one part for each
  pub members_on : (type : List Atom) (rest : List S) → SaysSame (told_of_each (part_told (chain_rule rule) (Members type) s) (λ b. told (chain_rule rule rest b) s)) (all_told (map (λ b. told (chain_rule rule rest b) s) type))
  members_on type rest = each_of_members type (λ b. told (chain_rule rule rest b) s)
