-- What a question needs, as ways and clauses: how each step of collecting them keeps what they say.
use Rattle.std.proofs.Common.{◌≡◌, ◌↔◌, ℕ, ◌+◌, ◌<◌, ◌≤◌, List, [], ◌∷◌, ◌++◌, length, take, get_or, Option, Some, None, true, false, ◌||◌, inl, inr, refl, sym, ap, subst, ◌∙◌, append_assoc}
use Rattle.std.specs.Prelude.{All, Contains, filter_map, option_to_list}
use Rattle.std.specs.List.{list_any, cons_option}
use Rattle.std.proofs.lemmas.List.Elements.{filter_map-append, All-weaker, All-nil, All-append, All-push, All-pop, All-contains, Contains-append_left, Contains-append_right, Contains-get_or}
use Rattle.std.proofs.lemmas.List.{take_more, take_all, append-nil}
use Rattle.assign_rules.specs.declared.question.Question.{Question}
use Rattle.assign_rules.specs.declared.question.Question.TheVariants.{Accepted, Same}
use Rattle.py_base.specs.declared.ids.ClassId.{ClassId}
use Rattle.py_base.specs.declared.key.Key.{Key}
use Rattle.type_terms.specs.declared.atom.Atom.{Atom}
use Rattle.assign_rules.specs.Members.{Table}
use Rattle.assign_rules.specs.Goes.{Needs, passes, takes_all}
use Rattle.assign_rules.specs.Accepts.{Test, SameTest, HasWay, IsTaken, ByTest, Holds, ways, like_ways, has_unknown}
use Rattle.assign_rules.specs.Clauses.{AreWays, AreClauses, Adds}
use Rattle.assign_rules.proofs.Lists.{mapped_in, any_of, all_of}

pub no_clauses : (P : List Question → Type 0) → ((set : List Question) → P set) → AreClauses P []
no_clauses P h = λ set. (λ _. h set, λ _. All-nil (HasWay set))

pub clause_more : (P Q R : List Question → Type 0) (clauses : List (List (List Question))) (told : Option (List (List Question)))
    → ((set : List Question) → P set × Q set ↔ R set) → AreClauses P clauses → AreWays Q told → AreClauses R (clauses ++ option_to_list told)
clause_more P Q R clauses None both p q =
    subst (AreClauses R) (sym (append-nil clauses)) (λ set. (λ all. (both set).0 ((p set).0 all, q set), λ r. (p set).1 ((both set).1 r).0))
clause_more P Q R clauses (Some ways) both p q = λ set. (
  λ all. let parts = All-pop (HasWay set) (clauses ++ ways ∷ []) clauses (Some ways) refl all in (both set).0 ((p set).0 parts.0, (q set).0 parts.1),
  λ r. let parts = (both set).1 r in All-push (HasWay set) clauses ways ((p set).1 parts.0) ((q set).1 parts.1),
)

-- one element more
pub all_one_more : {X : Type 0} (P : X → Type 0) (xs : List X) (i : ℕ) (x : X) → i < length xs → x ≡ get_or xs i x → (All P (take i xs) × P x) ↔ All P (take (i + 1) xs)
all_one_more P xs i x within is =
    let taken : take (i + 1) xs ≡ take i xs ++ x ∷ [] = take_more xs i x within ∙ ap (λ y. take i xs ++ y ∷ []) (sym is) in (
      λ both. subst (All P) (sym taken) (All-push P (take i xs) x both.0 both.1),
      λ all. let parts = All-pop P (take i xs ++ x ∷ []) (take i xs) (Some x) refl (subst (All P) taken all) in (parts.0, parts.1),
    )

-- what each of some members needs, one member more
pub each_more : (Q : List Question → Atom → Type 0) (xs : List Atom) (i : ℕ) (x : Atom) (clauses new : List (List (List Question))) (told : Option (List (List Question)))
    → i < length xs → x ≡ get_or xs i x → AreClauses (λ set. All (Q set) (take i xs)) clauses → AreWays (λ set. Q set x) told → new ≡ clauses ++ option_to_list told
    → AreClauses (λ set. All (Q set) (take (i + 1) xs)) new
each_more Q xs i x clauses new told within is p q e =
    subst (AreClauses (λ set. All (Q set) (take (i + 1) xs))) (sym e)
    (clause_more (λ set. All (Q set) (take i xs)) (λ set. Q set x) (λ set. All (Q set) (take (i + 1) xs)) clauses told (λ set. all_one_more (Q set) xs i x within is) p q)

pub each_none : (Q : List Question → Atom → Type 0) (xs : List Atom) → AreClauses (λ set. All (Q set) (take 0 xs)) []
each_none Q xs = no_clauses (λ set. All (Q set) (take 0 xs)) (λ set. All-nil (Q set))

pub each_all : (Q : List Question → Atom → Type 0) (xs : List Atom) (i : ℕ) (clauses : List (List (List Question))) → length xs ≤ i → AreClauses (λ set. All (Q set) (take i xs)) clauses → AreClauses (λ set. All (Q set) xs) clauses
each_all Q xs i clauses ended p = subst (λ ys. AreClauses (λ set. All (Q set) ys) clauses) (take_all i xs ended) p

pub adds_none : (Q : List Question → Atom → Type 0) (xs : List Atom) (old : List (List (List Question))) → Adds (λ set. All (Q set) (take 0 xs)) old old
adds_none Q xs old = record { more = []; parts = sym (append-nil old); says = each_none Q xs }

pub adds_more : (Q : List Question → Atom → Type 0) (xs : List Atom) (i : ℕ) (x : Atom) (old now new : List (List (List Question))) (told : Option (List (List Question)))
    → i < length xs → x ≡ get_or xs i x → Adds (λ set. All (Q set) (take i xs)) old now → AreWays (λ set. Q set x) told → new ≡ now ++ option_to_list told
    → Adds (λ set. All (Q set) (take (i + 1) xs)) old new
adds_more Q xs i x old now new told within is adds q e = record {
  more = adds.more ++ option_to_list told;
  parts = e ∙ ap (λ cs. cs ++ option_to_list told) adds.parts ∙ append_assoc old adds.more (option_to_list told);
  says = each_more Q xs i x adds.more (adds.more ++ option_to_list told) told within is adds.says q refl;
}

pub adds_all : (Q : List Question → Atom → Type 0) (xs : List Atom) (i : ℕ) (old now : List (List (List Question))) → length xs ≤ i → Adds (λ set. All (Q set) (take i xs)) old now → Adds (λ set. All (Q set) xs) old now
adds_all Q xs i old now ended adds = record { more = adds.more; parts = adds.parts; says = each_all Q xs i adds.more ended adds.says }

front : {X : Type 0} (P : X → Type 0) (xs ys : List X) → All P (xs ++ ys) → All P xs
front P xs ys all = all_of P xs (λ x c. All-contains P (xs ++ ys) x all (Contains-append_left xs ys x c))

back : {X : Type 0} (P : X → Type 0) (xs ys : List X) → All P (xs ++ ys) → All P ys
back P xs ys all = all_of P ys (λ x c. All-contains P (xs ++ ys) x all (Contains-append_right xs ys x c))

-- the clauses of two halves
pub both_halves : (P Q : List Question → Type 0) (first last : List (List (List Question))) → AreClauses P first → AreClauses Q last → AreClauses (λ set. P set × Q set) (first ++ last)
both_halves P Q first last p q = λ set.
    (λ all. ((p set).0 (front (HasWay set) first last all), (q set).0 (back (HasWay set) first last all)), λ both. All-append (HasWay set) first last ((p set).1 both.0) ((q set).1 both.1))

-- a way that needs nothing is a way of each set
pub free_way : (f : Atom → Needs) (xs : List Atom) (i : ℕ) (x : Atom) (way : List Question) → i < length xs → x ≡ get_or xs i x → f x ≡ Some way → way ≡ [] → (set : List Question) → HasWay set (filter_map f xs)
free_way f xs i x way within is e none set =
    any_of (λ w. All (Contains set) w) (filter_map f xs) [] (mapped_in f xs x [] (subst (Contains xs) (sym is) (Contains-get_or xs i x within)) (e ∙ ap (λ w. Some w) none)) (All-nil (Contains set))

pub known_ways : (f : Atom → Needs) (xs : List Atom) (i : ℕ) (found : List (List Question)) → length xs ≤ i → found ≡ filter_map f (take i xs) → AreWays (λ set. HasWay set (filter_map f xs)) (Some found)
known_ways f xs i found ended e = λ set.
    let same : found ≡ filter_map f xs = e ∙ ap (filter_map f) (take_all i xs ended) in
    (λ h. subst (HasWay set) same h, λ h. subst (HasWay set) (sym same) h)

module _ (t : Table) (test : Test) (target : List Atom) (x : Atom) where
  pub by_passing : passes t.classes x ≡ true → AreWays (λ set. IsTaken t test set target x) None
  by_passing h = λ set. inl h

  pub by_free_way : AreWays (λ set. HasWay set (ways t x target)) None → AreWays (λ set. IsTaken t test set target x) None
  by_free_way h = λ set. inr (inl (h set))

  pub by_test : ByTest test x target → AreWays (λ set. IsTaken t test set target x) None
  by_test h = λ set. inr (inr h)

  pub by_ways : (found : List (List Question)) → passes t.classes x ≡ false → (ByTest test x target → ⊥) → AreWays (λ set. HasWay set (ways t x target)) (Some found) → AreWays (λ set. IsTaken t test set target x) (Some found)
  by_ways found fails none h = λ set. (
    λ has. inr (inl ((h set).0 has)),
    λ taken. elim taken as (λ _. HasWay set found) [
      | inl first ↦ let no : ⊥ = cc in absurd no
      | inr rest ↦ elim rest as (λ _. HasWay set found) [ inl has ↦ (h set).1 has | inr by ↦ absurd (none by) ]
    ],
  )

one_mapped : (told : Needs) → cons_option told [] ≡ option_to_list told
one_mapped None = refl
one_mapped (Some way) = refl

-- one element more that a function looks at
pub mapped_more : (f : Atom → Needs) (xs : List Atom) (i : ℕ) (x : Atom) (told : Needs) (old new : List (List Question)) → i < length xs → x ≡ get_or xs i x → told ≡ f x
    → old ≡ filter_map f (take i xs) → new ≡ old ++ option_to_list told → new ≡ filter_map f (take (i + 1) xs)
mapped_more f xs i x told old new within is e so_far more =
    let taken : take (i + 1) xs ≡ take i xs ++ x ∷ [] = take_more xs i x within ∙ ap (λ y. take i xs ++ y ∷ []) (sym is) in
    more ∙ ap (λ ws. ws ++ option_to_list told) so_far ∙ ap (λ o. filter_map f (take i xs) ++ option_to_list o) e ∙ ap (λ ws. filter_map f (take i xs) ++ ws) (sym (one_mapped (f x)))
    ∙ sym (filter_map-append f (take i xs) (x ∷ [])) ∙ ap (filter_map f) (sym taken)

pub same_says : (t : Table) (test : Test) (xs ys : List Atom) (start one both : List (List (List Question))) → start ≡ [] → (has_unknown xs || has_unknown ys) ≡ false
    → Adds (λ set. All (λ x. HasWay set (like_ways t x ys)) xs) start one → Adds (λ set. All (λ y. HasWay set (like_ways t y xs)) ys) one both
    → AreClauses (λ set. Holds t test set (Same xs ys)) both
same_says t test xs ys start one both none known first last =
    let whole : both ≡ first.more ++ last.more = last.parts ∙ ap (λ cs. cs ++ last.more) (first.parts ∙ ap (λ cs. cs ++ first.more) none) in
    let halves = both_halves (λ set. All (λ x. HasWay set (like_ways t x ys)) xs) (λ set. All (λ y. HasWay set (like_ways t y xs)) ys) first.more last.more first.says last.says in
    subst (AreClauses (λ set. Holds t test set (Same xs ys))) (sym whole) (λ set. (
      λ all. inr ((halves set).0 all),
      λ holds. elim holds as (λ _. All (HasWay set) (first.more ++ last.more)) [ inl unknown ↦ let no : ⊥ = cc in absurd no | inr likes ↦ (halves set).1 likes ],
    ))

pub unknown_says : (t : Table) (test : Test) (xs ys : List Atom) (start : List (List (List Question))) → start ≡ [] → (has_unknown xs || has_unknown ys) ≡ true → AreClauses (λ set. Holds t test set (Same xs ys)) start
unknown_says t test xs ys start none unknown = subst (AreClauses (λ set. Holds t test set (Same xs ys))) (sym none) (no_clauses (λ set. Holds t test set (Same xs ys)) (λ set. inl unknown))

pub all_says : (t : Table) (test : Test) (source target : List Atom) (start : List (List (List Question))) → start ≡ [] → list_any takes_all target ≡ true → AreClauses (λ set. Holds t test set (Accepted source target)) start
all_says t test source target start none takes =
    subst (AreClauses (λ set. Holds t test set (Accepted source target))) (sym none) (no_clauses (λ set. Holds t test set (Accepted source target)) (λ set. inl takes))

pub each_says : (t : Table) (test : Test) (source target : List Atom) (i : ℕ) (clauses : List (List (List Question))) → length source ≤ i → list_any takes_all target ≡ false
    → AreClauses (λ set. All (IsTaken t test set target) (take i source)) clauses → AreClauses (λ set. Holds t test set (Accepted source target)) clauses
each_says t test source target i clauses ended takes h =
    let all = each_all (λ set. IsTaken t test set target) source i clauses ended h in
    λ set. (λ has. inr ((all set).0 has), λ holds. elim holds as (λ _. All (HasWay set) clauses) [ inl first ↦ let no : ⊥ = cc in absurd no | inr taken ↦ (all set).1 taken ])

-- tests that answer alike
abbrev pub SameAt : Test → Test → Type 0
SameAt one other = (low : Atom) (high : ClassId) → one low high ↔ other low high

module _ (t : Table) (one other : Test) (same : SameAt one other) where
  by_as : (x : Atom) (target : List Atom) → ByTest one x target → ByTest other x target
  by_as x target by = record { instance = by.instance; high = by.high; there = by.there; holds = (same x by.high).0 by.holds }

  taken_as : (set : List Question) (target : List Atom) (x : Atom) → IsTaken t one set target x → IsTaken t other set target x
  taken_as set target x (inl passes) = inl passes
  taken_as set target x (inr (inl way)) = inr (inl way)
  taken_as set target x (inr (inr by)) = inr (inr (by_as x target by))

  holds_as : (set : List Question) (q : Question) → Holds t one set q → Holds t other set q
  holds_as set (Accepted source target) (inl takes) = inl takes
  holds_as set (Accepted source target) (inr taken) = inr (All-weaker (IsTaken t one set target) (IsTaken t other set target) (taken_as set target) source taken)
  holds_as set (Same xs ys) holds = holds

pub test_on : (one two three : (Key → List Atom) → Test) → SameTest one two → SameTest two three → SameTest one three
test_on one two three f g = λ types low high. (λ h. (g types low high).0 ((f types low high).0 h), λ h. (f types low high).1 ((g types low high).1 h))

pub same_back : (one other : Test) → SameAt one other → SameAt other one
same_back one other same = λ low high. ((same low high).1, (same low high).0)

pub ways_as : (t : Table) (one other : Test) → SameAt one other → (target : List Atom) (x : Atom) (told : Option (List (List Question))) → AreWays (λ set. IsTaken t one set target x) told → AreWays (λ set. IsTaken t other set target x) told
ways_as t one other same target x None h = λ set. taken_as t one other same set target x (h set)
ways_as t one other same target x (Some ways) h = λ set. (λ has. taken_as t one other same set target x ((h set).0 has), λ taken. (h set).1 (taken_as t other one (same_back one other same) set target x taken))

pub clauses_as : (t : Table) (one other : Test) → SameAt one other → (q : Question) (clauses : List (List (List Question))) → AreClauses (λ set. Holds t one set q) clauses → AreClauses (λ set. Holds t other set q) clauses
clauses_as t one other same q clauses h = λ set. (λ has. holds_as t one other same set q ((h set).0 has), λ holds. (h set).1 (holds_as t other one (same_back one other same) set q holds))
