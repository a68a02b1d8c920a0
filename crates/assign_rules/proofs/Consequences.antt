-- What follows of acceptance: each law gives its own set of questions.
use Rattle.std.proofs.Common.{◌≡◌, List, [], ◌∷◌, Some, inl, inr, refl, subst, ◌++◌}
use Rattle.std.specs.Prelude.{All, Contains, filter_map}
use Rattle.std.proofs.lemmas.List.Elements.{All-contains, All-nil, All-weaker, All-cons, All-head, Contains-append_left, Contains-append_right, Contains-append_cases}
use Rattle.type_terms.specs.declared.atom.Atom.{Atom}
use Rattle.assign_rules.specs.declared.question.Question.{Question}
use Rattle.assign_rules.specs.declared.question.Question.TheVariants.{Accepted, Same}
use Rattle.assign_rules.specs.Members.{Table}
use Rattle.assign_rules.specs.Goes.{Needs, goes, like, takes_all}
use Rattle.assign_rules.specs.Accepts.{Test, ways, like_ways, HasWay, IsTaken, Holds, HaveLikes, Accepts}
use Rattle.assign_rules.specs.Laws.{IsPart, Reflexive, Monotone, EachAlone}
use Rattle.assign_rules.proofs.Lists.{none_in, first_in, later_in, in_cases, mapped_in, mapped_from, any_of, one_of, all_of}
use Rattle.assign_rules.proofs.Marks.{any_true, true_any}
use Rattle.assign_rules.proofs.Found.{atom_self}

goes_self : (t : Table) (x : Atom) → goes t x x ≡ Some []
unfolding goes
goes_self t x = rw (atom_self x) refl

pub reflexive_law : (t : Table) (test : Test) → Reflexive t test
reflexive_law t test type =
    let q = Accepted type type in let set = q ∷ [] in
    record {
      set = set;
      asked = first_in q [];
      supported = all_of (Holds t test set) set (λ r c. elim (in_cases q [] r c) [
        | inl same ↦ subst (Holds t test set) same (inr (all_of (IsTaken t test set type) type (λ x d.
            inr (inl (any_of (λ way. All (Contains set) way) (ways t x type) [] (mapped_in (goes t x) type x [] d (goes_self t x)) (All-nil (Contains set)))))))
        | inr none ↦ absurd (none_in r none)
      ]);
    }

abbrev Within : List Question → List Question → Type 0
Within some all = (q : Question) → Contains some q → Contains all q

-- of a larger set each way is one too
way_more : (some all : List Question) → Within some all → (f : Atom → Needs) (low high : List Atom) → IsPart low high → HasWay some (filter_map f low) → HasWay all (filter_map f high)
way_more some all within f low high part has =
    let found = one_of (λ way. All (Contains some) way) (filter_map f low) has in
    let from = mapped_from f low found.0 found.1 in
    any_of (λ way. All (Contains all) way) (filter_map f high) found.0 (mapped_in f high from.0 found.0 (part from.0 from.1) from.2) (All-weaker (Contains some) (Contains all) within found.0 found.2)

module _ (t : Table) (test : Test) where
  taken_more : (some all : List Question) → Within some all → (target high : List Atom) → IsPart target high → (x : Atom) → IsTaken t test some target x → IsTaken t test all high x
  taken_more some all within target high part x (inl passes) = inl passes
  taken_more some all within target high part x (inr (inl way)) = inr (inl (way_more some all within (goes t x) target high part way))
  taken_more some all within target high part x (inr (inr by)) = inr (inr (record { instance = by.instance; high = by.high; there = part _ by.there; holds = by.holds }))

  likes_more : (some all : List Question) → Within some all → (xs ys : List Atom) → HaveLikes t some xs ys → HaveLikes t all xs ys
  likes_more some all within xs ys likes = (
    All-weaker (λ x. HasWay some (like_ways t x ys)) (λ x. HasWay all (like_ways t x ys)) (λ x h. way_more some all within (like t x) ys ys (λ a c. c) h) xs likes.0,
    All-weaker (λ y. HasWay some (like_ways t y xs)) (λ y. HasWay all (like_ways t y xs)) (λ y h. way_more some all within (like t y) xs xs (λ a c. c) h) ys likes.1,
  )

  holds_more : (some all : List Question) → Within some all → (q : Question) → Holds t test some q → Holds t test all q
  holds_more some all within (Accepted source target) (inl takes) = inl takes
  holds_more some all within (Accepted source target) (inr taken) = inr (All-weaker (IsTaken t test some target) (IsTaken t test all target) (taken_more some all within target target (λ a c. c)) source taken)
  holds_more some all within (Same xs ys) (inl unknown) = inl unknown
  holds_more some all within (Same xs ys) (inr likes) = inr (likes_more some all within xs ys likes)

  -- a pair whose members are among those of an accepted one
  part_holds : (some all : List Question) → Within some all → (low source target high : List Atom) → IsPart low source → IsPart target high → Holds t test some (Accepted source target) → Holds t test all (Accepted low high)
  part_holds some all within low source target high less more (inl takes) =
      let found = any_true takes_all target takes in inl (true_any takes_all high found.0 (more found.0 found.1) found.2)
  part_holds some all within low source target high less more (inr taken) =
      inr (all_of (IsTaken t test all high) low (λ x c. taken_more some all within target high more x (All-contains (IsTaken t test some target) source x taken (less x c))))

  pub monotone_law : Monotone t test
  monotone_law low source target high less a more =
      let q = Accepted low high in let all = q ∷ a.set in
      let within : Within a.set all = λ r c. later_in q a.set r c in
      record {
        set = all;
        asked = first_in q a.set;
        supported = all_of (Holds t test all) all (λ r c. elim (in_cases q a.set r c) [
          | inl same ↦ subst (Holds t test all) same (part_holds a.set all within low source target high less more (All-contains (Holds t test a.set) a.set (Accepted source target) a.supported a.asked))
          | inr there ↦ holds_more a.set all within r (All-contains (Holds t test a.set) a.set r a.supported there)
        ]);
      }

  both_hold : (set : List Question) (x : Atom) (xs target : List Atom) → Holds t test set (Accepted (x ∷ []) target) → Holds t test set (Accepted xs target) → Holds t test set (Accepted (x ∷ xs) target)
  both_hold set x xs target (inl takes) rest = inl takes
  both_hold set x xs target (inr one) (inl takes) = inl takes
  both_hold set x xs target (inr one) (inr all) = inr (All-cons (IsTaken t test set target) x xs (All-head (IsTaken t test set target) x [] one) all)

  -- one member more, which is accepted alone
  with_one : (x : Atom) (xs target : List Atom) → Accepts t test (x ∷ []) target → Accepts t test xs target → Accepts t test (x ∷ xs) target
  with_one x xs target a b =
      let q = Accepted (x ∷ xs) target in let older = a.set ++ b.set in let all = q ∷ older in
      let left : Within a.set all = λ r c. later_in q older r (Contains-append_left a.set b.set r c) in
      let right : Within b.set all = λ r c. later_in q older r (Contains-append_right a.set b.set r c) in
      let first = holds_more a.set all left (Accepted (x ∷ []) target) (All-contains (Holds t test a.set) a.set (Accepted (x ∷ []) target) a.supported a.asked) in
      let rest = holds_more b.set all right (Accepted xs target) (All-contains (Holds t test b.set) b.set (Accepted xs target) b.supported b.asked) in
      record {
        set = all;
        asked = first_in q older;
        supported = all_of (Holds t test all) all (λ r c. elim (in_cases q older r c) as (λ _. Holds t test all r) [
          | inl same ↦ subst (Holds t test all) same (both_hold all x xs target first rest)
          | inr there ↦ elim (Contains-append_cases a.set b.set r there) as (λ _. Holds t test all r) [
            | inl one ↦ holds_more a.set all left r (All-contains (Holds t test a.set) a.set r a.supported one)
            | inr other ↦ holds_more b.set all right r (All-contains (Holds t test b.set) b.set r b.supported other)
          ]
        ]);
      }

  none_accepted : (target : List Atom) → Accepts t test [] target
  none_accepted target =
      let q = Accepted [] target in let set = q ∷ [] in
      record {
        set = set;
        asked = first_in q [];
        supported = all_of (Holds t test set) set (λ r c. elim (in_cases q [] r c) as (λ _. Holds t test set r) [
          | inl same ↦ subst (Holds t test set) same (inr (All-nil (IsTaken t test set target)))
          | inr none ↦ absurd (none_in r none)
        ]);
      }

  pub each_alone_law : EachAlone t test
  each_alone_law [] target each = none_accepted target
  each_alone_law (x ∷ xs) target each = with_one x xs target (each x (first_in x xs)) (each_alone_law xs target (λ a c. each a (later_in x xs a c)))
