-- The greatest set of places answers the first question: from sets of places to sets of questions and back.
use Rattle.std.proofs.Common.{◌≡◌, ◌↔◌, ℕ, zero, suc, ◌<◌, List, [], ◌∷◌, length, map, Bool, true, false, ◌&&◌, refl, sym, ap, subst, ◌∙◌}
use Rattle.std.specs.Prelude.{Contains, filter_map, slice_get, slice_index_or, IsTrue}
use Rattle.std.specs.List.{list_any}
use Rattle.std.specs.Cmp.{eq_by_cmp_equiv, Equal-is}
use Rattle.std.proofs.lemmas.Option.{slice_get-get_or, same_Some}
use Rattle.std.proofs.lemmas.List.Elements.{All-contains}
use Rattle.type_terms.specs.declared.atom.Atom.{Atom}
use Rattle.type_terms.specs.Order.{atom_cmp}
use Rattle.type_terms.specs.KeyOrder.{atom_cmp_total}
use Rattle.type_terms.proofs.OrderLaws.{atom_cmp_tells}
use Rattle.assign_rules.specs.declared.question.Question.{Question}
use Rattle.assign_rules.specs.declared.question.Question.TheVariants.{Accepted, Same}
use Rattle.assign_rules.specs.Members.{Table}
use Rattle.assign_rules.specs.Goes.{is_atom}
use Rattle.assign_rules.specs.Accepts.{Test, Holds, Accepts}
use Rattle.assign_rules.specs.Greatest.{Clauses, HoldsIn, IsInGreatest, IsMarked}
use Rattle.assign_rules.proofs.Lists.{mapped_in, mapped_from, all_of}
use Rattle.assign_rules.proofs.Marks.{places, place_in, place_marked, any_true, true_any, both_true}
use Rattle.assign_rules.specs.Places.{IsAt, IsTold, AreTold}
use Rattle.assign_rules.proofs.Placed.{all_asked, all_placed}

pub atom_self : (x : Atom) → is_atom x x ≡ true
atom_self = (eq_by_cmp_equiv atom_cmp_total).refl

pub atom_same : (x y : Atom) → is_atom x y ≡ true → x ≡ y
atom_same x y h = atom_cmp_tells x y ((Equal-is (atom_cmp x y)).0 h)

-- whether two lists of members are the same
abbrev same_members : List Atom → List Atom → Bool
same_members [] [] = true
same_members [] (y ∷ ys) = false
same_members (x ∷ xs) [] = false
same_members (x ∷ xs) (y ∷ ys) = is_atom x y && same_members xs ys

abbrev same_question : Question → Question → Bool
same_question (Accepted a b) (Accepted x y) = same_members a x && same_members b y
same_question (Accepted a b) (Same x y) = false
same_question (Same a b) (Accepted x y) = false
same_question (Same a b) (Same x y) = same_members a x && same_members b y

members_self : (xs : List Atom) → same_members xs xs ≡ true
members_self [] = refl
members_self (x ∷ xs) = ap (λ b. b && same_members xs xs) (atom_self x) ∙ members_self xs

members_same : (xs ys : List Atom) → same_members xs ys ≡ true → xs ≡ ys
members_same [] [] h = refl
members_same [] (y ∷ ys) h = let no : ⊥ = cc in absurd no
members_same (x ∷ xs) [] h = let no : ⊥ = cc in absurd no
members_same (x ∷ xs) (y ∷ ys) h = let both = both_true (is_atom x y) (same_members xs ys) h in ap (λ z. z ∷ xs) (atom_same x y both.0) ∙ ap (λ zs. y ∷ zs) (members_same xs ys both.1)

question_self : (q : Question) → same_question q q ≡ true
question_self (Accepted a b) = ap (λ c. c && same_members b b) (members_self a) ∙ members_self b
question_self (Same a b) = ap (λ c. c && same_members b b) (members_self a) ∙ members_self b

question_same : (q r : Question) → same_question q r ≡ true → q ≡ r
question_same (Accepted a b) (Accepted x y) h =
    let both = both_true (same_members a x) (same_members b y) h in ap (λ c. Accepted c b) (members_same a x both.0) ∙ ap (λ c. Accepted x c) (members_same b y both.1)
question_same (Accepted a b) (Same x y) h = let no : ⊥ = cc in absurd no
question_same (Same a b) (Accepted x y) h = let no : ⊥ = cc in absurd no
question_same (Same a b) (Same x y) h =
    let both = both_true (same_members a x) (same_members b y) h in ap (λ c. Same c b) (members_same a x both.0) ∙ ap (λ c. Same x c) (members_same b y both.1)

-- whether a question is in a set
abbrev is_asked : List Question → Question → Bool
is_asked set q = list_any (same_question q) set

asked_in : (set : List Question) (q : Question) → Contains set q → is_asked set q ≡ true
asked_in set q c = true_any (same_question q) set q c (question_self q)

in_asked : (set : List Question) (q : Question) → is_asked set q ≡ true → Contains set q
in_asked set q h = let found = any_true (same_question q) set h in subst (Contains set) (sym (question_same q found.0 found.2)) found.1

-- the marks of the questions that a test takes
marked_map : (f : Question → Bool) (qs : List Question) (p : ℕ) (q : Question) → IsAt qs q p → f q ≡ true → IsMarked (map f qs) p
marked_map f [] p q at h = let no : ⊥ = cc in absurd no
marked_map f (x ∷ qs) zero q at h = ap f (same_Some x q at) ∙ h
marked_map f (x ∷ qs) (suc p) q at h = marked_map f qs p q at h

map_marked : (f : Question → Bool) (qs : List Question) (p : ℕ) → IsMarked (map f qs) p → (q : Question) × IsAt qs q p × (f q ≡ true)
map_marked f [] p h = let no : ⊥ = cc in absurd no
map_marked f (x ∷ qs) zero h = (x, refl, h)
map_marked f (x ∷ qs) (suc p) h = map_marked f qs p h

module _ (t : Table) (test : Test) (qs : List Question) (cs : List Clauses) (told : AreTold t test qs cs) (all : (q : Question) (p : ℕ) → IsAt qs q p → p < length cs) where
  -- what is told of the question at a place
  told_at : (q : Question) (p : ℕ) → IsAt qs q p → IsTold t test qs q (slice_index_or cs p [])
  told_at q p at =
      let found = told p (slice_index_or cs p []) (slice_get-get_or cs p [] (all q p at)) in
      subst (λ r. IsTold t test qs r (slice_index_or cs p [])) (same_Some found.0 q (sym found.1 ∙ at)) found.2

  from_greatest : (source target : List Atom) → IsAt qs (Accepted source target) 0 → IsInGreatest cs 0 → Accepts t test source target
  from_greatest source target first g =
      let set = filter_map (slice_get qs) g.set in
      record {
        set = set;
        asked = mapped_in (slice_get qs) g.set 0 (Accepted source target) g.there first;
        supported = all_of (Holds t test set) set (λ q c.
            let found = mapped_from (slice_get qs) g.set q c in
            let it = told_at q found.0 found.2 in
            (it.says set).0 (all_asked qs g.set set (λ p r d at. mapped_in (slice_get qs) g.set p r d at) it.needed (slice_index_or cs found.0 []) it.at
            (All-contains (HoldsIn cs g.set) g.set found.0 g.supported found.1)));
      }

  to_greatest : (source target : List Atom) → IsAt qs (Accepted source target) 0 → Accepts t test source target → IsInGreatest cs 0
  to_greatest source target first a =
      let marks = map (is_asked a.set) qs in
      let asked_at = λ (p : ℕ) (q : Question) (c : Contains a.set q) (at : IsAt qs q p). place_in marks p (marked_map (is_asked a.set) qs p q at (asked_in a.set q c)) in
      record {
        set = places marks;
        there = asked_at 0 (Accepted source target) a.asked first;
        within = all_of (λ q. q < length cs) (places marks) (λ p c. let found = map_marked (is_asked a.set) qs p (place_marked marks p c) in all found.0 p found.1);
        supported = all_of (HoldsIn cs (places marks)) (places marks) (λ p c.
            let found = map_marked (is_asked a.set) qs p (place_marked marks p c) in
            let it = told_at found.0 p found.1 in
            all_placed qs a.set (places marks) asked_at it.needed (slice_index_or cs p []) it.at
            ((it.says a.set).1 (All-contains (Holds t test a.set) a.set found.0 a.supported (in_asked a.set found.0 found.2))));
      }

  pub answers : (source target : List Atom) (r : Bool) → IsAt qs (Accepted source target) 0 → IsTrue r ↔ IsInGreatest cs 0 → IsTrue r ↔ Accepts t test source target
  answers source target r first h = (λ e. from_greatest source target first (h.0 e), λ a. h.1 (to_greatest source target first a))
