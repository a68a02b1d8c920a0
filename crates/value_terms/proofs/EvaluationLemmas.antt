-- Parts that are taken from the last one on, and members that are moved.
use Rattle.std.proofs.Common.{◌≡◌, Bool, true, false, ◌||◌, List, [], ◌∷◌, ◌++◌, map, Option, refl, sym, subst, append_assoc}
use Rattle.std.specs.List.{Contains}
use Rattle.std.proofs.lemmas.List.{append-nil, map-append}
use Rattle.std.proofs.lemmas.List.Elements.{Contains-append_left, Contains-append_right}
use Rattle.py_base.specs.declared.key.Key.{Key}
use Rattle.type_terms.specs.declared.atom.Atom.{Atom}
use Rattle.type_terms.specs.Asked.{AsksSome, AsksJust}
use Rattle.value_terms.specs.Laws.{IsInside}
use Rattle.value_terms.specs.Outcome.{Outcome}
use Rattle.value_terms.specs.Term.{Assignment}
use Rattle.value_terms.specs.Told.{Told, Gathered, gathered, Adds, SaysSame, IsAlike, both_told, nothing_told, all_told, part_told, parts_told}
use Rattle.value_terms.specs.declared.part.Part.{Part}
use Rattle.value_terms.specs.declared.part.Part.TheVariants.{Members, Read}
use Rattle.value_terms.proofs.ListLemmas.{append_all}
use Rattle.value_terms.proofs.AskLemmas.{asks_none, some_more}
use Rattle.value_terms.proofs.ToldLemmas.{alike_itself, alike_then, alike_append, alike_is, adds_alike, or_none, LeadsTo, leads_next, leads_stop, leads_end}
use Rattle.value_terms.proofs.BindLemmas.{same_itself, same_turned, same_then, same_both, same_alone, same_appended}

module _ {X : Type 0} where
  swap_in : (xs ys : List X) → IsInside (xs ++ ys) (ys ++ xs)
  swap_in xs ys = append_all (λ x. Contains (ys ++ xs) x) xs ys (λ x h. Contains-append_right ys xs x h) (λ x h. Contains-append_left ys xs x h)

  alike_swap : (xs ys : List X) → IsAlike (xs ++ ys) (ys ++ xs)
  alike_swap xs ys = (swap_in xs ys, swap_in ys xs)

  -- the last one of some is moved to others
  pub one_moved : (start here old new : List X) (x : X) (next : List X) → IsAlike start (here ++ old) → old ≡ new ++ x ∷ [] → next ≡ here ++ x ∷ [] → IsAlike start (next ++ new)
  one_moved start here old new x next h is added =
      let turned = alike_append here (new ++ x ∷ []) here (x ∷ new) (alike_itself here) (alike_swap new (x ∷ [])) in
      let joined = alike_is (here ++ x ∷ new) ((here ++ x ∷ []) ++ new) (sym (append_assoc here (x ∷ []) new)) in
      subst (λ ys. IsAlike start (ys ++ new)) (sym added)
      (alike_then start (here ++ (new ++ x ∷ [])) ((here ++ x ∷ []) ++ new) (subst (λ ys. IsAlike start (here ++ ys)) is h)
      (alike_then (here ++ (new ++ x ∷ [])) (here ++ x ∷ new) ((here ++ x ∷ []) ++ new) turned joined))

  pub all_moved : (start here left : List X) → IsAlike start (here ++ left) → left ≡ [] → IsAlike start here
  all_moved start here left h none = alike_then start (here ++ []) here (subst (λ ys. IsAlike start (here ++ ys)) none h) (alike_is (here ++ []) here (append-nil here))

or_swap : (a b : Bool) → (a || b) ≡ (b || a)
or_swap true true = refl
or_swap true false = refl
or_swap false true = refl
or_swap false false = refl

same_swapped : (t u : Told) → SaysSame (both_told t u) (both_told u t)
same_swapped t u = record { gives = alike_swap t.gives u.gives; fails = or_swap t.fails u.fails; names = alike_swap t.names u.names }

leads_alike : (left same whole : Told) (b now : Gathered) → SaysSame same left → LeadsTo left whole now b → LeadsTo same whole now b
leads_alike left same whole b now says lead = record {
  adds = λ a k. lead.adds a (adds_alike same left now a says k);
  asks = λ a k. lead.asks a (some_more now.asked a same.names left.names says.names.0 k);
}

module _ {R : Type 0} (rule : R → Atom → Outcome Key Atom) where
  -- a part that gives members, and one that gives those of a key
  pub members_adds : (part : Part R) (type : List Atom) (s : Assignment Key Atom) (before after : List Atom) (fault : Bool) (asked : Option (List Key))
      → part ≡ Members type → IsAlike (before ++ type) after → Adds (part_told rule part s) (gathered before fault asked) (gathered after fault asked)
  members_adds part type s before after fault asked is moved =
      subst (λ p. Adds (part_told rule p s) (gathered before fault asked) (gathered after fault asked)) (sym is) (record { members = moved; fault = or_none fault; asked = asks_none asked })

  pub read_adds : (part : Part R) (k : Key) (type : List Atom) (s : Assignment Key Atom) (before after : List Atom) (fault : Bool) (asked then : Option (List Key))
      → part ≡ Read k → type ≡ s k → IsAlike (before ++ type) after → AsksJust asked (k ∷ []) then → Adds (part_told rule part s) (gathered before fault asked) (gathered after fault then)
  read_adds part k type s before after fault asked then is same moved named =
      subst (λ p. Adds (part_told rule p s) (gathered before fault asked) (gathered after fault then)) (sym is)
      (record { members = subst (λ ty. IsAlike (before ++ ty) after) same moved; fault = or_none fault; asked = named })

  -- the last part, and those before it
  last_first : (s : Assignment Key Atom) (parts : List (Part R)) (last : Part R) → SaysSame (both_told (part_told rule last s) (parts_told rule parts s)) (parts_told rule (parts ++ last ∷ []) s)
  last_first s parts last =
      let f = λ (p : Part R). part_told rule p s in
      let rest = all_told (map f parts) in
      let end = both_told (f last) nothing_told in
      let whole = all_told (map f parts ++ f last ∷ []) in
      subst (λ ts. SaysSame (both_told (f last) rest) (all_told ts)) (sym (map-append f parts (last ∷ [])))
      (same_then (both_told (f last) rest) (both_told rest (f last)) whole (same_swapped (f last) rest)
      (same_then (both_told rest (f last)) (both_told rest end) whole (same_both rest (f last) rest end (same_itself rest) (same_turned end (f last) (same_alone (f last))))
      (same_turned whole (both_told rest end) (same_appended (map f parts) (f last ∷ [])))))

  module _ (old new : List (Part R)) (last : Part R) (s1 s0 : Assignment Key Atom) (same : s1 ≡ s0) (is : old ≡ new ++ last ∷ []) (whole : Told) (b now : Gathered) where
    last_leads : LeadsTo (parts_told rule old s0) whole now b → LeadsTo (both_told (part_told rule last s1) (parts_told rule new s0)) whole now b
    last_leads lead =
        subst (λ s. LeadsTo (both_told (part_told rule last s) (parts_told rule new s0)) whole now b) (sym same)
        (leads_alike (parts_told rule (new ++ last ∷ []) s0) (both_told (part_told rule last s0) (parts_told rule new s0)) whole b now (last_first s0 new last)
        (subst (λ ps. LeadsTo (parts_told rule ps s0) whole now b) is lead))

    pub last_next : (next : Gathered) → LeadsTo (parts_told rule old s0) whole now b → Adds (part_told rule last s1) now next → LeadsTo (parts_told rule new s0) whole next b
    last_next next lead h = leads_next (part_told rule last s1) (parts_told rule new s0) whole b now next (last_leads lead) h

    pub last_stop : (after : Option (List Key)) → LeadsTo (parts_told rule old s0) whole now b → AsksSome now.asked (part_told rule last s1).names after → AsksSome b.asked whole.names after
    last_stop after lead k = leads_stop (part_told rule last s1) (parts_told rule new s0) whole b now after (last_leads lead) k

  pub none_left : (left : List (Part R)) (s : Assignment Key Atom) (whole : Told) (b now : Gathered) → left ≡ [] → LeadsTo (parts_told rule left s) whole now b → Adds whole b now
  none_left left s whole b now none lead = leads_end whole b now (subst (λ ps. LeadsTo (parts_told rule ps s) whole now b) none lead)
