-- Parts that are added one after another.
use Rattle.std.proofs.Common.{◌≡◌, ℕ, zero, suc, ◌+◌, ◌<◌, ◌≤◌, List, [], ◌∷◌, ◌++◌, length, get_or, drop, take, take_all, ◌-◌, map, refl, sym, ap, subst, ◌∙◌, arith, Result, Ok, Err, OnOk}
use Rattle.std.proofs.lemmas.List.{drop_more, map-append}
use Rattle.py_base.specs.declared.key.Key.{Key}
use Rattle.type_terms.specs.declared.atom.Atom.{Atom}
use Rattle.value_terms.specs.Term.{Assignment}
use Rattle.value_terms.specs.Outcome.{Outcome}
use Rattle.value_terms.specs.Told.{Told, told, SaysSame, nothing_told, both_told, all_told, part_told, parts_told}
use Rattle.value_terms.specs.Chain.{told_of_each, chain_rule, chain_rank, Extends, Reaches}
use Rattle.value_terms.specs.Ranks.{part_rank, ReachAtMost}
use Rattle.value_terms.specs.declared.part.Part.{Part}
use Rattle.value_terms.specs.declared.part.Part.TheVariants.{Members, Fault, Read, Each}
use Rattle.value_terms.proofs.BindLemmas.{same_itself, same_then, same_turned, same_both, same_alone, same_assoc, same_appended, each_of_both, each_left, told_and_then, last_alone, read_on, row_on, members_on}

dropped : {Y : Type 0} (ys : List Y) (j : ℕ) → length ys ≤ j → drop j ys ≡ []
dropped [] zero h = refl
dropped [] (suc j) h = refl
dropped (y ∷ ys) zero h = absurd (omega (arith, h))
dropped (y ∷ ys) (suc j) h = dropped ys j (omega (arith, h))

module _ {S : Type 0} (rule : S → Atom → Outcome Key Atom) where
  all_parts : List (Part (List S)) → Assignment Key Atom → Told
  all_parts ps s = parts_told (chain_rule rule) ps s

  -- parts more
  pub extends_all : (before parts : List (Part (List S))) (what : Assignment Key Atom → Told) → ((s : Assignment Key Atom) → SaysSame (parts_told (chain_rule rule) parts s) (what s)) → Extends rule before what (before ++ parts)
  extends_all before parts what h s =
      let f = λ (p : Part (List S)). part_told (chain_rule rule) p s in
      let start = all_told (map f before) in
      subst (λ ts. SaysSame (all_told ts) (both_told start (what s))) (sym (map-append f before parts))
      (same_then (all_told (map f before ++ map f parts)) (both_told start (all_told (map f parts))) (both_told start (what s))
      (same_appended (map f before) (map f parts)) (same_both start (all_told (map f parts)) start (what s) (same_itself start) (h s)))

  pub extends_one : (before : List (Part (List S))) (part : Part (List S)) (what : Assignment Key Atom → Told) → ((s : Assignment Key Atom) → SaysSame (part_told (chain_rule rule) part s) (what s)) → Extends rule before what (before ++ part ∷ [])
  extends_one before part what h =
      extends_all before (part ∷ []) what
      (λ s. same_then (both_told (part_told (chain_rule rule) part s) nothing_told) (part_told (chain_rule rule) part s) (what s) (same_alone (part_told (chain_rule rule) part s)) (h s))

  pub extends_none : (before : List (Part (List S))) → Extends rule before (λ s. nothing_told) before
  extends_none before s = same_turned (both_told (parts_told (chain_rule rule) before s) nothing_told) (parts_told (chain_rule rule) before s) (same_alone (parts_told (chain_rule rule) before s))

  pub extends_both : (b m a : List (Part (List S))) (t u : Assignment Key Atom → Told) → Extends rule b t m → Extends rule m u a → Extends rule b (λ s. both_told (t s) (u s)) a
  extends_both b m a t u h k s =
      let bt = parts_told (chain_rule rule) b s in let mt = parts_told (chain_rule rule) m s in let at = parts_told (chain_rule rule) a s in
      same_then at (both_told mt (u s)) (both_told bt (both_told (t s) (u s))) (k s)
      (same_then (both_told mt (u s)) (both_told (both_told bt (t s)) (u s)) (both_told bt (both_told (t s) (u s)))
      (same_both mt (u s) (both_told bt (t s)) (u s) (h s) (same_itself (u s)))
      (same_assoc bt (t s) (u s)))

  pub extends_as : (b a : List (Part (List S))) (t u : Assignment Key Atom → Told) → ((s : Assignment Key Atom) → SaysSame (t s) (u s)) → Extends rule b t a → Extends rule b u a
  extends_as b a t u same h s =
      let bt = parts_told (chain_rule rule) b s in
      same_then (parts_told (chain_rule rule) a s) (both_told bt (t s)) (both_told bt (u s)) (h s) (same_both bt (t s) bt (u s) (same_itself bt) (same s))

  -- what is left to be added makes up the whole
  abbrev pub StillExtends : (Assignment Key Atom → Told) → (Assignment Key Atom → Told) → List (Part (List S)) → List (Part (List S)) → Type 0
  StillExtends left whole now before = (after : List (Part (List S))) → Extends rule now left after → Extends rule before whole after

  module _ {X : Type 0} (f : X → Assignment Key Atom → Told) (sum : List X → Assignment Key Atom → Told) (sum_none : (s : Assignment Key Atom) → SaysSame (sum [] s) nothing_told)
      (sum_more : (x : X) (xs : List X) (s : Assignment Key Atom) → SaysSame (both_told (f x s) (sum xs s)) (sum (x ∷ xs) s)) (xs : List X) (i : ℕ) where
    pub still_next : (x : X) → i < length xs → x ≡ get_or xs i x → (whole : Assignment Key Atom → Told) (now next before : List (Part (List S)))
        → StillExtends (sum (drop i xs)) whole now before → Extends rule now (f x) next → StillExtends (sum (drop (i + 1) xs)) whole next before
    still_next x within is whole now next before still h after k =
        let both = extends_both now next after (f x) (sum (drop (i + 1) xs)) h k in
        let more = extends_as now after (λ s. both_told (f x s) (sum (drop (i + 1) xs) s)) (sum (x ∷ drop (i + 1) xs)) (λ s. sum_more x (drop (i + 1) xs) s) both in
        still after (subst (λ ys. Extends rule now (sum ys) after) (sym (drop_more xs i x within ∙ ap (λ y. y ∷ drop (i + 1) xs) (sym is))) more)

    pub still_end : length xs ≤ i → (whole : Assignment Key Atom → Told) (now before : List (Part (List S))) → StillExtends (sum (drop i xs)) whole now before → Extends rule before whole now
    still_end past whole now before still =
        still now (subst (λ ys. Extends rule now (sum ys) now) (sym (dropped xs i past))
        (extends_as now now (λ s. nothing_told) (sum []) (λ s. same_turned (sum [] s) nothing_told (sum_none s)) (extends_none now)))

module _ {R : Type 0} (rank : R → ℕ) where
  pub reach_one : (most : ℕ) (before : List (Part R)) (part : Part R) → ReachAtMost rank most before → part_rank rank part ≤ most → ReachAtMost rank most (before ++ part ∷ [])
  reach_one most [] part h k = (k, tt)
  reach_one most (p ∷ ps) part h k = (h.0, reach_one most ps part h.1 k)

  pub reach_all_of : (most : ℕ) (before parts : List (Part R)) → ReachAtMost rank most before → ReachAtMost rank most parts → ReachAtMost rank most (before ++ parts)
  reach_all_of most [] parts h k = k
  reach_all_of most (p ∷ ps) parts h k = (h.0, reach_all_of most ps parts h.1 k)

  pub reach_up : (few most : ℕ) (parts : List (Part R)) → few ≤ most → ReachAtMost rank few parts → ReachAtMost rank most parts
  reach_up few most [] le h = tt
  reach_up few most (p ∷ ps) le h = (let here = h.0 in omega (arith, le, here), reach_up few most ps le h.1)

  reach_in : (most : ℕ) (parts : List (Part R)) (i : ℕ) (d : Part R) → ReachAtMost rank most parts → i < length parts → part_rank rank (get_or parts i d) ≤ most
  reach_in most [] i d h within = absurd (omega arith)
  reach_in most (p ∷ ps) zero d h within = h.0
  reach_in most (p ∷ ps) (suc i) d h within = reach_in most ps i d h.1 (omega arith)

  pub reach_at : (most : ℕ) (parts : List (Part R)) (i : ℕ) (x : Part R) → ReachAtMost rank most parts → i < length parts → x ≡ get_or parts i x → part_rank rank x ≤ most
  reach_at most parts i x h within is = subst (λ p. part_rank rank p ≤ most) (sym is) (reach_in most parts i x h within)

pub rank_append : {S : Type 0} (weight : S → ℕ) (row rest : List S) → chain_rank weight (row ++ rest) ≡ chain_rank weight row + chain_rank weight rest
rank_append weight [] rest = let e : 0 + chain_rank weight rest ≡ chain_rank weight rest = omega arith in sym e
rank_append weight (step ∷ row) rest =
    let more = rank_append weight row rest in
    let one : suc (weight step + chain_rank weight (row ++ rest)) ≡ suc (weight step + chain_rank weight row) + chain_rank weight rest = omega (arith, more) in
    one

pub on_ok : {T E : Type 0} (r : Result T E) (P Q : Type 0) → (P → Q) → OnOk r P → OnOk r Q
on_ok (Ok t) P Q f h = f h
on_ok (Err e) P Q f h = tt

-- the arms of the code
module _ {S : Type 0} (rule : S → Atom → Outcome Key Atom) (weight : S → ℕ) where
  next_told : List S → Assignment Key Atom → Atom → Told
  next_told rest s a = told (chain_rule rule rest a) s

  module _ {T E : Type 0} (r : Result T E) (before after : List (Part (List S))) where
    pub empty_says : (chain : List S) (m : Atom) (one : List Atom) → chain ≡ [] → one ≡ m ∷ [] → OnOk r (after ≡ before ++ Members one ∷ []) → OnOk r (Extends rule before (λ s. told (chain_rule rule chain m) s) after)
    empty_says chain m one none is =
        on_ok r (after ≡ before ++ Members one ∷ []) (Extends rule before (λ s. told (chain_rule rule chain m) s) after)
        (λ added. subst (λ c. Extends rule before (λ s. told (chain_rule rule c m) s) after) (sym none)
        (subst (λ ps. Extends rule before (λ s. told (chain_rule rule [] m) s) ps) (sym added)
        (subst (λ xs. Extends rule before (λ s. told (chain_rule rule [] m) s) (before ++ Members xs ∷ [])) (sym is)
        (extends_one rule before (Members (m ∷ [])) (λ s. told (chain_rule rule [] m) s) (λ s. same_itself (told (chain_rule rule [] m) s))))))

    pub added_says : (part : Part (List S)) (what : Assignment Key Atom → Told) → ((s : Assignment Key Atom) → SaysSame (part_told (chain_rule rule) part s) (what s)) → OnOk r (after ≡ before ++ part ∷ []) → OnOk r (Extends rule before what after)
    added_says part what h =
        on_ok r (after ≡ before ++ part ∷ []) (Extends rule before what after) (λ added. subst (λ ps. Extends rule before what ps) (sym added) (extends_one rule before part what h))

    pub added_reaches : (part : Part (List S)) (deep : ℕ) → part_rank (chain_rank weight) part ≤ deep → OnOk r (after ≡ before ++ part ∷ []) → OnOk r (Reaches weight deep before after)
    added_reaches part deep le =
        on_ok r (after ≡ before ++ part ∷ []) (Reaches weight deep before after)
        (λ added. subst (λ ps. Reaches weight deep before ps) (sym added) (λ most h k. reach_one (chain_rank weight) most before part h (omega (arith, le, k))))

    pub last_says : (chain : List S) (last : S) (m : Atom) (parts : List (Part (List S))) → chain ≡ last ∷ [] → ((s : Assignment Key Atom) → SaysSame (parts_told (chain_rule rule) parts s) (told (rule last m) s))
        → OnOk r (after ≡ before ++ parts) → OnOk r (Extends rule before (λ s. told (chain_rule rule chain m) s) after)
    last_says chain last m parts is says =
        on_ok r (after ≡ before ++ parts) (Extends rule before (λ s. told (chain_rule rule chain m) s) after)
        (λ added. subst (λ c. Extends rule before (λ s. told (chain_rule rule c m) s) after) (sym is)
        (subst (λ ps. Extends rule before (λ s. told (chain_rule rule (last ∷ []) m) s) ps) (sym added)
        (extends_all rule before parts (λ s. told (chain_rule rule (last ∷ []) m) s)
        (λ s. same_then (parts_told (chain_rule rule) parts s) (told (rule last m) s) (told (chain_rule rule (last ∷ []) m) s) (says s) (last_alone rule s last m)))))

    pub last_reaches : (chain : List S) (last : S) (parts : List (Part (List S))) → chain ≡ last ∷ [] → ReachAtMost (chain_rank weight) (suc (weight last)) parts
        → OnOk r (after ≡ before ++ parts) → OnOk r (Reaches weight (chain_rank weight chain) before after)
    last_reaches chain last parts is reach =
        on_ok r (after ≡ before ++ parts) (Reaches weight (chain_rank weight chain) before after)
        (λ added. subst (λ c. Reaches weight (chain_rank weight c) before after) (sym is)
        (subst (λ ps. Reaches weight (chain_rank weight (last ∷ [])) before ps) (sym added)
        (λ most h k. reach_all_of (chain_rank weight) most before parts h (reach_up (chain_rank weight) (suc (weight last)) most parts (omega (arith, k)) reach))))

    pub more_says : (chain rest : List S) (first : S) (m : Atom) (parts : List (Part (List S))) → chain ≡ first ∷ rest → ((s : Assignment Key Atom) → SaysSame (parts_told (chain_rule rule) parts s) (told (rule first m) s))
        → OnOk r (Extends rule before (λ s. told_of_each (parts_told (chain_rule rule) parts s) (λ a. told (chain_rule rule rest a) s)) after) → OnOk r (Extends rule before (λ s. told (chain_rule rule chain m) s) after)
    more_says chain rest first m parts is says =
        on_ok r (Extends rule before (λ s. told_of_each (parts_told (chain_rule rule) parts s) (λ a. told (chain_rule rule rest a) s)) after) (Extends rule before (λ s. told (chain_rule rule chain m) s) after)
        (λ h. subst (λ c. Extends rule before (λ s. told (chain_rule rule c m) s) after) (sym is)
        (extends_as rule before after (λ s. told_of_each (parts_told (chain_rule rule) parts s) (λ a. told (chain_rule rule rest a) s)) (λ s. told (chain_rule rule (first ∷ rest) m) s)
        (λ s. same_turned (told (chain_rule rule (first ∷ rest) m) s) (told_of_each (parts_told (chain_rule rule) parts s) (λ a. told (chain_rule rule rest a) s))
        (same_then (told (chain_rule rule (first ∷ rest) m) s) (told_of_each (told (rule first m) s) (λ a. told (chain_rule rule rest a) s)) (told_of_each (parts_told (chain_rule rule) parts s) (λ a. told (chain_rule rule rest a) s))
        (told_and_then (rule first m) (chain_rule rule rest) s)
        (each_left (told (rule first m) s) (parts_told (chain_rule rule) parts s) (λ a. told (chain_rule rule rest a) s) (same_turned (parts_told (chain_rule rule) parts s) (told (rule first m) s) (says s)))))
        h))

    pub more_reaches : (chain rest : List S) (first : S) (parts : List (Part (List S))) → chain ≡ first ∷ rest → ReachAtMost (chain_rank weight) (suc (weight first)) parts
        → OnOk r ((own : ℕ) → ReachAtMost (chain_rank weight) (suc own) parts → Reaches weight (suc (own + chain_rank weight rest)) before after) → OnOk r (Reaches weight (chain_rank weight chain) before after)
    more_reaches chain rest first parts is reach =
        on_ok r ((own : ℕ) → ReachAtMost (chain_rank weight) (suc own) parts → Reaches weight (suc (own + chain_rank weight rest)) before after) (Reaches weight (chain_rank weight chain) before after)
        (λ h. subst (λ c. Reaches weight (chain_rank weight c) before after) (sym is) (h (weight first) reach))

    pub members_say : (part : Part (List S)) (type members : List Atom) (rest : List S) → part ≡ Members type → members ≡ type → OnOk r (Extends rule before (λ s. all_told (map (λ a. told (chain_rule rule rest a) s) members)) after)
        → OnOk r (Extends rule before (λ s. told_of_each (part_told (chain_rule rule) part s) (λ a. told (chain_rule rule rest a) s)) after)
    members_say part type members rest is same =
        on_ok r (Extends rule before (λ s. all_told (map (λ a. told (chain_rule rule rest a) s) members)) after) (Extends rule before (λ s. told_of_each (part_told (chain_rule rule) part s) (λ a. told (chain_rule rule rest a) s)) after)
        (λ h. subst (λ p. Extends rule before (λ s. told_of_each (part_told (chain_rule rule) p s) (λ a. told (chain_rule rule rest a) s)) after) (sym is)
        (extends_as rule before after (λ s. all_told (map (λ a. told (chain_rule rule rest a) s) type)) (λ s. told_of_each (part_told (chain_rule rule) (Members type) s) (λ a. told (chain_rule rule rest a) s))
        (λ s. same_turned (told_of_each (part_told (chain_rule rule) (Members type) s) (λ a. told (chain_rule rule rest a) s)) (all_told (map (λ a. told (chain_rule rule rest a) s) type)) (members_on rule s type rest))
        (subst (λ ms. Extends rule before (λ s. all_told (map (λ a. told (chain_rule rule rest a) s) ms)) after) same h)))

    pub members_reach : (rest : List S) (own : ℕ) → Reaches weight (chain_rank weight rest) before after → Reaches weight (suc (own + chain_rank weight rest)) before after
    members_reach rest own h most k le = h most k (omega (arith, le))

  pub fault_says : (part : Part (List S)) (rest : List S) → part ≡ Fault → (s : Assignment Key Atom) → SaysSame (part_told (chain_rule rule) Fault s) (told_of_each (part_told (chain_rule rule) part s) (λ a. told (chain_rule rule rest a) s))
  fault_says part rest is s = subst (λ p. SaysSame (part_told (chain_rule rule) Fault s) (told_of_each (part_told (chain_rule rule) p s) (λ a. told (chain_rule rule rest a) s))) (sym is) (same_itself (part_told (chain_rule rule) Fault s))

  pub read_says : (part : Part (List S)) (k : Key) (row rest : List S) → part ≡ Read k → row ≡ rest → (s : Assignment Key Atom) → SaysSame (part_told (chain_rule rule) (Each k row) s) (told_of_each (part_told (chain_rule rule) part s) (λ a. told (chain_rule rule rest a) s))
  read_says part k row rest is same s =
      subst (λ p. SaysSame (part_told (chain_rule rule) (Each k row) s) (told_of_each (part_told (chain_rule rule) p s) (λ a. told (chain_rule rule rest a) s))) (sym is)
      (subst (λ c. SaysSame (part_told (chain_rule rule) (Each k c) s) (told_of_each (part_told (chain_rule rule) (Read k) s) (λ a. told (chain_rule rule rest a) s))) (sym same) (read_on rule s k rest))

  pub row_says : (part : Part (List S)) (k : Key) (row rest whole : List S) → part ≡ Each k row → whole ≡ row ++ rest → (s : Assignment Key Atom) → SaysSame (part_told (chain_rule rule) (Each k whole) s) (told_of_each (part_told (chain_rule rule) part s) (λ a. told (chain_rule rule rest a) s))
  row_says part k row rest whole is same s =
      subst (λ p. SaysSame (part_told (chain_rule rule) (Each k whole) s) (told_of_each (part_told (chain_rule rule) p s) (λ a. told (chain_rule rule rest a) s))) (sym is)
      (subst (λ c. SaysSame (part_told (chain_rule rule) (Each k c) s) (told_of_each (part_told (chain_rule rule) (Each k row) s) (λ a. told (chain_rule rule rest a) s))) (sym same) (row_on rule s k row rest))

  -- how deep the row of a part goes with the chain behind it
  pub row_reach : (part : Part (List S)) (k : Key) (row rest whole : List S) (own : ℕ) → part ≡ Each k row → whole ≡ row ++ rest → part_rank (chain_rank weight) part ≤ suc own → suc (chain_rank weight whole) ≤ suc (own + chain_rank weight rest)
  row_reach part k row rest whole own is same le =
      let here : suc (chain_rank weight row) ≤ suc own = subst (λ p. part_rank (chain_rank weight) p ≤ suc own) is le in
      let all : chain_rank weight whole ≡ chain_rank weight row + chain_rank weight rest = ap (chain_rank weight) same ∙ rank_append weight row rest in
      omega (arith, here, all)

  pub parts_next : (rest : List S) (parts : List (Part (List S))) (i : ℕ) (x : Part (List S)) → i < length parts → x ≡ get_or parts i x → (now next before : List (Part (List S)))
      → StillExtends rule (λ s. told_of_each (parts_told (chain_rule rule) (drop i parts) s) (λ a. told (chain_rule rule rest a) s)) (λ s. told_of_each (parts_told (chain_rule rule) parts s) (λ a. told (chain_rule rule rest a) s)) now before
      → Extends rule now (λ s. told_of_each (part_told (chain_rule rule) x s) (λ a. told (chain_rule rule rest a) s)) next
      → StillExtends rule (λ s. told_of_each (parts_told (chain_rule rule) (drop (i + 1) parts) s) (λ a. told (chain_rule rule rest a) s)) (λ s. told_of_each (parts_told (chain_rule rule) parts s) (λ a. told (chain_rule rule rest a) s)) next before
  parts_next rest parts i x within is now next before =
      still_next rule (λ p s. told_of_each (part_told (chain_rule rule) p s) (λ a. told (chain_rule rule rest a) s)) (λ ps s. told_of_each (parts_told (chain_rule rule) ps s) (λ a. told (chain_rule rule rest a) s))
      (λ s. same_itself nothing_told)
      (λ p ps s. same_turned (told_of_each (both_told (part_told (chain_rule rule) p s) (parts_told (chain_rule rule) ps s)) (λ a. told (chain_rule rule rest a) s)) (both_told (told_of_each (part_told (chain_rule rule) p s) (λ a. told (chain_rule rule rest a) s)) (told_of_each (parts_told (chain_rule rule) ps s) (λ a. told (chain_rule rule rest a) s)))
      (each_of_both (part_told (chain_rule rule) p s) (parts_told (chain_rule rule) ps s) (λ a. told (chain_rule rule rest a) s)))
      parts i x within is (λ s. told_of_each (parts_told (chain_rule rule) parts s) (λ a. told (chain_rule rule rest a) s)) now next before

  pub parts_end : (rest : List S) (parts : List (Part (List S))) (i : ℕ) → length parts ≤ i → (now before : List (Part (List S)))
      → StillExtends rule (λ s. told_of_each (parts_told (chain_rule rule) (drop i parts) s) (λ a. told (chain_rule rule rest a) s)) (λ s. told_of_each (parts_told (chain_rule rule) parts s) (λ a. told (chain_rule rule rest a) s)) now before
      → Extends rule before (λ s. told_of_each (parts_told (chain_rule rule) parts s) (λ a. told (chain_rule rule rest a) s)) now
  parts_end rest parts i past now before =
      still_end rule (λ p s. told_of_each (part_told (chain_rule rule) p s) (λ a. told (chain_rule rule rest a) s)) (λ ps s. told_of_each (parts_told (chain_rule rule) ps s) (λ a. told (chain_rule rule rest a) s))
      (λ s. same_itself nothing_told)
      (λ p ps s. same_turned (told_of_each (both_told (part_told (chain_rule rule) p s) (parts_told (chain_rule rule) ps s)) (λ a. told (chain_rule rule rest a) s)) (both_told (told_of_each (part_told (chain_rule rule) p s) (λ a. told (chain_rule rule rest a) s)) (told_of_each (parts_told (chain_rule rule) ps s) (λ a. told (chain_rule rule rest a) s)))
      (each_of_both (part_told (chain_rule rule) p s) (parts_told (chain_rule rule) ps s) (λ a. told (chain_rule rule rest a) s)))
      parts i past (λ s. told_of_each (parts_told (chain_rule rule) parts s) (λ a. told (chain_rule rule rest a) s)) now before

  pub members_next : (rest : List S) (xs : List Atom) (i : ℕ) (x : Atom) → i < length xs → x ≡ get_or xs i x → (now next before : List (Part (List S)))
      → StillExtends rule (λ s. all_told (map (λ a. told (chain_rule rule rest a) s) (drop i xs))) (λ s. all_told (map (λ a. told (chain_rule rule rest a) s) xs)) now before
      → Extends rule now (λ s. told (chain_rule rule rest x) s) next
      → StillExtends rule (λ s. all_told (map (λ a. told (chain_rule rule rest a) s) (drop (i + 1) xs))) (λ s. all_told (map (λ a. told (chain_rule rule rest a) s) xs)) next before
  members_next rest xs i x within is now next before =
      still_next rule (λ a s. told (chain_rule rule rest a) s) (λ ys s. all_told (map (λ a. told (chain_rule rule rest a) s) ys)) (λ s. same_itself nothing_told)
      (λ a ys s. same_itself (both_told (told (chain_rule rule rest a) s) (all_told (map (λ b. told (chain_rule rule rest b) s) ys))))
      xs i x within is (λ s. all_told (map (λ a. told (chain_rule rule rest a) s) xs)) now next before

  pub members_end : (rest : List S) (xs : List Atom) (i : ℕ) → length xs ≤ i → (now before : List (Part (List S)))
      → StillExtends rule (λ s. all_told (map (λ a. told (chain_rule rule rest a) s) (drop i xs))) (λ s. all_told (map (λ a. told (chain_rule rule rest a) s) xs)) now before
      → Extends rule before (λ s. all_told (map (λ a. told (chain_rule rule rest a) s) xs)) now
  members_end rest xs i past now before =
      still_end rule (λ a s. told (chain_rule rule rest a) s) (λ ys s. all_told (map (λ a. told (chain_rule rule rest a) s) ys)) (λ s. same_itself nothing_told)
      (λ a ys s. same_itself (both_told (told (chain_rule rule rest a) s) (all_told (map (λ b. told (chain_rule rule rest b) s) ys))))
      xs i past (λ s. all_told (map (λ a. told (chain_rule rule rest a) s) xs)) now before

pub empty_list : {X : Type 0} (xs : List X) → length xs < 1 → xs ≡ []
empty_list [] h = refl
empty_list (x ∷ xs) h = absurd (omega arith)

pub only_one : {X : Type 0} (xs : List X) (x : X) → 1 ≤ length xs → length xs < 2 → x ≡ get_or xs 0 x → xs ≡ x ∷ []
only_one [] x some few is = absurd (omega arith)
only_one (y ∷ []) x some few is = ap (λ z. z ∷ []) (sym is)
only_one (y ∷ z ∷ xs) x some few is = absurd (omega arith)

-- the slice behind the first element
pub first_rest : {X : Type 0} (xs : List X) (x : X) → 2 ≤ length xs → x ≡ get_or xs 0 x → xs ≡ x ∷ take (length xs - 1) (drop 1 xs)
first_rest [] x some is = absurd (omega arith)
first_rest (y ∷ xs) x some is = ap (λ z. z ∷ xs) (sym is) ∙ ap (λ zs. x ∷ zs) (sym (take_all (length (y ∷ xs) - 1) xs (omega arith)))

module _ {S : Type 0} (rule : S → Atom → Outcome Key Atom) (weight : S → ℕ) where
  pub parts_same : (one other : List (Part (List S))) (t : Told) (s : Assignment Key Atom) → one ≡ other → SaysSame (parts_told (chain_rule rule) other s) t → SaysSame (parts_told (chain_rule rule) one s) t
  parts_same one other t s is h = subst (λ ps. SaysSame (parts_told (chain_rule rule) ps s) t) (sym is) h

  pub for_each_own : {T E : Type 0} (r : Result T E) (before after : List (Part (List S))) (part : Part (List S)) (rest : List S)
      → ((own : ℕ) → part_rank (chain_rank weight) part ≤ suc (own + chain_rank weight rest)) → OnOk r (after ≡ before ++ part ∷ [])
      → OnOk r ((own : ℕ) → Reaches weight (suc (own + chain_rank weight rest)) before after)
  for_each_own r before after part rest le =
      on_ok r (after ≡ before ++ part ∷ []) ((own : ℕ) → Reaches weight (suc (own + chain_rank weight rest)) before after)
      (λ added own. subst (λ ps. Reaches weight (suc (own + chain_rank weight rest)) before ps) (sym added)
      (λ most h k. reach_one (chain_rank weight) most before part h (let here = le own in omega (arith, here, k))))

  pub for_some_own : {T E : Type 0} (r : Result T E) (before after : List (Part (List S))) (part : Part (List S)) (rest : List S) (P : ℕ → Type 0)
      → ((own : ℕ) → P own → part_rank (chain_rank weight) part ≤ suc (own + chain_rank weight rest)) → OnOk r (after ≡ before ++ part ∷ [])
      → OnOk r ((own : ℕ) → P own → Reaches weight (suc (own + chain_rank weight rest)) before after)
  for_some_own r before after part rest P le =
      on_ok r (after ≡ before ++ part ∷ []) ((own : ℕ) → P own → Reaches weight (suc (own + chain_rank weight rest)) before after)
      (λ added own held. subst (λ ps. Reaches weight (suc (own + chain_rank weight rest)) before ps) (sym added)
      (λ most h k. reach_one (chain_rank weight) most before part h (let here = le own held in omega (arith, here, k))))

pub reach_all : {S : Type 0} (weight : S → ℕ) (chain row : List S) (before after : List (Part (List S))) → before ≡ [] → chain ≡ row → Reaches weight (chain_rank weight chain) before after → ReachAtMost (chain_rank weight) (chain_rank weight row) after
reach_all weight chain row before after none same h =
    let here : Reaches weight (chain_rank weight row) before after = subst (λ c. Reaches weight (chain_rank weight c) before after) same h in
    let start : Reaches weight (chain_rank weight row) [] after = subst (λ ps. Reaches weight (chain_rank weight row) ps after) none here in
    start (chain_rank weight row) tt (omega arith)

-- what is added to nothing is all
pub says_all : {S : Type 0} (rule : S → Atom → Outcome Key Atom) (before after : List (Part (List S))) (what : Assignment Key Atom → Told) → before ≡ [] → Extends rule before what after
    → (s : Assignment Key Atom) → SaysSame (parts_told (chain_rule rule) after s) (what s)
says_all rule before after what none h = subst (λ ps. Extends rule ps what after) none h
