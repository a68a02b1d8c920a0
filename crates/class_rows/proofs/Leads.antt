-- How the merge of lists and the merge of what is left of them belong together.
use Rattle.std.proofs.Common.{◌≡◌, ◌<◌, ◌≤◌, ◌==◌, ◌⊎◌, ℕ, Bool, true, List, [], ◌∷◌, ◌++◌, length, map, append_assoc, append-nil, refl, ⊎_elim, inl, inr, sym, subst, ap, ◌∙◌, arith}
use Rattle.std.specs.Prelude.{Some, None, slice_get, find, sum_by}
use Rattle.std.proofs.lemmas.List.Sums.{sum_by-cons}
use Rattle.std.proofs.lemmas.Bool.{cases_Bool, cond-true, cond-false}
use Rattle.std.proofs.lemmas.Bool.Decides.{nat_tests}
use Rattle.py_base.specs.declared.ids.ClassId.{ClassId}
use Rattle.class_rows.specs.Merge.{heads, pick, is_good, without, IsMerge, IsMergeBehind, HasMerge}

-- the orders of the lists are those that begin with what is done and go on with a merge of what is left
pub record Leads (lists left : List (List ClassId)) (done : List ClassId) : Type 0 where
  pub on : (rest : List ClassId) → IsMerge left rest → IsMerge lists (done ++ rest)
  pub back : (order : List ClassId) → IsMerge lists order → (rest : List ClassId) × (order ≡ done ++ rest) × IsMerge left rest

pub leads_start : (lists : List (List ClassId)) → Leads lists lists []
leads_start lists = record { on = λ rest m. m; back = λ order m. (order, refl, m) }

back_more : (left : List (List ClassId)) (done : List ClassId) (c : ClassId) (order rest : List ClassId) → pick left ≡ Some c → order ≡ done ++ rest → IsMerge left rest → (r : List ClassId) × (order ≡ (done ++ c ∷ []) ++ r) × IsMerge (map (without c) left) r
back_more left done c order [] e f m = absurd (let g : pick left ≡ None = ap (λ hs. find (is_good left) hs) m in cc)
back_more left done c order (d ∷ rest) e f m =
    let same : d ≡ c = let g = m.0 in cc in
    let P : ClassId → Type 0 = λ x. IsMerge (map (without x) left) rest in
    let joined : order ≡ done ++ (c ∷ rest) = f ∙ ap (λ x. done ++ (x ∷ rest)) same in
    (rest, joined ∙ sym (append_assoc done (c ∷ []) rest), subst P same m.1)

leads_on : (lists left : List (List ClassId)) (done : List ClassId) (c : ClassId) → pick left ≡ Some c → Leads lists left done → Leads lists (map (without c) left) (done ++ c ∷ [])
leads_on lists left done c e l = record {
  on = λ rest m. let P : List ClassId → Type 0 = IsMerge lists in subst P (sym (append_assoc done (c ∷ []) rest)) (l.on (c ∷ rest) (e, m));
  back = λ order m. let b = l.back order m in back_more left done c order b.0 e b.1 b.2;
}

-- one picked class more is done
pub leads_more : (lists left next : List (List ClassId)) (done order : List ClassId) (c : ClassId) → pick left ≡ Some c → next ≡ map (without c) left → order ≡ done ++ c ∷ [] → Leads lists left done → Leads lists next order
leads_more lists left next done order c e f g l =
    let P : List (List ClassId) → Type 0 = λ x. Leads lists x order in
    let Q : List ClassId → Type 0 = Leads lists (map (without c) left) in
    subst P (sym f) (subst Q (sym g) (leads_on lists left done c e l))

-- nothing is left: what is done merges the lists
pub leads_all : (lists left : List (List ClassId)) (done : List ClassId) → Leads lists left done → heads left ≡ [] → IsMerge lists done
leads_all lists left done l e = let P : List ClassId → Type 0 = IsMerge lists in subst P (append-nil done) (l.on [] e)

no_rest : (left : List (List ClassId)) (rest : List ClassId) → pick left ≡ None → (heads left ≡ [] → ⊥) → IsMerge left rest → ⊥
no_rest left [] e f m = f m
no_rest left (d ∷ rest) e f m = absurd (let g = m.0 in cc)

-- something is left and nothing can be picked: no order merges the lists
pub leads_nowhere : (lists left : List (List ClassId)) (done : List ClassId) → Leads lists left done → pick left ≡ None → (heads left ≡ [] → ⊥) → HasMerge lists → ⊥
leads_nowhere lists left done l e f m = let b = l.back m.0 m.1 in no_rest left b.0 e f b.2

-- the same of an order that begins with a class that is in none of the lists
abbrev pub Led : ClassId → List (List ClassId) → List (List ClassId) → List ClassId → Type 0
Led first lists left order = (done : List ClassId) × (order ≡ first ∷ done) × Leads lists left done

pub led_start : (first : ClassId) (lists left : List (List ClassId)) (order : List ClassId) → left ≡ lists → order ≡ first ∷ [] → Led first lists left order
led_start first lists left order same e = let P : List (List ClassId) → Type 0 = λ x. Leads lists x [] in ([], e, subst P (sym same) (leads_start lists))

pub led_more : (first : ClassId) (lists left next : List (List ClassId)) (order more : List ClassId) (c : ClassId) → pick left ≡ Some c → next ≡ map (without c) left → more ≡ order ++ c ∷ [] → Led first lists left order → Led first lists next more
led_more first lists left next order more c picked e f l =
    (l.0 ++ c ∷ [], f ∙ ap (λ o. o ++ c ∷ []) l.1, leads_more lists left next l.0 (l.0 ++ c ∷ []) c picked e refl l.2)

pub led_all : (first : ClassId) (lists left : List (List ClassId)) (order : List ClassId) → Led first lists left order → heads left ≡ [] → IsMergeBehind first lists order
led_all first lists left order l e = (l.0, l.1, leads_all lists left l.0 l.2 e)

pub led_nowhere : (first : ClassId) (lists left : List (List ClassId)) (order : List ClassId) → Led first lists left order → pick left ≡ None → (heads left ≡ [] → ⊥) → HasMerge lists → ⊥
led_nowhere first lists left order l = leads_nowhere lists left l.0 l.2

length_without : (c : ClassId) (list : List ClassId) → length (without c list) ≤ length list
length_without c [] = omega arith
length_without c (d ∷ list) = ⊎_elim (λ e. rw e (omega (arith, length_without c list))) (λ e. rw e (omega (arith, length_without c list))) (cases_Bool (d.0 == c.0))

-- how many classes are left in the lists
abbrev pub size : List (List ClassId) → ℕ
size lists = sum_by length lists

size_without : (c : ClassId) (lists : List (List ClassId)) → size (map (without c) lists) ≤ size lists
size_without c [] = omega arith
size_without c (list ∷ lists) =
    omega (arith, sum_by-cons (λ (l : List ClassId). length l) list lists, sum_by-cons (λ (l : List ClassId). length l) (without c list) (map (without c) lists), length_without c list, size_without c lists)

length_picked : (c : ClassId) (list : List ClassId) → slice_get list 0 ≡ Some c → length (without c list) < length list
length_picked c [] e = absurd (cc)
length_picked c (d ∷ list) e =
    let same : (d.0 == c.0) ≡ true = let f : d ≡ c = cc in (ap (λ x. x.0 == c.0) f) ∙ eqb_same c.0 in
    rw same (omega (arith, length_without c list))
  where
    eqb_same : (n : ℕ) → (n == n) ≡ true
    eqb_same n = grind (arith, nat_tests)

smaller : (c : ClassId) (list : List ClassId) (lists : List (List ClassId)) → ((length (without c list) < length list) ⊎ (size (map (without c) lists) < size lists)) → size (map (without c) (list ∷ lists)) < size (list ∷ lists)
smaller c list lists h =
    let one = sum_by-cons (λ (l : List ClassId). length l) list lists in
    let two = sum_by-cons (λ (l : List ClassId). length l) (without c list) (map (without c) lists) in
    let three = length_without c list in
    let four = size_without c lists in
    ⊎_elim (λ e. omega (arith, one, two, three, four, e)) (λ e. omega (arith, one, two, three, four, e)) h

found_shrinks : (p : ClassId → Bool) (c : ClassId) (lists : List (List ClassId)) → find p (heads lists) ≡ Some c → size (map (without c) lists) < size lists
found_shrinks p c [] e = absurd (cc)
found_shrinks p c ([] ∷ lists) e = smaller c [] lists (inr (found_shrinks p c lists e))
found_shrinks p c ((d ∷ list) ∷ lists) e =
    ⊎_elim
    (λ yes. smaller c (d ∷ list) lists (inl (length_picked c (d ∷ list) (sym (cond-true (p d) (Some d) (find p (heads lists)) yes) ∙ e))))
    (λ no. smaller c (d ∷ list) lists (inr (found_shrinks p c lists (sym (cond-false (p d) (Some d) (find p (heads lists)) no) ∙ e))))
    (cases_Bool (p d))

-- taking a picked class away leaves fewer
pub pick_shrinks : (c : ClassId) (lists next : List (List ClassId)) → pick lists ≡ Some c → next ≡ map (without c) lists → size next < size lists
pick_shrinks c lists next e f = let P : List (List ClassId) → Type 0 = λ x. size x < size lists in subst P (sym f) (found_shrinks (is_good lists) c lists e)
