-- On heads, on the pick among them and on lists without a class.
use Rattle.std.proofs.Common.{◌≡◌, ◌==◌, ◌<◌, ℕ, Bool, true, false, not, List, [], ◌∷◌, ◌++◌, map, length, take, drop, get_or, ◌+◌, ◌-◌, refl, subst, ⊎_elim, sym, ap, ◌∙◌, arith}
use Rattle.std.specs.Prelude.{Some, None, slice_get, find, All}
use Rattle.std.specs.List.{list_any}
use Rattle.std.proofs.lemmas.List.{at_drop_more, length-map, length-take-le, get_or-append_right, get_or-drop}
use Rattle.std.proofs.lemmas.List.Elements.{All-map, All-filter}
use Rattle.std.proofs.lemmas.List.Recursion.{or_at}
use Rattle.std.proofs.lemmas.Bool.{or_parts, or_cases, cases_Bool, cond-true, cond-false, false≢true}
use Rattle.std.proofs.lemmas.Bool.Decides.{nat_tests}
use Rattle.py_base.specs.declared.ids.ClassId.{ClassId}
use Rattle.class_rows.specs.Merge.{has, heads, is_good, pick, without}
use Rattle.class_rows.specs.Waits.{AreBelow}

-- a list with a head is the head and what stands behind it
pub head_some : (c : ClassId) (list : List ClassId) → slice_get list 0 ≡ Some c → list ≡ c ∷ drop 1 list
head_some c [] e = cc
head_some c (d ∷ list) e = cc

pub head_none : (list : List ClassId) → slice_get list 0 ≡ None → list ≡ []
head_none [] e = refl
head_none (d ∷ list) e = cc

-- what is found from a list on, by its head
pub find_yes : (p : ClassId → Bool) (c : ClassId) (list : List ClassId) (lists : List (List ClassId)) → slice_get list 0 ≡ Some c → p c ≡ true → find p (heads (list ∷ lists)) ≡ Some c
find_yes p c list lists e t = rw (e, t) refl

pub find_no : (p : ClassId → Bool) (c : ClassId) (list : List ClassId) (lists : List (List ClassId)) → slice_get list 0 ≡ Some c → p c ≡ false → find p (heads (list ∷ lists)) ≡ find p (heads lists)
find_no p c list lists e t = rw (e, t) refl

pub find_past : (p : ClassId → Bool) (list : List ClassId) (lists : List (List ClassId)) → slice_get list 0 ≡ None → find p (heads (list ∷ lists)) ≡ find p (heads lists)
find_past p list lists e = rw e refl

-- a list that lacks a class stays as it is without it
pub without_lacking : (c : ClassId) (list : List ClassId) → has c list ≡ false → without c list ≡ list
without_lacking c [] e = refl
without_lacking c (d ∷ list) e =
    let parts = or_parts (d.0 == c.0) (has c list) e in
    rw parts.0 (ap (λ rest. d ∷ rest) (without_lacking c list parts.1))

-- a list that begins with a class and lacks it behind
pub without_head : (c : ClassId) (list : List ClassId) → has c list ≡ false → without c (c ∷ list) ≡ list
without_head c list e =
    let same : (c.0 == c.0) ≡ true = grind (arith, nat_tests) in
    rw same (without_lacking c list e)

pub without_other : (c d : ClassId) (list : List ClassId) → (d.0 == c.0) ≡ false → has c list ≡ false → without c (d ∷ list) ≡ d ∷ list
without_other c d list n e = rw n (ap (λ rest. d ∷ rest) (without_lacking c list e))

-- without a class that stands at most at its head, a list is its tail or itself
pub without_taken : (c : ClassId) (list : List ClassId) → has c (take 1 list) ≡ true → has c (drop 1 list) ≡ false → drop 1 list ≡ without c list
without_taken c [] e f = refl
without_taken c (d ∷ list) e f =
    ⊎_elim (λ same. rw same (sym (without_lacking c list f))) (λ no. absurd (false≢true no)) (or_cases (d.0 == c.0) false e)

pub without_kept : (c : ClassId) (list : List ClassId) → has c (take 1 list) ≡ false → has c (drop 1 list) ≡ false → list ≡ without c list
without_kept c [] e f = refl
without_kept c (d ∷ list) e f = sym (without_other c d list (or_parts (d.0 == c.0) false e).0 f)

pub next_list : (p : ClassId → Bool) (lists : List (List ClassId)) (i : ℕ) (list : List ClassId) → i < length lists → list ≡ get_or lists i list → find p (heads (drop i lists)) ≡ find p (heads (list ∷ drop (i + 1) lists))
next_list p lists i list within e =
    at_drop_more (λ ls. find p (heads ls)) lists i list within ∙ ap (λ l. find p (heads (l ∷ drop (i + 1) lists))) (sym e)

-- the head of a list in a row of lists that lie below a number
pub head_below : (n : ℕ) (lists : List (List ClassId)) (i : ℕ) (list : List ClassId) (c : ClassId) → All (AreBelow n) lists → i < length lists → list ≡ get_or lists i list → slice_get list 0 ≡ Some c → c.0 < n
head_below n lists i list c below within e first =
    let P : List ClassId → Type 0 = λ l. slice_get l 0 ≡ Some c → c.0 < n in
    subst P (sym e) (head_below_one (get_or lists i list) (below i list within)) first
  where
    head_below_one : (l : List ClassId) → AreBelow n l → slice_get l 0 ≡ Some c → c.0 < n
    head_below_one [] all f = absurd (cc)
    head_below_one (d ∷ l) all f = let P : ClassId → Type 0 = λ x. x.0 < n in subst P (cc) (all 0 d (omega arith))

-- a good class stands in no tail
pub good_tail : (lists : List (List ClassId)) (c : ClassId) (i : ℕ) (list : List ClassId) → is_good lists c ≡ true → i < length lists → has c (drop 1 (get_or lists i list)) ≡ false
good_tail lists c i list good within =
    let in_tail : List ClassId → Bool = λ l. has c (drop 1 l) in
    ⊎_elim (λ yes. absurd (false≢true (sym (not_true_false _ good) ∙ or_at (list_any in_tail) in_tail refl (λ _ _. refl) lists i list within yes))) (λ no. no) (cases_Bool (in_tail (get_or lists i list)))
  where
    not_true_false : (b : Bool) → not b ≡ true → b ≡ false
    not_true_false true e = sym e
    not_true_false false e = refl

-- a list that wasn't reached yet is as it was
pub untouched : (c : ClassId) (lists now : List (List ClassId)) (i : ℕ) (list : List ClassId) → i < length lists → now ≡ map (without c) (take i lists) ++ drop i lists → get_or now i list ≡ get_or lists i list
untouched c lists now i list within e =
    let P : List (List ClassId) → Type 0 = λ ls. get_or ls i list ≡ get_or lists i list in
    let done : length (map (without c) (take i lists)) ≡ i = length-map (take i lists) (without c) ∙ length-take-le i lists (omega arith) in
    let here : i + (i - i) ≡ i = omega arith in
    subst P (sym e) (get_or-append_right (map (without c) (take i lists)) (drop i lists) i i list done (omega arith) ∙ get_or-drop i lists (i - i) list ∙ ap (λ k. get_or lists k list) here)

-- what is found passes
pub found_passes : (p : ClassId → Bool) (list : List ClassId) (c : ClassId) → find p list ≡ Some c → p c ≡ true
found_passes p [] c e = absurd (cc)
found_passes p (d ∷ list) c e =
    ⊎_elim
    (λ yes. let same : d ≡ c = let f = sym (cond-true (p d) (Some d) (find p list) yes) ∙ e in cc in ap p (sym same) ∙ yes)
    (λ no. found_passes p list c (sym (cond-false (p d) (Some d) (find p list) no) ∙ e))
    (cases_Bool (p d))

-- a picked class is good
pub pick_good : (lists : List (List ClassId)) (c : ClassId) → pick lists ≡ Some c → is_good lists c ≡ true
pick_good lists c e = found_passes (is_good lists) (heads lists) c e

-- lists below a number stay below it without a class
pub below_without : (n : ℕ) (c : ClassId) (lists next : List (List ClassId)) → next ≡ map (without c) lists → All (AreBelow n) lists → All (AreBelow n) next
below_without n c lists next e below =
    let P : List (List ClassId) → Type 0 = All (AreBelow n) in
    subst P (sym e) (All-map (AreBelow n) (without c) lists (λ k d within. All-filter (λ x. not (x.0 == c.0)) (λ x. x.0 < n) (get_or lists k d) (below k d within)))
