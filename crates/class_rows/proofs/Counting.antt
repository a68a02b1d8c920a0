-- On how often a list has a class.
use Rattle.std.proofs.Common.{◌≡◌, ◌==◌, ◌<◌, ◌+◌, ◌≤◌, ℕ, Bool, true, false, cond, not, ◌||◌, List, [], ◌∷◌, length, take, drop, get_or, set, slice_index, refl, ap, ◌∙◌, arith}
use Rattle.std.specs.List.{list_any}
use Rattle.std.proofs.lemmas.List.Sums.{sum_by-cons, sum_by-set, sum_by_more_le}
use Rattle.std.proofs.lemmas.Bool.{ne_eqb}
use Rattle.std.proofs.lemmas.Bool.Decides.{nat_tests}
use Rattle.py_base.specs.declared.ids.ClassId.{ClassId}
use Rattle.class_rows.specs.Merge.{has, heads, is_good}
use Rattle.class_rows.specs.Waits.{occurrences, waiting, AreWaits}

-- what a class adds to the occurrences of a number
pub occurrences_cons : (n : ℕ) (c : ClassId) (list : List ClassId) → occurrences n (c ∷ list) ≡ cond (c.0 == n) 1 0 + occurrences n list
occurrences_cons n c list = sum_by-cons (λ (d : ClassId). cond (d.0 == n) 1 0) c list

same_counts : (n : ℕ) → ◌≡◌ {A = ℕ} (cond (n == n) 1 0) 1
same_counts n = grind (arith, nat_tests)

-- one class further on, what occurred so far stays within the whole
pub occurrences_more_le : (list : List ClassId) (i : ℕ) (d : ClassId) → i < length list → occurrences (get_or list i d).0 (take i list) + 1 ≤ occurrences (get_or list i d).0 list
occurrences_more_le list i d within =
    let n = (get_or list i d).0 in
    omega (arith, same_counts n, sum_by_more_le (λ (x : ClassId). cond (x.0 == n) 1 0) list i d within)

has_step : (b h : Bool) (k m : ℕ) → m ≡ cond b 1 0 + k → h ≡ not (k == 0) → (b || h) ≡ not (m == 0)
has_step true h k m e f = grind (arith, nat_tests)
has_step false h k m e f = grind (arith, nat_tests)

-- a list has a class where it occurs
pub has_is : (c : ClassId) (list : List ClassId) → has c list ≡ not (occurrences c.0 list == 0)
has_is c [] = refl
has_is c (d ∷ list) =
    has_step (d.0 == c.0) (has c list) (occurrences c.0 list) (occurrences c.0 (d ∷ list)) (occurrences_cons c.0 d list) (has_is c list)

good_step : (a r : Bool) (m k s : ℕ) → s ≡ m + k → a ≡ not (m == 0) → not r ≡ (k == 0) → not (a || r) ≡ (s == 0)
good_step true r m k s e f g = grind (arith, nat_tests)
good_step false r m k s e f g = grind (arith, nat_tests)

-- a class is good where it occurs in no tail
pub good_is : (c : ClassId) (lists : List (List ClassId)) → is_good lists c ≡ (waiting c.0 lists == 0)
good_is c [] = refl
good_is c (list ∷ lists) =
    good_step (has c (drop 1 list)) (list_any (λ l. has c (drop 1 l)) lists) (occurrences c.0 (drop 1 list)) (waiting c.0 lists) (waiting c.0 (list ∷ lists)) (sum_by-cons (λ (l : List ClassId). occurrences c.0 (drop 1 l)) list lists) (has_is c (drop 1 list)) (good_is c lists)

pub good_from_zero : (c : ClassId) (lists : List (List ClassId)) → waiting c.0 lists ≡ 0 → is_good lists c ≡ true
good_from_zero c lists e = good_is c lists ∙ ap (λ k. k == 0) e

pub bad_from_more : (c : ClassId) (lists : List (List ClassId)) → (waiting c.0 lists ≡ 0 → ⊥) → is_good lists c ≡ false
bad_from_more c lists e = good_is c lists ∙ ne_eqb (waiting c.0 lists) 0 e

-- what was counted so far, and the tail of one more list, are within the whole
pub waiting_more_le : (n : ℕ) (lists : List (List ClassId)) (i : ℕ) (list tail : List ClassId) → i < length lists → list ≡ get_or lists i list → tail ≡ drop 1 list → waiting n (take i lists) + occurrences n tail ≤ waiting n lists
waiting_more_le n lists i list tail within e f =
    let step = sum_by_more_le (λ (l : List ClassId). occurrences n (drop 1 l)) lists i list within in
    omega (arith, step, ap (λ l. occurrences n l) f, ap (λ l. occurrences n (drop 1 l)) e)

-- one list changed: the table keeps step with it
pub waits_set : (waits now : List ℕ) (lists : List (List ClassId)) (i : ℕ) (list old : List ClassId) → i < length lists → length now ≡ length waits
    → ((n : ℕ) → n < length waits → slice_index now n + occurrences n (drop 1 (get_or lists i old)) ≡ slice_index waits n + occurrences n (drop 1 list))
    → AreWaits waits lists → AreWaits now (set lists i list)
waits_set waits now lists i list old within same change right n below =
    let step = sum_by-set (λ (l : List ClassId). occurrences n (drop 1 l)) lists i list old within in
    omega (arith, step, change n (omega arith), right n (omega arith))

-- nothing waits where nothing is left
pub waiting_exhausted : (n : ℕ) (lists : List (List ClassId)) → heads lists ≡ [] → waiting n lists ≡ 0
waiting_exhausted n [] e = refl
waiting_exhausted n ([] ∷ lists) e =
    omega (arith, sum_by-cons (λ (l : List ClassId). occurrences n (drop 1 l)) [] lists, waiting_exhausted n lists e)
waiting_exhausted n ((c ∷ list) ∷ lists) e = absurd (cc)
