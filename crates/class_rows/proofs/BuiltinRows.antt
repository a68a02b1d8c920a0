-- The rows of the builtin classes are right: a test that computes, and what it says.
use Rattle.std.proofs.Common.{◌≡◌, ◌==◌, ◌<◌, ◌≤◌, ℕ, Bool, true, false, not, ◌&&◌, zero, suc, cond, List, [], ◌∷◌, ◌++◌, map, drop, get_or, ltb, refl, ⊎_elim, sym, ap, ◌∙◌, arith}
use Rattle.std.specs.Prelude.{Option, Some, None, slice_get}
use Rattle.std.specs.List.{list_all}
use Rattle.std.proofs.lemmas.List.Sums.{AllPass-from_list_all}
use Rattle.std.proofs.lemmas.List.Elements.{All-weaker}
use Rattle.std.proofs.lemmas.Bool.{agree_below, agree_below_at, and_parts, eqb-true, ltb-true, not-true, cases_Bool, false≢true}
use Rattle.std.proofs.lemmas.Bool.Decides.{nat_tests}
use Rattle.py_base.specs.declared.ids.ClassId.{ClassId}
use Rattle.py_base.specs.declared.builtin.Builtin.{Builtin}
use Rattle.py_base.specs.declared.builtin.Builtin.TheVariants as class
use Rattle.py_base.specs.Builtins.{id_of, builtins}
use Rattle.class_rows.specs.Classes.{builtin_class, classes, class_at, no_class}
use Rattle.class_rows.specs.Merge.{has, heads, pick, without, IsMerge}
use Rattle.class_rows.specs.Orders.{builtin_row, builtin_rows}
use Rattle.class_rows.specs.Rows.{ClassRow, IsOrder, row_at, no_row, order_of, merged_lists, symbol_in}
use Rattle.class_rows.specs.Waits.{AreBelow, occurrences}
use Rattle.class_rows.proofs.Counting.{occurrences_cons, has_is}
use Rattle.class_rows.specs.declared.builtin_orders.TheConstants.{ORDERS}
use Rattle.class_rows.proofs.Growing.{IsBuilt}

abbrev is_nil : List ClassId → Bool
is_nil [] = true
is_nil (c ∷ list) = false

nil_is : (list : List ClassId) → is_nil list ≡ true → list ≡ []
nil_is [] e = refl
nil_is (c ∷ list) e = absurd (false≢true e)

abbrev is_some_of : ClassId → Option ClassId → Bool
is_some_of c None = false
is_some_of c (Some d) = d.0 == c.0

some_is : (c : ClassId) (o : Option ClassId) → is_some_of c o ≡ true → o ≡ Some c
some_is c None e = absurd (false≢true e)
some_is c (Some d) e = ap (λ n. Some (record { 0 = n })) (eqb-true d.0 c.0 e)

abbrev is_merge : List (List ClassId) → List ClassId → Bool
is_merge lists [] = is_nil (heads lists)
is_merge lists (c ∷ order) = is_some_of c (pick lists) && is_merge (map (without c) lists) order

merge_is : (lists : List (List ClassId)) (order : List ClassId) → is_merge lists order ≡ true → IsMerge lists order
merge_is lists [] e = nil_is (heads lists) e
merge_is lists (c ∷ order) e =
    let parts = and_parts (is_some_of c (pick lists)) (is_merge (map (without c) lists) order) e in
    (some_is c (pick lists) parts.0, merge_is (map (without c) lists) order parts.1)

abbrev is_distinct : List ClassId → Bool
is_distinct [] = true
is_distinct (c ∷ list) = not (has c list) && is_distinct list

distinct_once : (list : List ClassId) (n : ℕ) → is_distinct list ≡ true → occurrences n list ≤ 1
distinct_once [] n e = omega arith
distinct_once (c ∷ list) n e =
    let parts = and_parts (not (has c list)) (is_distinct list) e in
    let step = occurrences_cons n c list in
    let rest = distinct_once list n parts.1 in
    let lacks : has c list ≡ false = not-true (has c list) parts.0 in
    ⊎_elim
    (λ same.
    let one : ◌≡◌ {A = ℕ} (cond (c.0 == n) 1 0) 1 = ap (λ b. cond b 1 0) same in
    let none = absent (occurrences c.0 list) (has c list) (has_is c list) lacks in
    omega (arith, step, one, none, ap (λ k. occurrences k list) (eqb-true c.0 n same)))
    (λ other.
    let zero : ◌≡◌ {A = ℕ} (cond (c.0 == n) 1 0) 0 = ap (λ b. cond b 1 0) other in
    omega (arith, step, zero, rest))
    (cases_Bool (c.0 == n))
  where
    absent : (k : ℕ) (h : Bool) → h ≡ not (k == 0) → h ≡ false → k ≡ 0
    absent k h a b = grind (arith, nat_tests)

-- the rows of the builtin classes, and the classes themselves
abbrev pub rows : List ClassRow
rows = builtin_rows

abbrev pub order : ℕ → List ClassId
order n = order_of rows (record { 0 = n })

abbrev pub bases : ℕ → List ClassId
bases n = (class_at (classes []) (record { 0 = n })).bases

abbrev begins : ℕ → List ClassId → Bool
begins n [] = false
begins n (c ∷ list) = c.0 == n

-- what is to hold of the order of a builtin class, as a test
abbrev is_right : ℕ → Bool
is_right n =
    (row_at rows (record { 0 = n })).ordered && (begins n (order n) && (not (has (id_of class.Bool) (bases n)) && (is_merge (merged_lists (order_of rows) (bases n)) (drop 1 (order n))
    && (list_all (λ c. ltb c.0 53) (order n) && (is_distinct (order n) && list_all (λ c. ltb c.0 53) (bases n))))))

all_right : agree_below is_right (λ _. true) 53 ≡ true
all_right = refl

right_at : (n : ℕ) → n < 53 → is_right n ≡ true
right_at n below = agree_below_at is_right (λ _. true) 53 n all_right below

begins_is : (n : ℕ) (list : List ClassId) → begins n list ≡ true → list ≡ record { 0 = n } ∷ drop 1 list
begins_is n [] e = absurd (false≢true e)
begins_is n (c ∷ list) e = ap (λ m. record { 0 = m } ∷ list) (eqb-true c.0 n e)

below_is : (list : List ClassId) → list_all (λ c. ltb c.0 53) list ≡ true → AreBelow 53 list
below_is list e = All-weaker (λ (c : ClassId). ltb c.0 53 ≡ true) (λ c. c.0 < 53) (λ c h. ltb-true c.0 53 h) list (AllPass-from_list_all (λ (c : ClassId). ltb c.0 53) list e)

order_is : (lists : List (List ClassId)) (bs : List ClassId) (c : ClassId) (ordered : Bool) (list rest : List ClassId) → ordered ≡ true → has (id_of class.Bool) bs ≡ false → list ≡ c ∷ rest → IsMerge lists rest → IsOrder lists bs c ordered list
order_is lists bs c true list rest o e f m = (e, (rest, f, m))
order_is lists bs c false list rest o e f m = absurd (false≢true o)

-- a builtin class has no Unknown base and no members here
row_plain : {O : Type 0} (f : O → List Builtin) (os : List O) (n : ℕ)
    → ((get_or (map (λ o. builtin_row (f o)) os) n no_row).unknown_base ≡ false) × ((get_or (map (λ o. builtin_row (f o)) os) n no_row).keyword ≡ false) × ((get_or (map (λ o. builtin_row (f o)) os) n no_row).members ≡ [])
row_plain f [] n = (refl, refl, refl)
row_plain f (o ∷ os) zero = (refl, refl, refl)
row_plain f (o ∷ os) (suc n) = row_plain f os n

class_plain : (bs : List Builtin) (n : ℕ) → ((get_or (map builtin_class bs ++ []) n no_class).unknown_base ≡ false) × ((get_or (map builtin_class bs ++ []) n no_class).keyword ≡ false) × ((get_or (map builtin_class bs ++ []) n no_class).members ≡ [])
class_plain [] n = (refl, refl, refl)
class_plain (b ∷ bs) zero = (refl, refl, refl)
class_plain (b ∷ bs) (suc n) = class_plain bs n

-- what the test says at a builtin class
record IsRight (n : ℕ) : Type 0 where
  ordered : (row_at rows (record { 0 = n })).ordered ≡ true
  begins_with : order n ≡ record { 0 = n } ∷ drop 1 (order n)
  no_bool : has (id_of class.Bool) (bases n) ≡ false
  merge : IsMerge (merged_lists (order_of rows) (bases n)) (drop 1 (order n))
  within : AreBelow 53 (order n)
  distinct : is_distinct (order n) ≡ true
  inside : AreBelow 53 (bases n)

is_right_at : (n : ℕ) → n < 53 → IsRight n
is_right_at n below =
    let a = and_parts _ _ (right_at n below) in
    let b = and_parts _ _ a.1 in
    let c = and_parts _ _ b.1 in
    let d = and_parts _ _ c.1 in
    let e = and_parts _ _ d.1 in
    let f = and_parts _ _ e.1 in
    record {
      ordered = a.0;
      begins_with = begins_is n (order n) b.0;
      no_bool = not-true _ c.0;
      merge = merge_is _ _ d.0;
      within = below_is _ e.0;
      distinct = f.0;
      inside = below_is _ f.1;
    }

pub built_builtins : IsBuilt [] rows
built_builtins = record {
  right = record {
    count = refl;
    each = λ c below.
        let h = is_right_at c.0 below in
        let r = row_plain (λ order. order.now) ORDERS c.0 in
        let k = class_plain builtins c.0 in
        record {
          order = order_is (merged_lists (order_of rows) (bases c.0)) (bases c.0) c (row_at rows c).ordered (order c.0) (drop 1 (order c.0)) h.ordered h.no_bool h.begins_with h.merge;
          unknown_base = r.0 ∙ sym k.0;
          keyword = r.1 ∙ sym k.1;
          members = λ name. ap (symbol_in name) (r.2 ∙ sym k.2);
        };
  };
  table = λ c below.
      let h = is_right_at c.0 below in
      record { first = ap (λ list. slice_get list 0) h.begins_with; below = h.within; once = λ n. distinct_once (order c.0) n h.distinct };
  inside = λ c below. (is_right_at c.0 below).inside;
}
