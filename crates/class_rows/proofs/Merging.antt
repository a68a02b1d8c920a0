-- On the lists that are merged for a class.
use Rattle.std.proofs.Common.{◌≡◌, ◌≤◌, ◌+◌, ◌==◌, ℕ, false, List, [], ◌∷◌, length, map, drop, get_or, length-drop, arith}
use Rattle.std.specs.Prelude.{All, Option, Some, None, Result, Ok, Err, IfOk, MatchOption}
use Rattle.std.proofs.lemmas.List.{length-map}
use Rattle.std.proofs.lemmas.List.Elements.{All-append, All-map, All-cons, All-nil}
use Rattle.std.proofs.lemmas.List.Sums.{sum_by-append, sum_by-le, sum_by-cons, count_by-le-length}
use Rattle.py_base.specs.declared.ids.ClassId.{ClassId}
use Rattle.py_base.specs.declared.stop.NoMemory.{NoMemory}
use Rattle.py_base.specs.declared.builtin.Builtin.TheVariants as class
use Rattle.py_base.specs.Builtins.{id_of}
use Rattle.class_rows.specs.Merge.{has, IsMergeBehind, HasMerge}
use Rattle.class_rows.specs.Rows.{ClassRow, order_of, merged_lists, HasOrder}
use Rattle.class_rows.specs.Table.{IsTable}
use Rattle.class_rows.specs.Waits.{AreBelow, occurrences, waiting}
use Rattle.class_rows.proofs.Counting.{occurrences_cons}

-- what lies below a number lies below a greater one
pub below_more : (m n : ℕ) (list : List ClassId) → m ≤ n → AreBelow m list → AreBelow n list
below_more m n list more below = λ k d within. omega (arith, below k d within)

pub all_below_more : (m n : ℕ) (lists : List (List ClassId)) → m ≤ n → All (AreBelow m) lists → All (AreBelow n) lists
all_below_more m n lists more below = λ k d within. below_more m n (get_or lists k d) more (below k d within)

-- the lists have classes of the table alone
pub lists_below : (rows : List ClassRow) (bases : List ClassId) → IsTable rows → AreBelow (length rows) bases → All (AreBelow (length rows)) (merged_lists (order_of rows) bases)
lists_below rows bases table below =
    All-append (AreBelow (length rows)) (map (order_of rows) bases) (bases ∷ [])
    (All-map (AreBelow (length rows)) (order_of rows) bases (λ k d within. (table (get_or bases k d) (below k d within)).below))
    (All-cons (AreBelow (length rows)) bases [] below (All-nil (AreBelow (length rows))))

tail_occurrences : (n : ℕ) (list : List ClassId) → occurrences n (drop 1 list) ≤ occurrences n list
tail_occurrences n [] = omega arith
tail_occurrences n (c ∷ list) = omega (arith, occurrences_cons n c list)

-- no class stands in their tails more often than there are bases, twice
pub lists_waits : (n : ℕ) (rows : List ClassRow) (bases : List ClassId) → IsTable rows → AreBelow (length rows) bases → waiting n (merged_lists (order_of rows) bases) ≤ length bases + length bases
lists_waits n rows bases table below =
    let in_tail : List ClassId → ℕ = λ list. occurrences n (drop 1 list) in
    let orders = map (order_of rows) bases in
    let at_most : ClassId → Type 0 = λ c. in_tail (order_of rows c) ≤ 1 in
    let each = All-map (λ list. in_tail list ≤ 1) (order_of rows) bases (λ k d within. let c = get_or bases k d in omega (arith, tail_occurrences n (order_of rows c), (table c (below k d within)).once n)) in
    omega (arith, sum_by-append in_tail orders (bases ∷ []), sum_by-le in_tail 1 orders each, length-map bases (order_of rows), sum_by-cons in_tail bases [], count_by_tail n bases)
  where
    count_by_tail : (n : ℕ) (list : List ClassId) → occurrences n (drop 1 list) ≤ length list
    count_by_tail n list = omega (arith, count_by-le-length (λ (c : ClassId). c.0 == n) (drop 1 list), length-drop 1 list)

-- what the merge of the lists says of the order of a class none of whose bases is `bool`
pub order_from_merge : (c : ClassId) (lists : List (List ClassId)) (bases : List ClassId) (r : Result (Option (List ClassId)) NoMemory) → has (id_of class.Bool) bases ≡ false
    → IfOk r (λ m. MatchOption m (HasMerge lists → ⊥) (IsMergeBehind c lists))
    → IfOk r (λ m. MatchOption m (HasOrder lists bases → ⊥) (λ order. (has (id_of class.Bool) bases ≡ false) × IsMergeBehind c lists order))
order_from_merge c lists bases (Ok (Some order)) e h = (e, h)
order_from_merge c lists bases (Ok None) e h = λ o. h o.1
order_from_merge c lists bases (Err x) e h = tt
