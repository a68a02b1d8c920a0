-- The laws of tables of rows: what their orders keep, and that there is at most one.
use Rattle.std.proofs.Common.{◌≡◌, ◌<◌, ◌≤◌, ◌+◌, ◌-◌, ◌&&◌, ℕ, zero, suc, Bool, true, false, cond, List, [], ◌∷◌, ◌++◌, length, map, get_or, ltb, refl, inr, ⊎_elim, subst, sym, ap, ◌∙◌, arith}
use Rattle.std.specs.Prelude.{All}
use Rattle.std.specs.List.{list_all}
use Rattle.std.proofs.lemmas.List.{get_or-map, length-map, get_or-append_right, get_or_append_left, length-append}
use Rattle.std.proofs.lemmas.List.Elements.{All-head, All-tail}
use Rattle.std.proofs.lemmas.List.Sums.{AllPass-from_list_all}
use Rattle.std.proofs.lemmas.Bool.{agree_below, agree_below_at, and_parts, cases_lt, ltb-true, lt-ltb, le-ltb, cond-true, cond-false, false≢true}
use Rattle.py_base.specs.declared.ids.ClassId.{ClassId}
use Rattle.class_rows.specs.declared.head.ClassHead.{ClassHead}
use Rattle.py_base.specs.Builtins.{builtins}
use Rattle.class_rows.specs.Classes.{BasesAreEarlier, builtin_class, class_of, classes, class_at, known, no_class}
use Rattle.class_rows.specs.Rows.{ClassRow, IsClass, IsOrder, IsRows, row_at, order_of, merged_lists}
use Rattle.class_rows.specs.Laws.{IsPartOf, RowsKeep, AreAlike, OneTable}
use Rattle.class_rows.proofs.BuiltinRows.{bases, order}
use Rattle.class_rows.proofs.Keeping.{one_merge, merge_keeps}
use Rattle.class_rows.proofs.KnownBases.{or_object_below}

part_behind : (c : ClassId) (list order : List ClassId) → IsPartOf list order → IsPartOf list (c ∷ order)
part_behind c [] order p = tt
part_behind c (d ∷ list) order p = inr p

keeps_order : (lists : List (List ClassId)) (bs : List ClassId) (c : ClassId) (ordered : Bool) (list : List ClassId) → ordered ≡ true → IsOrder lists bs c ordered list → All (λ part. IsPartOf part list) lists
keeps_order lists bs c true list e h = λ k d within.
    let P : List ClassId → Type 0 = IsPartOf (get_or lists k d) in
    subst P (sym h.1.1) (part_behind c (get_or lists k d) h.1.0 (merge_keeps lists h.1.0 h.1.2 k d within))
keeps_order lists bs c false list e h = absurd (false≢true e)

pub rows_keep : RowsKeep
rows_keep heads rows c right within ordered =
    let class = class_at (classes heads) c in
    keeps_order (merged_lists (order_of rows) class.bases) class.bases c (row_at rows c).ordered (order_of rows c) ordered (right.each c within).order

-- bases give a class one order
one_order : (lists : List (List ClassId)) (bs : List ClassId) (c : ClassId) (x y : Bool) (l m : List ClassId) → IsOrder lists bs c x l → IsOrder lists bs c y m → (l ≡ m) × (x ≡ y)
one_order lists bs c true true l m g h =
    (g.1.1 ∙ ap (λ rest. c ∷ rest) (one_merge lists g.1.0 h.1.0 g.1.2 h.1.2) ∙ sym h.1.1, refl)
one_order lists bs c true false l m g h = absurd (h.0 (g.0, (g.1.0, g.1.2)))
one_order lists bs c false true l m g h = absurd (g.0 (h.0, (h.1.0, h.1.2)))
one_order lists bs c false false l m g h = (g.1 ∙ sym h.1, refl)

-- a number that the bases of each class have less of: the length of a builtin class's order, and more for each class of the file
abbrev rank : ℕ → ℕ
rank n = cond (ltb n 53) (length (order n)) (53 + n)

-- bases of builtin classes are builtin, with shorter orders
abbrev ranks_fall : ℕ → Bool
ranks_fall n = ltb (length (order n)) 53 && list_all (λ b. ltb b.0 53 && ltb (length (order b.0)) (length (order n))) (bases n)

all_fall : agree_below ranks_fall (λ _. true) 53 ≡ true
all_fall = refl

falls_at : (n : ℕ) → n < 53 → ranks_fall n ≡ true
falls_at n below = agree_below_at ranks_fall (λ _. true) 53 n all_fall below

rank_builtin : (n : ℕ) → n < 53 → rank n ≡ length (order n)
rank_builtin n below = cond-true (ltb n 53) (length (order n)) (53 + n) (lt-ltb n 53 below)

rank_file : (n : ℕ) → 53 ≤ n → rank n ≡ 53 + n
rank_file n above = cond-false (ltb n 53) (length (order n)) (53 + n) (le-ltb n 53 above)

order_short : (n : ℕ) → n < 53 → length (order n) < 53
order_short n below = ltb-true (length (order n)) 53 (and_parts _ _ (falls_at n below)).0

-- a rank below that of any later class of the file
rank_less : (m n : ℕ) → m < n → 53 ≤ n → rank m < rank n
rank_less m n less above =
    ⊎_elim
    (λ small. omega (arith, rank_builtin m small, order_short m small, rank_file n above))
    (λ large. omega (arith, rank_file m large, rank_file n above, less))
    (cases_lt m 53)

length_classes : (heads : List ClassHead) → length (classes heads) ≡ 53 + length heads
length_classes heads = length-append (map builtin_class builtins) (map class_of heads) ∙ ap (λ n. 53 + n) (length-map heads class_of)

-- a class of the table with a lower rank
abbrev IsLower : List ClassHead → ℕ → ClassId → Type 0
IsLower heads n b = (b.0 < length (classes heads)) × (rank b.0 < rank n)

builtin_bases : (heads : List ClassHead) (c : ClassId) → c.0 < 53 → (class_at (classes heads) c).bases ≡ bases c.0
builtin_bases heads c below =
    ap (λ x. x.bases) (get_or_append_left (map builtin_class builtins) (map class_of heads) no_class c.0 below ∙ sym (get_or_append_left (map builtin_class builtins) [] no_class c.0 below))

builtin_lower : (heads : List ClassHead) (c : ClassId) → c.0 < 53 → All (IsLower heads c.0) (class_at (classes heads) c).bases
builtin_lower heads c below =
    let P : List ClassId → Type 0 = All (IsLower heads c.0) in
    let test : ClassId → Bool = λ b. ltb b.0 53 && ltb (length (order b.0)) (length (order c.0)) in
    let passes = AllPass-from_list_all test (bases c.0) (and_parts _ _ (falls_at c.0 below)).1 in
    subst P (sym (builtin_bases heads c below)) (λ k d within. lower (get_or (bases c.0) k d) (passes k d within))
  where
    lower : (b : ClassId) → (ltb b.0 53 && ltb (length (order b.0)) (length (order c.0))) ≡ true → IsLower heads c.0 b
    lower b e =
        let parts = and_parts _ _ e in
        let small = ltb-true b.0 53 parts.0 in
        (omega (arith, small, length_classes heads), omega (arith, rank_builtin b.0 small, rank_builtin c.0 below, ltb-true (length (order b.0)) (length (order c.0)) parts.1))

no_head : ClassHead
no_head = record { name = record { 0 = 0 }; bases = []; keyword = false; members = [] }

file_lower : (heads : List ClassHead) (c : ClassId) → BasesAreEarlier heads → 53 ≤ c.0 → c.0 < length (classes heads) → All (IsLower heads c.0) (class_at (classes heads) c).bases
file_lower heads c earlier above within =
    let i = c.0 - 53 in
    let P : List ClassId → Type 0 = All (IsLower heads c.0) in
    let inside : i < length heads = omega (arith, above, within, length_classes heads) in
    let here = get_or-append_right (map builtin_class builtins) (map class_of heads) 53 c.0 no_class refl above ∙ get_or-map class_of heads i no_head no_class inside in
    let below = or_object_below (53 + i) (known (get_or heads i no_head).bases) (omega arith) (earlier i no_head inside) in
    subst P (sym (ap (λ x. x.bases) here)) (λ k d inner.
    let less = below k d inner in
    (omega (arith, less, above, within), rank_less (get_or (class_of (get_or heads i no_head)).bases k d).0 c.0 (omega (arith, less, above)) above))

lower_bases : (heads : List ClassHead) (c : ClassId) → BasesAreEarlier heads → c.0 < length (classes heads) → All (IsLower heads c.0) (class_at (classes heads) c).bases
lower_bases heads c earlier within =
    ⊎_elim (λ small. builtin_lower heads c small) (λ large. file_lower heads c earlier large within) (cases_lt c.0 53)

map_same : (f g : ClassId → List ClassId) (list : List ClassId) → All (λ c. f c ≡ g c) list → map f list ≡ map g list
map_same f g [] all = refl
map_same f g (c ∷ list) all =
    ap (λ x. x ∷ map f list) (All-head (λ (x : ClassId). f x ≡ g x) c list all)
    ∙ ap (λ xs. g c ∷ xs) (map_same f g list (All-tail (λ (x : ClassId). f x ≡ g x) c list all))

module _ (heads : List ClassHead) (a b : List ClassRow) (earlier : BasesAreEarlier heads) (first : IsRows heads a) (second : IsRows heads b) where
  in_second : (c : ClassId) → IsClass a c → IsClass b c
  in_second c within = omega (arith, within, first.count, second.count)

  orders_alike : (limit : ℕ) (c : ClassId) → rank c.0 < limit → IsClass a c → (order_of a c ≡ order_of b c) × ((row_at a c).ordered ≡ (row_at b c).ordered)
  orders_alike zero c less within = absurd (omega (arith, less))
  orders_alike (suc limit) c less within =
      let bs = (class_at (classes heads) c).bases in
      let lower = lower_bases heads c earlier (omega (arith, within, first.count)) in
      let each : All (λ x. order_of a x ≡ order_of b x) bs =
      λ k d inner. let low = lower k d inner in (orders_alike limit (get_or bs k d) (omega (arith, low.1, less)) (omega (arith, low.0, first.count))).0 in
      let P : List (List ClassId) → Type 0 = λ orders. IsOrder (orders ++ bs ∷ []) bs c (row_at a c).ordered (order_of a c) in
      let one = subst P (map_same (order_of a) (order_of b) bs each) (first.each c within).order in
      one_order (merged_lists (order_of b) bs) bs c (row_at a c).ordered (row_at b c).ordered (order_of a c) (order_of b c) one (second.each c (in_second c within)).order

  alike : (c : ClassId) → IsClass a c → AreAlike (row_at a c) (row_at b c)
  alike c within =
      let same = orders_alike (rank c.0 + 1) c (omega arith) within in
      let one = first.each c within in
      let two = second.each c (in_second c within) in
      record { order = same.0; ordered = same.1; unknown_base = one.unknown_base ∙ sym two.unknown_base; keyword = one.keyword ∙ sym two.keyword; members = λ name. one.members name ∙ sym (two.members name) }

pub one_table : OneTable
one_table heads a b earlier first second c within = alike heads a b earlier first second c within
