-- A table of rows that grows by the row of one more class.
use Rattle.std.proofs.Common.{◌≡◌, ◌==◌, ◌<◌, ◌≤◌, ◌+◌, ◌⊎◌, ℕ, Bool, true, false, cond, List, [], ◌∷◌, ◌++◌, length, map, refl, inl, inr, ⊎_elim, subst, sym, ap, ◌∙◌, arith}
use Rattle.std.proofs.Math.ListN.{get_or-eq_default}
use Rattle.std.proofs.lemmas.List.{get_or_append_left, get_or_push, length_push, map_push, append_assoc}
use Rattle.std.proofs.lemmas.List.Elements.{All-cons, All-nil, All-head, All-tail}
use Rattle.std.proofs.lemmas.Bool.{cases_Bool, cases_lt, eqb-true}
use Rattle.py_base.specs.declared.ids.ClassId.{ClassId}
use Rattle.class_rows.specs.declared.head.ClassHead.{ClassHead}
use Rattle.py_base.specs.declared.builtin.Builtin.TheVariants as class
use Rattle.py_base.specs.Builtins.{id_of, builtins}
use Rattle.class_rows.specs.Classes.{Class, builtin_class, classes, class_at, class_of, no_class}
use Rattle.class_rows.specs.Rows.{ClassRow, IsClass, IsOrder, IsRow, IsRows, row_at, no_row, order_of, merged_lists}
use Rattle.class_rows.specs.Table.{IsSound, IsTable}
use Rattle.class_rows.specs.Waits.{AreBelow, occurrences}
use Rattle.class_rows.proofs.Counting.{occurrences_cons}
use Rattle.class_rows.proofs.Merging.{below_more, lists_below}
use Rattle.class_rows.proofs.Orders.{merge_all, merge_once, below_lacks}

-- what may stand behind a new class in its order: classes of the table, each at most once
record IsRest (limit : ℕ) (rest : List ClassId) : Type 0 where
  below : AreBelow limit rest
  once : (n : ℕ) → occurrences n rest ≤ 1

bit_le : (b : Bool) → ◌≤◌ (cond b 1 0) 1
bit_le true = omega arith
bit_le false = omega arith

object_rest : (limit : ℕ) → 0 < limit → IsRest limit (id_of class.Object ∷ [])
object_rest limit some = record {
  below = All-cons (λ d. d.0 < limit) (id_of class.Object) [] some (All-nil (λ (d : ClassId). d.0 < limit));
  once = λ n. omega (arith, occurrences_cons n (id_of class.Object) [], bit_le (0 == n));
}

-- what an order of a new class has behind that class
order_rest : (rows : List ClassRow) (bases : List ClassId) (c : ClassId) (ordered : Bool) (order : List ClassId)
    → IsTable rows → AreBelow (length rows) bases → 0 < length rows → IsOrder (merged_lists (order_of rows) bases) bases c ordered order
    → (rest : List ClassId) × (order ≡ c ∷ rest) × IsRest (length rows) rest
order_rest rows bases c true order table below some h =
    let rest = h.1.0 in
    let merge = h.1.2 in (
      rest,
      h.1.1,
      record {
        below = merge_all (λ d. d.0 < length rows) rest (merged_lists (order_of rows) bases) merge (lists_below rows bases table below);
        once = λ n. merge_once n rest (merged_lists (order_of rows) bases) merge;
      },
    )
order_rest rows bases c false order table below some h = (id_of class.Object ∷ [], h.1, object_rest (length rows) some)

new_once : (limit : ℕ) (c : ClassId) (rest : List ClassId) (n : ℕ) → c.0 ≡ limit → IsRest limit rest → occurrences n (c ∷ rest) ≤ 1
new_once limit c rest n e h =
    let step = occurrences_cons n c rest in
    ⊎_elim
    (λ same.
    let one : ◌≡◌ {A = ℕ} (cond (c.0 == n) 1 0) 1 = ap (λ b. cond b 1 0) same in
    omega (arith, step, one, ap (λ k. occurrences k rest) (sym e ∙ eqb-true c.0 n same), below_lacks limit rest h.below))
    (λ other.
    let zero : ◌≡◌ {A = ℕ} (cond (c.0 == n) 1 0) 0 = ap (λ b. cond b 1 0) other in
    omega (arith, step, zero, h.once n))
    (cases_Bool (c.0 == n))

new_sound : (limit : ℕ) (c : ClassId) (rest : List ClassId) → c.0 ≡ limit → IsRest limit rest → IsSound (limit + 1) c (c ∷ rest)
new_sound limit c rest e h = record {
  first = refl;
  below = All-cons (λ d. d.0 < limit + 1) c rest (omega arith) (below_more limit (limit + 1) rest (omega arith) h.below);
  once = λ n. new_once limit c rest n e h;
}

sound_more : (limit : ℕ) (c : ClassId) (order : List ClassId) → IsSound limit c order → IsSound (limit + 1) c order
sound_more limit c order h = record { first = h.first; below = below_more limit (limit + 1) order (omega arith) h.below; once = h.once }

-- the row where a table ends
pub row_past : (rows : List ClassRow) (c : ClassId) → length rows ≤ c.0 → row_at rows c ≡ no_row
row_past rows c past = get_or-eq_default rows no_row past

pub order_past : (rows : List ClassRow) (c : ClassId) → (IsClass rows c → ⊥) → order_of rows c ≡ []
order_past rows c none = ⊎_elim (λ within. absurd (none within)) (λ past. ap (λ x. x.order) (row_past rows c past)) (cases_lt c.0 (length rows))

-- the row of a class that was there before
row_before : (rows : List ClassRow) (row : ClassRow) (c : ClassId) → IsClass rows c → row_at (rows ++ row ∷ []) c ≡ row_at rows c
row_before rows row c within = get_or_append_left rows (row ∷ []) no_row c.0 within

-- the row of the new class
row_new : (rows : List ClassRow) (row : ClassRow) (c : ClassId) → c.0 ≡ length rows → row_at (rows ++ row ∷ []) c ≡ row
row_new rows row c e = get_or_push rows row no_row c.0 (sym e)

split_class : (rows : List ClassRow) (row : ClassRow) (c : ClassId) → IsClass (rows ++ row ∷ []) c → (IsClass rows c) ⊎ (c.0 ≡ length rows)
split_class rows row c within =
    ⊎_elim (λ less. inl less) (λ more. inr (omega (arith, within, length_push rows row, more))) (cases_lt c.0 (length rows))

-- the table with one row more
pub table_more : (rows : List ClassRow) (row : ClassRow) (bases : List ClassId) → IsTable rows → AreBelow (length rows) bases → 0 < length rows
    → IsOrder (merged_lists (order_of rows) bases) bases (record { 0 = length rows }) row.ordered row.order → IsTable (rows ++ row ∷ [])
table_more rows row bases table below some h c within =
    let r = order_rest rows bases (record { 0 = length rows }) row.ordered row.order table below some h in
    let limit : ℕ → Type 0 = λ n. IsSound n c (order_of (rows ++ row ∷ []) c) in
    let P : List ClassId → Type 0 = λ order. IsSound (length rows + 1) c order in
    subst limit (sym (length_push rows row))
    (⊎_elim
    (λ before. subst P (sym (ap (λ x. x.order) (row_before rows row c before))) (sound_more (length rows) c (order_of rows c) (table c before)))
    (λ new.
    let same : order_of (rows ++ row ∷ []) c ≡ c ∷ r.0 = ap (λ x. x.order) (row_new rows row c new) ∙ r.1 ∙ ap (λ n. record { 0 = n } ∷ r.0) (sym new) in
    subst P (sym same) (new_sound (length rows) c r.0 new r.2))
    (split_class rows row c within))

-- the rows of the classes so far, and what a further class needs of them
pub record IsBuilt (heads : List ClassHead) (rows : List ClassRow) : Type 0 where
  pub right : IsRows heads rows
  pub table : IsTable rows
  pub inside : (c : ClassId) → IsClass rows c → AreBelow (length rows) (class_at (classes heads) c).bases

classes_push : (heads : List ClassHead) (head : ClassHead) → classes (heads ++ head ∷ []) ≡ classes heads ++ class_of head ∷ []
classes_push heads head =
    ap (λ cs. map builtin_class builtins ++ cs) (map_push class_of heads head) ∙ sym (append_assoc (map builtin_class builtins) (map class_of heads) (class_of head ∷ []))

class_before : (cs : List Class) (class : Class) (c : ClassId) → c.0 < length cs → class_at (cs ++ class ∷ []) c ≡ class_at cs c
class_before cs class c within = get_or_append_left cs (class ∷ []) no_class c.0 within

class_new : (cs : List Class) (class : Class) (c : ClassId) → c.0 ≡ length cs → class_at (cs ++ class ∷ []) c ≡ class
class_new cs class c e = get_or_push cs class no_class c.0 (sym e)

-- the orders of classes that were there before are as they were
orders_before : (rows : List ClassRow) (row : ClassRow) (bases : List ClassId) → AreBelow (length rows) bases → map (order_of rows) bases ≡ map (order_of (rows ++ row ∷ [])) bases
orders_before rows row [] below = refl
orders_before rows row (c ∷ bases) below =
    let here = ap (λ x. x.order) (row_before rows row c (All-head (λ (d : ClassId). d.0 < length rows) c bases below)) in
    let rest = orders_before rows row bases (All-tail (λ (d : ClassId). d.0 < length rows) c bases below) in
    ap (λ order. order ∷ map (order_of rows) bases) (sym here) ∙ ap (λ orders. order_of (rows ++ row ∷ []) c ∷ orders) rest

row_moved : (f g : ClassId → List ClassId) (c : ClassId) (class : Class) (row : ClassRow) → map f class.bases ≡ map g class.bases → IsRow f c class row → IsRow g c class row
row_moved f g c class row e h =
    let P : List (List ClassId) → Type 0 = λ orders. IsOrder (orders ++ class.bases ∷ []) class.bases c row.ordered row.order in
    record { order = subst P e h.order; unknown_base = h.unknown_base; keyword = h.keyword; members = h.members }

row_same : (f g : ClassId → List ClassId) (c : ClassId) (class class' : Class) (row row' : ClassRow) → class' ≡ class → row' ≡ row → map f class.bases ≡ map g class.bases → IsRow f c class row → IsRow g c class' row'
row_same f g c class class' row row' e e' m h =
    let P : Class → Type 0 = λ x. IsRow g c x row' in
    let Q : ClassRow → Type 0 = λ x. IsRow g c class x in
    subst P (sym e) (subst Q (sym e') (row_moved f g c class row m h))

-- the rows with that of one class more
pub built_more : (heads : List ClassHead) (head : ClassHead) (rows : List ClassRow) (row : ClassRow) → IsBuilt heads rows → 0 < length rows → AreBelow (length rows) (class_of head).bases
    → IsRow (order_of rows) (record { 0 = length rows }) (class_of head) row → IsBuilt (heads ++ head ∷ []) (rows ++ row ∷ [])
built_more heads head rows row built some below h = record {
  right = record {
    count = length_push rows row ∙ ap (λ n. n + 1) built.right.count ∙ sym (length_push (classes heads) (class_of head)) ∙ ap length (sym (classes_push heads head));
    each = λ c within.
        let all = ap (λ cs. class_at cs c) (classes_push heads head) in
        ⊎_elim
        (λ before. row_same (order_of rows) (order_of (rows ++ row ∷ [])) c (class_at (classes heads) c) (class_at (classes (heads ++ head ∷ [])) c) (row_at rows c) (row_at (rows ++ row ∷ []) c)
        (all ∙ class_before (classes heads) (class_of head) c (omega (arith, before, built.right.count))) (row_before rows row c before)
        (orders_before rows row (class_at (classes heads) c).bases (built.inside c before)) (built.right.each c before))
        (λ new.
        let P : ClassId → Type 0 = λ x. IsRow (order_of rows) x (class_of head) row in
        row_same (order_of rows) (order_of (rows ++ row ∷ [])) c (class_of head) (class_at (classes (heads ++ head ∷ [])) c) row (row_at (rows ++ row ∷ []) c)
        (all ∙ class_new (classes heads) (class_of head) c (new ∙ built.right.count)) (row_new rows row c new)
        (orders_before rows row (class_of head).bases below) (subst P (ap (λ n. record { 0 = n }) (sym new)) h))
        (split_class rows row c within);
  };
  table = table_more rows row (class_of head).bases built.table below some h.order;
  inside = λ c within.
      let all = ap (λ cs. (class_at cs c).bases) (classes_push heads head) in
      let P : List ClassId → Type 0 = AreBelow (length (rows ++ row ∷ [])) in
      let more : length rows ≤ length (rows ++ row ∷ []) = omega (arith, length_push rows row) in
      ⊎_elim
      (λ before. subst P (sym (all ∙ ap (λ x. x.bases) (class_before (classes heads) (class_of head) c (omega (arith, before, built.right.count))))) (below_more (length rows) (length (rows ++ row ∷ [])) _ more (built.inside c before)))
      (λ new. subst P (sym (all ∙ ap (λ x. x.bases) (class_new (classes heads) (class_of head) c (new ∙ built.right.count)))) (below_more (length rows) (length (rows ++ row ∷ [])) _ more below))
      (split_class rows row c within);
}
