-- The places of a text and its offsets determine each other.
use Rattle.std.proofs.Common.{◌≡◌, ℕ, zero, suc, ◌+◌, ◌-◌, ◌<◌, ◌≤◌, List, [], ◌∷◌, length, take, get_or, sum, cond, ltb, true, false, refl, sym, ap, ◌∙◌, arith, Some, None, Bool, ◌&&◌, add-one, ⊎_elim, eqb}
use Rattle.std.proofs.lemmas.Bool.{lt-ltb, le-ltb, ltb-true, ltb-false, eq-eqb, ne_eqb, cond_both, cases_lt, and_right}
use Rattle.std.proofs.lemmas.List.Sums.{sum_by-cons, sum_by_more, sum_by_more_le}
use Rattle.std.proofs.lemmas.List.{take_all}
use Rattle.py_base.specs.declared.span.Place.{Place}
use Rattle.py_base.specs.Places.{place_of, offset_of, columns, one_line_down}

-- the place at this line and column
abbrev pub at : ℕ → ℕ → Place
at line col = record { line = line; col = col }

pub same_place : (a b c d : ℕ) → a ≡ b → c ≡ d → at a c ≡ at b d
same_place a b c d e f = λ i. at (e i) (f i)

-- the characters of the lines above, where there is one more of them
pub sum_above : (len line : ℕ) (lengths : List ℕ) → sum (take (suc line) (len ∷ lengths)) ≡ len + sum (take line lengths)
sum_above len line lengths = sum_by-cons (λ x. x) len (take line lengths)

-- the offset is in this line
pub record IsIn (lengths : List ℕ) (line offset : ℕ) : Type 0 where
  pub there : line < length lengths
  pub from : sum (take line lengths) ≤ offset
  pub to : line + 1 < length lengths → offset < sum (take line lengths) + get_or lengths line 0

in_below : (len next line offset : ℕ) (more : List ℕ) → IsIn (len ∷ next ∷ more) (suc line) offset → IsIn (next ∷ more) line (offset - len)
in_below len next line offset more h = record {
  there = omega (arith, h.there);
  from = omega (arith, h.from, sum_above len line (next ∷ more));
  to = λ k. omega (arith, h.to (omega arith), sum_above len line (next ∷ more));
}

-- an offset has the place of the line that it is in
pub place_of_in : (lengths : List ℕ) (line offset : ℕ) → IsIn lengths line offset → place_of lengths offset ≡ at line (offset - sum (take line lengths))
unfolding place_of
place_of_in [] line offset h = absurd (omega (arith, h.there))
place_of_in (len ∷ []) zero offset h = same_place _ _ _ _ refl (omega arith)
place_of_in (len ∷ []) (suc line) offset h = absurd (omega (arith, h.there))
place_of_in (len ∷ next ∷ more) zero offset h =
    let within : ltb offset len ≡ true = lt-ltb _ _ (omega (arith, h.to (omega arith))) in
    rw within (same_place _ _ _ _ refl (omega arith))
place_of_in (len ∷ next ∷ more) (suc line) offset h =
    let beyond : ltb offset len ≡ false = le-ltb _ _ (omega (arith, h.from, sum_above len line (next ∷ more))) in
    let below : place_of (next ∷ more) (offset - len) ≡ at line (offset - len - sum (take line (next ∷ more))) = place_of_in (next ∷ more) line (offset - len) (in_below len next line offset more h) in
    rw (beyond, below) (same_place _ _ _ _ (omega arith) (omega (arith, sum_above len line (next ∷ more))))

in_above : (len next line offset : ℕ) (more : List ℕ) → len ≤ offset → IsIn (next ∷ more) line (offset - len) → IsIn (len ∷ next ∷ more) (suc line) offset
in_above len next line offset more past h = record {
  there = omega (arith, h.there);
  from = omega (arith, h.from, sum_above len line (next ∷ more));
  to = λ k. omega (arith, h.to (omega arith), sum_above len line (next ∷ more));
}

-- each offset is in the line of its place, where there is a line
pub in_place_of : (len offset : ℕ) (lengths : List ℕ) → IsIn (len ∷ lengths) (place_of (len ∷ lengths) offset).line offset
unfolding place_of
in_place_of len offset [] = record { there = omega arith; from = omega arith; to = λ k. absurd (omega arith) }
in_place_of len offset (next ∷ more) =
    let line = (place_of (next ∷ more) (offset - len)).line in
    cond_both (ltb offset len) (at 0 offset) (one_line_down (place_of (next ∷ more) (offset - len)))
    (λ p. IsIn (len ∷ next ∷ more) p.line offset)
    (λ e. let within = ltb-true _ _ e in record { there = omega arith; from = omega arith; to = λ k. omega arith })
    (λ e. rw add-one (in_above len next line offset more (ltb-false _ _ e) (in_place_of next (offset - len) more)))

-- the lines up to the last are the whole text
pub sum_to_last : (lengths : List ℕ) (line : ℕ) → line + 1 ≡ length lengths → sum lengths ≡ sum (take line lengths) + get_or lengths line 0
sum_to_last lengths line e =
    ap sum (sym (take_all (line + 1) lengths (omega arith))) ∙ sum_by_more (λ x. x) lengths line 0 (omega arith)

pub columns_of_last : (lengths : List ℕ) (line : ℕ) → line + 1 ≡ length lengths → columns lengths line ≡ get_or lengths line 0 + 1
columns_of_last lengths line e = rw (eq-eqb _ _ e) refl

pub columns_above : (lengths : List ℕ) (line : ℕ) → line + 1 < length lengths → columns lengths line ≡ get_or lengths line 0
columns_above lengths line h = let other : eqb (line + 1) (length lengths) ≡ false = ne_eqb _ _ (λ e. omega arith) in rw other (omega arith)

-- the column of an offset is one of the columns of its line
column_there : (lengths : List ℕ) (line offset : ℕ) → IsIn lengths line offset → offset ≤ sum lengths → offset - sum (take line lengths) < columns lengths line
column_there lengths line offset h fits = ⊎_elim
    (λ inside. omega (arith, h.from, h.to inside, columns_above lengths line inside))
    (λ end. let e : line + 1 ≡ length lengths = omega (arith, h.there) in omega (arith, h.from, sum_to_last lengths line e, columns_of_last lengths line e))
    (cases_lt (line + 1) (length lengths))

pub offset_of_in : (lengths : List ℕ) (line offset : ℕ) → IsIn lengths line offset → offset ≤ sum lengths → offset_of lengths (at line (offset - sum (take line lengths))) ≡ Some offset
unfolding offset_of
offset_of_in lengths line offset h fits =
    let there = lt-ltb _ _ h.there in
    let column = lt-ltb _ _ (column_there lengths line offset h fits) in
    rw (there, column) (ap Some (omega (arith, h.from)))

pub offset_of_there : (lengths : List ℕ) (place : Place) → place.line < length lengths → place.col < columns lengths place.line → offset_of lengths place ≡ Some (sum (take place.line lengths) + place.col)
unfolding offset_of
offset_of_there lengths place there column =
    let line = lt-ltb _ _ there in
    let col = lt-ltb _ _ column in
    rw (line, col) refl

pub offset_of_beside : (lengths : List ℕ) (place : Place) → columns lengths place.line ≤ place.col → offset_of lengths place ≡ None
unfolding offset_of
offset_of_beside lengths place beside =
    let col = le-ltb _ _ beside in
    rw (col, and_right (ltb place.line (length lengths)) false refl) refl

pub offset_of_below : (lengths : List ℕ) (place : Place) → length lengths ≤ place.line → offset_of lengths place ≡ None
unfolding offset_of
offset_of_below lengths place below = let line = le-ltb _ _ below in rw line refl

-- a place that has an offset is that of a column of a line
pub record IsPlaceOf (lengths : List ℕ) (place : Place) (offset : ℕ) : Type 0 where
  pub inside : IsIn lengths place.line offset
  pub is : offset ≡ sum (take place.line lengths) + place.col
  pub within : offset ≤ sum lengths

-- what a test of two parts chose
some_when : (a b : Bool) (x y : ℕ) → cond (a && b) (Some x) None ≡ Some y → (a ≡ true) × (b ≡ true) × (y ≡ x)
some_when true true x y e = (refl, refl, cc)
some_when true false x y e = cc
some_when false b x y e = cc

pub place_has : (lengths : List ℕ) (place : Place) (offset : ℕ) → place.line < length lengths → place.col < columns lengths place.line → offset ≡ sum (take place.line lengths) + place.col → IsPlaceOf lengths place offset
place_has lengths place offset there column is = ⊎_elim
    (λ inside.
    let more = columns_above lengths place.line inside in
    record { inside = record { there = there; from = omega arith; to = λ k. omega arith }; is = is; within = omega (arith, sum_by_more_le (λ x. x) lengths place.line 0 there) })
    (λ end.
    let e : place.line + 1 ≡ length lengths = omega arith in
    let more = columns_of_last lengths place.line e in
    record { inside = record { there = there; from = omega arith; to = λ k. absurd (omega arith) }; is = is; within = omega (arith, sum_to_last lengths place.line e) })
    (cases_lt (place.line + 1) (length lengths))

pub offset_of_some : (lengths : List ℕ) (place : Place) (offset : ℕ) → offset_of lengths place ≡ Some offset → IsPlaceOf lengths place offset
unfolding offset_of
offset_of_some lengths place offset e =
    let h = some_when (ltb place.line (length lengths)) (ltb place.col (columns lengths place.line)) _ _ e in
    place_has lengths place offset (ltb-true _ _ h.0) (ltb-true _ _ h.1) h.2

-- the two laws
pub offset_of-place_of : (lengths : List ℕ) (offset : ℕ) → 0 < length lengths → offset ≤ sum lengths → offset_of lengths (place_of lengths offset) ≡ Some offset
offset_of-place_of [] offset some fits = absurd (omega arith)
offset_of-place_of (len ∷ more) offset some fits =
    let lengths = len ∷ more in
    let line = (place_of lengths offset).line in
    let h = in_place_of len offset more in
    rw (place_of_in lengths line offset h) (offset_of_in lengths line offset h fits)

pub place_of-offset_of : (lengths : List ℕ) (place : Place) (offset : ℕ) → offset_of lengths place ≡ Some offset → place_of lengths offset ≡ place
place_of-offset_of lengths place offset e =
    let h = offset_of_some lengths place offset e in
    place_of_in lengths place.line offset h.inside ∙ same_place _ _ _ _ refl (omega (arith, h.is))
