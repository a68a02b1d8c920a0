-- What the table of the lines' first offsets says of their lengths, and that the loop makes that table.
use Rattle.std.proofs.Common.{◌≡◌, ℕ, zero, suc, ◌+◌, ◌-◌, ◌<◌, ◌≤◌, List, [], ◌∷◌, length, map, take, get_or, sum, true, false, refl, sym, ap, ◌∙◌, arith, add-one, ⊎_elim, Some, None}
use Rattle.std.proofs.lemmas.Bool.{cases_lt}
use Rattle.std.proofs.lemmas.List.{length-map, get_or_default, get_or_read}
use Rattle.std.proofs.lemmas.List.Sorted.{IsNonDecreasingBy-from_all_adjacent}
use Rattle.std.specs.List.Sorted.{IsPartitionPoint, IsNonDecreasing}
use Rattle.py_base.specs.declared.span.Place.{Place}
use Rattle.py_base.specs.Places.{place_of, offset_of, columns}
use Rattle.py_base.proofs.PlaceLaws.{at, same_place, IsIn, place_of_in, columns_above, columns_of_last, offset_of_there, offset_of_below, place_has}
use Rattle.std.proofs.lemmas.List.Sums.{sum_by-cons}
use Rattle.py_base.specs.Lines.{physical_lines, ends_line, with_character}
use Rattle.py_base.specs.LineStarts.{lengths_between, RiseTo, AreStarts}
use Rattle.py_base.proofs.LineLaws.{some_line, few_lines, sum-lengths}

-- ---- what a table says

pub length-lengths_between : (starts : List ℕ) (count : ℕ) → length (lengths_between starts count) ≡ length starts
length-lengths_between [] count = refl
length-lengths_between (start ∷ []) count = refl
length-lengths_between (start ∷ next ∷ more) count = ap suc (length-lengths_between (next ∷ more) count)

-- a line begins behind the characters of the lines above it
pub start_of : (starts : List ℕ) (count line : ℕ) → RiseTo starts count → line < length starts → get_or starts 0 0 + sum (take line (lengths_between starts count)) ≡ get_or starts line 0
start_of [] count line h there = absurd (omega arith)
start_of (start ∷ []) count zero h there = omega arith
start_of (start ∷ []) count (suc line) h there = absurd (omega arith)
start_of (start ∷ next ∷ more) count zero h there = omega arith
start_of (start ∷ next ∷ more) count (suc line) h there =
    omega (arith, start_of (next ∷ more) count line h.1 (omega arith), sum_by-cons (λ x. x) (next - start) (take line (lengths_between (next ∷ more) count)))

-- the lines have all characters of the text
pub all_between : (starts : List ℕ) (count : ℕ) → RiseTo starts count → 0 < length starts → get_or starts 0 0 + sum (lengths_between starts count) ≡ count
all_between [] count h some = absurd (omega arith)
all_between (start ∷ []) count h some = omega arith
all_between (start ∷ next ∷ more) count h some =
    omega (arith, all_between (next ∷ more) count h.1 (omega arith), sum_by-cons (λ x. x) (next - start) (lengths_between (next ∷ more) count))

-- a line ends where the next one begins
pub end_above : (starts : List ℕ) (count line : ℕ) → RiseTo starts count → line + 1 < length starts → get_or starts line 0 + get_or (lengths_between starts count) line 0 ≡ get_or starts (line + 1) 0
end_above [] count line h there = absurd (omega arith)
end_above (start ∷ []) count line h there = absurd (omega arith)
end_above (start ∷ next ∷ more) count zero h there = omega arith
end_above (start ∷ next ∷ more) count (suc line) h there = rw add-one (rw add-one at (end_above (next ∷ more) count line h.1 (omega arith)))

-- the last line ends where the text does
pub end_of_last : (starts : List ℕ) (count line : ℕ) → RiseTo starts count → line + 1 ≡ length starts → get_or starts line 0 + get_or (lengths_between starts count) line 0 ≡ count
end_of_last [] count line h last = absurd (omega arith)
end_of_last (start ∷ []) count zero h last = omega arith
end_of_last (start ∷ []) count (suc line) h last = absurd (omega arith)
end_of_last (start ∷ next ∷ more) count zero h last = absurd (omega arith)
end_of_last (start ∷ next ∷ more) count (suc line) h last = end_of_last (next ∷ more) count line h.1 (omega arith)

pub start_in_text : (starts : List ℕ) (count line : ℕ) → RiseTo starts count → line < length starts → get_or starts line 0 ≤ count
start_in_text [] count line h there = absurd (omega arith)
start_in_text (start ∷ []) count zero h there = h
start_in_text (start ∷ []) count (suc line) h there = absurd (omega arith)
start_in_text (start ∷ next ∷ more) count zero h there = omega (arith, start_in_text (next ∷ more) count 0 h.1 (omega arith))
start_in_text (start ∷ next ∷ more) count (suc line) h there = start_in_text (next ∷ more) count line h.1 (omega arith)

-- the starts do not fall
pub starts_rise : (starts : List ℕ) (count : ℕ) → RiseTo starts count → IsNonDecreasing starts
starts_rise starts count h = IsNonDecreasingBy-from_all_adjacent (λ x. x) starts (λ k d below.
    rw (get_or_default starts k d 0 (omega arith), get_or_default starts (k + 1) d 0 below) (omega (arith, end_above starts count k h below)))

-- the first characters of a table's line
pub sum_above_start : (starts : List ℕ) (count line : ℕ) → AreStarts starts count → line < length starts → sum (take line (lengths_between starts count)) ≡ get_or starts line 0
sum_above_start starts count line h there = omega (arith, start_of starts count line h.rise there, h.first)

pub count_of_table : (starts : List ℕ) (count : ℕ) → AreStarts starts count → sum (lengths_between starts count) ≡ count
count_of_table starts count h = omega (arith, all_between starts count h.rise h.some, h.first)

-- ---- what the functions read from a table of these lengths

pub record IsTableOf (lengths starts : List ℕ) (count : ℕ) : Type 0 where
  pub table : AreStarts starts count
  pub view : lengths_between starts count ≡ lengths

-- from what a call of `as_slice` gives of the fields
pub table_read : (lengths items starts : List ℕ) (count : ℕ) → starts ≡ items → AreStarts items count → lengths_between items count ≡ lengths → IsTableOf lengths starts count
table_read lengths items starts count same table view = rw same (record { table = table; view = view })

pub line_there : (lengths starts : List ℕ) (count line : ℕ) → IsTableOf lengths starts count → line < length lengths → line < length starts
line_there lengths starts count line t there = omega (arith, length-lengths_between starts count, ap length t.view)

pub some_length : (lengths starts : List ℕ) (count : ℕ) → IsTableOf lengths starts count → 0 < length lengths
some_length lengths starts count t = omega (arith, length-lengths_between starts count, ap length t.view, t.table.some)

pub line_in_lengths : (lengths starts : List ℕ) (count line : ℕ) → IsTableOf lengths starts count → line < length starts → line < length lengths
line_in_lengths lengths starts count line t there = omega (arith, length-lengths_between starts count, ap length t.view)

-- the line that a search for an offset finds
pub record IsFound (lengths starts : List ℕ) (offset point : ℕ) : Type 0 where
  pub some : 0 < point
  pub before : get_or starts (point - 1) 0 ≤ offset
  pub place : place_of lengths offset ≡ at (point - 1) (offset - get_or starts (point - 1) 0)

found_in : (starts : List ℕ) (count offset point : ℕ) → AreStarts starts count → point ≤ length starts → 0 < point → get_or starts (point - 1) 0 ≤ offset → (point < length starts → offset < get_or starts point 0) → IsIn (lengths_between starts count) (point - 1) offset
found_in starts count offset point h within some before after =
    let above = sum_above_start starts count (point - 1) h (omega arith) in
    record {
      there = omega (arith, length-lengths_between starts count);
      from = omega arith;
      to = λ k. let more : point < length starts = omega (arith, length-lengths_between starts count) in
          let e : point - 1 + 1 ≡ point = omega arith in
          omega (arith, rw e at (end_above starts count (point - 1) h.rise (omega arith)), after more);
    }

found : (starts : List ℕ) (count offset point : ℕ) → AreStarts starts count → point ≤ length starts → IsPartitionPoint (λ y. y ≤ offset) (λ y. offset < y) starts point → IsFound (lengths_between starts count) starts offset point
found starts count offset point h within parts =
    let some : 0 < point = ⊎_elim (λ some. some) (λ none. absurd (omega (arith, parts.1 0 0 none h.some, h.first))) (cases_lt 0 point) in
    let before : get_or starts (point - 1) 0 ≤ offset = parts.0 (point - 1) 0 (omega arith) (omega arith) in
    let inside = found_in starts count offset point h within some before (λ more. parts.1 point 0 (omega arith) more) in
    record {
      some = some;
      before = before;
      place = place_of_in (lengths_between starts count) (point - 1) offset inside ∙ same_place _ _ _ _ refl (omega (arith, sum_above_start starts count (point - 1) h (omega arith)));
    }

pub line_found : (lengths starts : List ℕ) (count offset point : ℕ) → IsTableOf lengths starts count → point ≤ length starts → IsPartitionPoint (λ y. y ≤ offset) (λ y. offset < y) starts point → IsFound lengths starts offset point
line_found lengths starts count offset point t within parts = rw (← t.view) (found starts count offset point t.table within parts)

-- the columns of a line, by where it ends: at the next one, or behind the end of the text
pub columns_to_next : (lengths starts : List ℕ) (count line next : ℕ) → IsTableOf lengths starts count → line + 1 < length starts → next ≡ get_or starts (line + 1) next → (get_or starts line 0 ≤ next) × (next - get_or starts line 0 ≡ columns lengths line)
columns_to_next lengths starts count line next t more read =
    let is : next ≡ get_or starts (line + 1) 0 = get_or_read starts (line + 1) next more read 0 in
    let end = end_above starts count line t.table.rise more in
    let above = columns_above (lengths_between starts count) line (omega (arith, length-lengths_between starts count)) in
    (omega arith, rw (← t.view) (omega arith))

pub columns_to_end : (lengths starts : List ℕ) (count line : ℕ) → IsTableOf lengths starts count → line < length starts → length starts ≤ line + 1 → (get_or starts line 0 ≤ count + 1) × (count + 1 - get_or starts line 0 ≡ columns lengths line)
columns_to_end lengths starts count line t there last =
    let end = end_of_last starts count line t.table.rise (omega arith) in
    let of_last = columns_of_last (lengths_between starts count) line (omega (arith, length-lengths_between starts count)) in
    (omega arith, rw (← t.view) (omega arith))

-- what a look-up of a place finds
pub record HasOffset (lengths : List ℕ) (place : Place) (count offset : ℕ) : Type 0 where
  pub within : offset ≤ count
  pub is : offset_of lengths place ≡ Some offset

pub offset_found : (lengths starts : List ℕ) (count start : ℕ) (place : Place) → IsTableOf lengths starts count → place.line < length starts → start ≡ get_or starts place.line start → place.col < columns lengths place.line → HasOffset lengths place count (start + place.col)
offset_found lengths starts count start place t there read column =
    let is : start ≡ get_or starts place.line 0 = get_or_read starts place.line start there read 0 in
    let above : sum (take place.line lengths) ≡ start = rw (← t.view) (sum_above_start starts count place.line t.table there ∙ sym is) in
    let line : place.line < length lengths = omega (arith, length-lengths_between starts count, ap length t.view) in
    let h = place_has lengths place (start + place.col) line column (omega arith) in
    record {
      within = omega (arith, h.within, count_of_table starts count t.table, ap sum t.view);
      is = offset_of_there lengths place line column ∙ ap Some (omega arith);
    }

pub offset_below : (lengths starts : List ℕ) (count : ℕ) (place : Place) → IsTableOf lengths starts count → length starts ≤ place.line → offset_of lengths place ≡ None
offset_below lengths starts count place t below = offset_of_below lengths place (omega (arith, length-lengths_between starts count, ap length t.view))

-- ---- the table of a text

-- where the lines behind the first begin, in lines of these lengths, the first of which begins at n
abbrev pub next_starts : ℕ → List ℕ → List ℕ
next_starts n [] = []
next_starts n (len ∷ []) = []
next_starts n (len ∷ next ∷ more) = (n + len) ∷ next_starts (n + len) (next ∷ more)

pub lengths_between-next_starts : (n count : ℕ) (lengths : List ℕ) → 0 < length lengths → n + sum lengths ≡ count → lengths_between (n ∷ next_starts n lengths) count ≡ lengths
lengths_between-next_starts n count [] some is = absurd (omega arith)
lengths_between-next_starts n count (len ∷ []) some is = ap (λ x. x ∷ []) (omega arith)
lengths_between-next_starts n count (len ∷ next ∷ more) some is =
    let head : n + len - n ≡ len = omega arith in
    rw (head, lengths_between-next_starts (n + len) count (next ∷ more) (omega arith) (omega (arith, sum_by-cons (λ x. x) len (next ∷ more)))) refl

pub RiseTo-next_starts : (n count : ℕ) (lengths : List ℕ) → n + sum lengths ≡ count → RiseTo (n ∷ next_starts n lengths) count
RiseTo-next_starts n count [] is = omega arith
RiseTo-next_starts n count (len ∷ []) is = omega arith
RiseTo-next_starts n count (len ∷ next ∷ more) is =
    (omega arith, RiseTo-next_starts (n + len) count (next ∷ more) (omega (arith, sum_by-cons (λ x. x) len (next ∷ more))))

pub length-next_starts : (n : ℕ) (lengths : List ℕ) → length (next_starts n lengths) ≡ length lengths - 1
length-next_starts n [] = omega arith
length-next_starts n (len ∷ []) = omega arith
length-next_starts n (len ∷ next ∷ more) = omega (arith, length-next_starts (n + len) (next ∷ more))

pub AreStarts-next_starts : (text : List ℕ) → length text ≤ 4_194_304 → AreStarts (0 ∷ next_starts 0 (map length (physical_lines text))) (length text)
AreStarts-next_starts text short = record {
  some = omega arith;
  first = refl;
  rise = RiseTo-next_starts 0 (length text) (map length (physical_lines text)) (omega (arith, sum-lengths text));
  few = omega (arith, length-next_starts 0 (map length (physical_lines text)), length-map (physical_lines text) (length {A = ℕ}), few_lines text);
  short = short;
}

pub lengths_of_starts : (text : List ℕ) → lengths_between (0 ∷ next_starts 0 (map length (physical_lines text))) (length text) ≡ map length (physical_lines text)
lengths_of_starts text =
    lengths_between-next_starts 0 (length text) (map length (physical_lines text)) (omega (arith, length-map (physical_lines text) (length {A = ℕ}), some_line text)) (omega (arith, sum-lengths text))

-- a character before the first line begins the others one character later
starts_later : (n len : ℕ) (more : List ℕ) → next_starts n (suc len ∷ more) ≡ next_starts (n + 1) (len ∷ more)
starts_later n len [] = refl
starts_later n len (next ∷ more) = let e : n + suc len ≡ n + 1 + len = omega arith in rw e refl

starts-with_character : (n c : ℕ) (lines : List (List ℕ)) → next_starts n (map length (with_character c lines)) ≡ next_starts (n + 1) (map length lines)
starts-with_character n c [] = refl
starts-with_character n c (line ∷ more) = starts_later n (length line) (map length more)

starts-new_line : (n : ℕ) (lengths : List ℕ) → 0 < length lengths → next_starts n (1 ∷ lengths) ≡ (n + 1) ∷ next_starts (n + 1) lengths
starts-new_line n [] some = absurd (omega arith)
starts-new_line n (len ∷ more) some = refl

-- one step over the text: a line begins behind a character that ends one, and behind no other
pub next_starts-at_end : (n c : ℕ) (rest : List ℕ) → ends_line c rest ≡ true → next_starts n (map length (physical_lines (c ∷ rest))) ≡ (n + 1) ∷ next_starts (n + 1) (map length (physical_lines rest))
unfolding physical_lines
next_starts-at_end n c rest e =
    rw e (starts-new_line n (map length (physical_lines rest)) (omega (arith, length-map (physical_lines rest) (length {A = ℕ}), some_line rest)))

pub next_starts-within : (n c : ℕ) (rest : List ℕ) → ends_line c rest ≡ false → next_starts n (map length (physical_lines (c ∷ rest))) ≡ next_starts (n + 1) (map length (physical_lines rest))
unfolding physical_lines
next_starts-within n c rest e = rw e (starts-with_character n c (physical_lines rest))
