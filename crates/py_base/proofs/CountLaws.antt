-- Counting lines and columns from the beginning of a text finds the place of an offset.
use Rattle.std.proofs.Common.{◌≡◌, ℕ, suc, ◌+◌, ◌-◌, ◌<◌, ◌≤◌, List, [], ◌∷◌, ◌++◌, ◌≢◌, length, map, cond, eqb, ltb, Bool, true, false, refl, sym, ap, ◌∙◌, arith, ⊎_elim, chars, IsUtf8}
use Rattle.std.proofs.lemmas.Bool.{cond_both, cases_lt, lt-ltb, le-ltb, ne_eqb}
use Rattle.std.proofs.lemmas.List.{length-map, nil_from_length}
use Rattle.std.proofs.lemmas.Str.{chars-nil, chars_past_char, IsUtf8-past_char}
use Rattle.std.specs.Char.{encode_utf8}
use Rattle.py_base.specs.declared.span.Place.{Place}
use Rattle.py_base.specs.Lines.{physical_lines, ends_line, with_character}
use Rattle.py_base.specs.Places.{place_of, one_line_down}
use Rattle.py_base.proofs.PlaceLaws.{at, same_place}
use Rattle.py_base.proofs.LineLaws.{some_line}
use Rattle.py_base.proofs.ScanLaws.{line_lengths}

-- the place that is at `more` in what follows `place`
abbrev pub moved : Place → Place → Place
moved place more = at (place.line + more.line) (cond (eqb more.line 0) (place.col + more.col) more.col)

moved_down : (line col : ℕ) (more : Place) → moved (at line col) (one_line_down more) ≡ moved (at (line + 1) 0) more
moved_down line col more =
    let below : eqb (more.line + 1) 0 ≡ false = ne_eqb _ _ (λ e. omega arith) in
    rw below (same_place _ _ _ _ (omega arith) (cond_both (eqb more.line 0) (0 + more.col) more.col (λ x. more.col ≡ x) (λ e. omega arith) (λ e. refl)))

-- over a character that ends a line
over_end : (line col offset : ℕ) (lengths : List ℕ) → 0 < length lengths → moved (at line col) (place_of (1 ∷ lengths) (suc offset)) ≡ moved (at (line + 1) 0) (place_of lengths offset)
unfolding place_of
over_end line col offset [] some = absurd (omega arith)
over_end line col offset (len ∷ more) some =
    let beyond : ltb (suc offset) 1 ≡ false = le-ltb _ _ (omega arith) in
    let one : suc offset - 1 ≡ offset = omega arith in
    rw (beyond, one) (moved_down line col (place_of (len ∷ more) offset))

-- over a character within its line
over_other : (line col offset len : ℕ) (more : List ℕ) → moved (at line col) (place_of (suc len ∷ more) (suc offset)) ≡ moved (at line (col + 1)) (place_of (len ∷ more) offset)
unfolding place_of
over_other line col offset len [] = same_place _ _ _ _ refl (omega arith)
over_other line col offset len (next ∷ more) = ⊎_elim
    (λ h. let here : ltb (suc offset) (suc len) ≡ true = lt-ltb _ _ (omega arith) in
    let here' : ltb offset len ≡ true = lt-ltb _ _ h in
    rw (here, here') (same_place _ _ _ _ refl (omega arith)))
    (λ h. let below : ltb (suc offset) (suc len) ≡ false = le-ltb _ _ (omega arith) in
    let below' : ltb offset len ≡ false = le-ltb _ _ h in
    let e : suc offset - suc len ≡ offset - len = omega arith in
    let q = place_of (next ∷ more) (offset - len) in
    rw (below, below', e) (moved_down line col q ∙ sym (moved_down line (col + 1) q)))
    (cases_lt offset len)

over_within : (line col offset c : ℕ) (lines : List (List ℕ)) → 0 < length lines → moved (at line col) (place_of (map length (with_character c lines)) (suc offset)) ≡ moved (at line (col + 1)) (place_of (map length lines) offset)
over_within line col offset c [] some = absurd (omega arith)
over_within line col offset c (first ∷ more) some = over_other line col offset (length first) (map length more)

-- the place behind a character that ends its line or not
abbrev pub behind : Bool → Place → Place
behind ends place = cond ends (at (place.line + 1) 0) (at place.line (place.col + 1))

over_character : (place : Place) (offset c : ℕ) (rest : List ℕ) → moved place (place_of (map length (physical_lines (c ∷ rest))) (suc offset)) ≡ moved (behind (ends_line c rest) place) (place_of (map length (physical_lines rest)) offset)
unfolding physical_lines
over_character place offset c rest =
    elim (ends_line c rest) as (λ b. moved place (place_of (map length (cond b ((c ∷ []) ∷ physical_lines rest) (with_character c (physical_lines rest)))) (suc offset)) ≡ moved (behind b place) (place_of (map length (physical_lines rest)) offset)) [
      | true ↦ over_end place.line place.col offset (map length (physical_lines rest)) (omega (arith, length-map (physical_lines rest) (length {A = ℕ}), some_line rest))
      | false ↦ over_within place.line place.col offset c (physical_lines rest) (some_line rest)
    ]

first_of_some : (len : ℕ) (more : List ℕ) → place_of (suc len ∷ more) 0 ≡ at 0 0
unfolding place_of
first_of_some len [] = refl
first_of_some len (next ∷ more) = let here : ltb 0 (suc len) ≡ true = lt-ltb _ _ (omega arith) in rw here refl

first-with_character : (c : ℕ) (lines : List (List ℕ)) → place_of (map length (with_character c lines)) 0 ≡ at 0 0
first-with_character c [] = first_of_some 0 []
first-with_character c (line ∷ more) = first_of_some (length line) (map length more)

first_place : (rest : List ℕ) → place_of (map length (physical_lines rest)) 0 ≡ at 0 0
unfolding place_of physical_lines
first_place [] = refl
first_place (c ∷ rest) =
    cond_both (ends_line c rest) ((c ∷ []) ∷ physical_lines rest) (with_character c (physical_lines rest)) (λ lines. place_of (map length lines) 0 ≡ at 0 0)
    (λ e. first_of_some 0 (map length (physical_lines rest)))
    (λ e. first-with_character c (physical_lines rest))

-- ---- the loop

-- the place so far, and that of the offset in the rest of the text, make the place of the offset
pub record IsCounted (text : List ℕ) (offset passed : ℕ) (place : Place) (rest : List ℕ) : Type 0 where
  pub joined : moved place (place_of (line_lengths rest) (offset - passed)) ≡ place_of (line_lengths text) offset
  pub passed_is : passed + length (chars rest) ≡ length (chars text)
  pub within : passed ≤ offset
  pub small : place.line + place.col ≤ passed
  pub is_text : IsUtf8 rest

pub counted_none : (text : List ℕ) (offset : ℕ) → IsUtf8 text → IsCounted text offset 0 (at 0 0) text
counted_none text offset u =
    let q = place_of (line_lengths text) offset in
    let e : offset - 0 ≡ offset = omega arith in
    record {
      joined = rw e (same_place _ _ _ _ (omega arith) (cond_both (eqb q.line 0) (0 + q.col) q.col (λ x. x ≡ q.col) (λ e. omega arith) (λ e. refl)));
      passed_is = omega arith;
      within = omega arith;
      small = omega arith;
      is_text = u;
    }

pub counted_more : (text rest more : List ℕ) (offset passed c : ℕ) (place next : Place) → IsCounted text offset passed place rest → rest ≡ encode_utf8 c ++ more → passed ≢ offset → next ≡ behind (ends_line c (chars more)) place → IsCounted text offset (passed + 1) next more
counted_more text rest more offset passed c place next h front other is =
    let step = chars_past_char rest more c h.is_text front in
    let left : offset - passed ≡ suc (offset - (passed + 1)) = omega (arith, h.within, other) in
    record {
      joined = rw is (sym (over_character place (offset - (passed + 1)) c (chars more)) ∙ (rw (step, left) at h.joined));
      passed_is = omega (arith, h.passed_is, ap length step);
      within = omega (arith, h.within, other);
      small = rw is (cond_both (ends_line c (chars more)) (at (place.line + 1) 0) (at place.line (place.col + 1)) (λ p. p.line + p.col ≤ passed + 1) (λ e. omega (arith, h.small)) (λ e. omega (arith, h.small)));
      is_text = IsUtf8-past_char rest more c h.is_text front;
    }

-- the place when all before the offset is passed
pub counted_all : (text rest : List ℕ) (offset passed : ℕ) (place : Place) → IsCounted text offset passed place rest → passed ≡ offset → place ≡ place_of (line_lengths text) offset
counted_all text rest offset passed place h end =
    let none : offset - passed ≡ 0 = omega arith in
    same_place _ _ _ _ (omega arith) (omega arith) ∙ (rw (none, first_place (chars rest)) at h.joined)

-- the text ends no sooner
pub all_passed : (text rest : List ℕ) (offset passed : ℕ) (place : Place) → IsCounted text offset passed place rest → length rest ≡ 0 → offset ≤ length (chars text) → passed ≡ offset
all_passed text rest offset passed place h end within =
    let none : chars rest ≡ [] = ap chars (nil_from_length rest end) ∙ chars-nil in
    omega (arith, h.passed_is, h.within, ap length none)
