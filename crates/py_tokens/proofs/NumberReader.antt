-- The reader of numbers says of each text what the grammar says: each of its places stands for what the grammar lets come behind one
-- text that leads there.
use Rattle.std.proofs.Common.{inl, inr, ◌≡◌, ℕ, zero, suc, ◌<◌, ◌≤◌, Bool, true, false, ◌&&◌, ◌||◌, ◌==◌, List, [], ◌∷◌, codes, bytes_eq, refl, sym, ◌∙◌, ap, subst, arith, Option, Some, None, option_map, cond, nat_lt, ne_eqb, nat_le}
use Rattle.std.specs.List.{list_any, list_all}
use Rattle.std.specs.Char.{is_ascii_digit}
use Rattle.std.proofs.lemmas.Bool.{both_ways, and_parts, and_right, or_from, cond-false, cases_lt, ltb-true}
use Rattle.std.proofs.lemmas.Bool.Decides.{nat_tests}
use Rattle.std.proofs.lemmas.Slice.Eq.{bytes_eq-Decides}
use Rattle.py_tokens.specs.Shapes.{Shape, behind, choice, may_end, behind_char, is_of}
use Rattle.py_tokens.specs.Shapes.Shape.{Nothing, Empty, One, Then, Either, Many}
use Rattle.py_tokens.specs.NumericLiterals.{integer, float, imaginary, kind_of_number, number_of}
use Rattle.py_tokens.specs.Numbers.{number_kind, number_next, is_digit_of}
use Rattle.py_tokens.specs.States.{kind_from}
use Rattle.py_tokens.specs.Ints.{is_int_kind}
use Rattle.py_tokens.specs.Fronts.{Answers}
use Rattle.py_tokens.specs.Rows.{row_kind}
use Rattle.py_tokens.specs.declared.kinds.Kind.{Kind}
use Rattle.py_tokens.specs.declared.kinds.Kind.TheVariants.{Token}
use Rattle.py_tokens.specs.declared.kinds.TokenKind.{TokenKind}
use Rattle.py_tokens.specs.declared.numbers.Base.{Base}
use Rattle.py_tokens.specs.declared.numbers.Base.TheVariants.{Two, Eight, Sixteen}
use Rattle.py_tokens.specs.declared.numbers.InNumber.{InNumber}
use Rattle.py_tokens.specs.declared.numbers.InNumber.TheVariants.{Start, Zero, Zeros, ZerosJoin, Digits, DigitsJoin, LedDigits, LedDigitsJoin, Point, BarePoint, Fraction, FractionJoin, Exponent, ExponentSign, Power, PowerJoin, Prefix, Based, BasedJoin, Done}
use Rattle.py_tokens.specs.declared.states.State.TheVariants.{Number}
use Rattle.py_tokens.specs.declared.rows.Row.TheVariants as row

-- ---- equal shapes

abbrev same : Shape → Shape → Bool
same Nothing Nothing = true
same Empty Empty = true
same (One a) (One b) = bytes_eq a b
same (Then a b) (Then c d) = same a c && same b d
same (Either a b) (Either c d) = same a c && same b d
same (Many a) (Many b) = same a b
same a b = false

same_is : (a b : Shape) → same a b ≡ true → a ≡ b
same_is Nothing Nothing e = refl
same_is Empty Empty e = refl
same_is (One a) (One b) e = ap One ((bytes_eq-Decides a b).0 e)
same_is (Then a b) (Then c d) e = let p = and_parts _ _ e in let x = same_is a c p.0 in let y = same_is b d p.1 in λ i. Then (x i) (y i)
same_is (Either a b) (Either c d) e = let p = and_parts _ _ e in let x = same_is a c p.0 in let y = same_is b d p.1 in λ i. Either (x i) (y i)
same_is (Many a) (Many b) e = ap Many (same_is a b e)
same_is a b e = absurd (both_ways _ refl e)

-- ---- what each place stands for

-- a text that leads to the place
abbrev text_to : InNumber → List ℕ
text_to Start = []
text_to Zero = codes "0"
text_to Zeros = codes "00"
text_to ZerosJoin = codes "0_"
text_to Digits = codes "1"
text_to DigitsJoin = codes "1_"
text_to LedDigits = codes "01"
text_to LedDigitsJoin = codes "01_"
text_to Point = codes "."
text_to BarePoint = codes "1."
text_to Fraction = codes "1.1"
text_to FractionJoin = codes "1.1_"
text_to Exponent = codes "1e"
text_to ExponentSign = codes "1e+"
text_to Power = codes "1e1"
text_to PowerJoin = codes "1e1_"
text_to (Prefix Two) = codes "0b"
text_to (Prefix Eight) = codes "0o"
text_to (Prefix Sixteen) = codes "0x"
text_to (Based Two) = codes "0b1"
text_to (Based Eight) = codes "0o1"
text_to (Based Sixteen) = codes "0x1"
text_to (BasedJoin Two) = codes "0b_"
text_to (BasedJoin Eight) = codes "0o_"
text_to (BasedJoin Sixteen) = codes "0x_"
text_to Done = codes "1j"

abbrev behind_text : Shape → List ℕ → Shape
behind_text shape [] = shape
behind_text shape (c ∷ cs) = behind_text (behind_char shape c) cs

abbrev shape_at : Shape → InNumber → Shape
shape_at shape place = behind_text shape (text_to place)

abbrev next_shape : Shape → Option InNumber → Shape
next_shape shape None = Nothing
next_shape shape (Some place) = shape_at shape place

-- ---- the place behind a character stands for what may come behind it: by trying each ASCII character

abbrev follows : Shape → InNumber → ℕ → Bool
follows shape place c = same (behind_char (shape_at shape place) c) (next_shape shape (number_next place c))

abbrev follow : InNumber → ℕ → Bool
follow place c = follows integer place c && (follows float place c && follows imaginary place c)

abbrev each_below : (ℕ → Bool) → ℕ → Bool
each_below p zero = true
each_below p (suc n) = p n && each_below p n

below : (p : ℕ → Bool) (n k : ℕ) → each_below p n ≡ true → k < n → p k ≡ true
below p zero k q l = absurd (omega arith)
below p (suc n) k q l = elim (cases_lt k n) as (λ _. p k ≡ true) [
  | inl h ↦ below p n k (and_parts _ _ q).1 h
  | inr h ↦ subst (λ m. p m ≡ true) (let e : n ≡ k = omega arith in e) (and_parts _ _ q).0
]

each_follows : (place : InNumber) → each_below (follow place) 128 ≡ true
each_follows (Prefix Two) = refl
each_follows (Prefix Eight) = refl
each_follows (Prefix Sixteen) = refl
each_follows (Based Two) = refl
each_follows (Based Eight) = refl
each_follows (Based Sixteen) = refl
each_follows (BasedJoin Two) = refl
each_follows (BasedJoin Eight) = refl
each_follows (BasedJoin Sixteen) = refl
each_follows place = refl

-- ---- no other character stands in a number

abbrev has_ascii : Shape → Bool
has_ascii (One cs) = list_all (λ c. nat_lt c 128) cs
has_ascii (Then a b) = has_ascii a && has_ascii b
has_ascii (Either a b) = has_ascii a && has_ascii b
has_ascii (Many a) = has_ascii a
has_ascii shape = true

not_far : (d c : ℕ) → 128 ≤ c → d ≡ c → d < 128 → ⊥
not_far d c h s l = omega arith

none_is : (cs : List ℕ) (c : ℕ) → 128 ≤ c → list_all (λ d. nat_lt d 128) cs ≡ true → list_any (λ d. d == c) cs ≡ false
none_is [] c h e = refl
none_is (d ∷ ds) c h e =
    let p = and_parts (nat_lt d 128) (list_all (λ x. nat_lt x 128) ds) e in
    or_from _ _ (ne_eqb d c (λ s. not_far d c h s (ltb-true d 128 p.0))) (none_is ds c h p.1)

then_nothing : (ends : Bool) (x y b : Shape) → x ≡ Nothing → y ≡ Nothing → cond ends (choice (behind x b) y) (behind x b) ≡ Nothing
then_nothing true x y b p q = ap (λ z. choice (behind z b) y) p ∙ q
then_nothing false x y b p q = ap (λ z. behind z b) p

far_behind : (shape : Shape) (c : ℕ) → 128 ≤ c → has_ascii shape ≡ true → behind_char shape c ≡ Nothing
far_behind Nothing c h e = refl
far_behind Empty c h e = refl
far_behind (One cs) c h e = cond-false _ _ _ (none_is cs c h e)
far_behind (Then a b) c h e = let p = and_parts _ _ e in then_nothing (may_end a) _ _ b (far_behind a c h p.0) (far_behind b c h p.1)
far_behind (Either a b) c h e = let p = and_parts _ _ e in ap (λ z. choice z (behind_char b c)) (far_behind a c h p.0) ∙ far_behind b c h p.1
far_behind (Many a) c h e = ap (λ z. behind z (Many a)) (far_behind a c h e)

abbrev are_ascii : InNumber → Bool
are_ascii place = has_ascii (shape_at integer place) && (has_ascii (shape_at float place) && has_ascii (shape_at imaginary place))

each_ascii : (place : InNumber) → are_ascii place ≡ true
each_ascii (Prefix Two) = refl
each_ascii (Prefix Eight) = refl
each_ascii (Prefix Sixteen) = refl
each_ascii (Based Two) = refl
each_ascii (Based Eight) = refl
each_ascii (Based Sixteen) = refl
each_ascii (BasedJoin Two) = refl
each_ascii (BasedJoin Eight) = refl
each_ascii (BasedJoin Sixteen) = refl
each_ascii place = refl

not_within : (first last c : ℕ) → last < c → (nat_le first c && nat_le c last) ≡ false
not_within first last c h = and_right (nat_le first c) _ (grind (arith, nat_tests))

record Far (c : ℕ) : Type 0 where
  none : (c == 48) ≡ false
  one : (c == 49) ≡ false
  join : (c == 95) ≡ false
  point : (c == 46) ≡ false
  plus : (c == 43) ≡ false
  minus : (c == 45) ≡ false
  letters : ((c == 101) ≡ false) × ((c == 69) ≡ false) × ((c == 106) ≡ false) × ((c == 74) ≡ false) × ((c == 120) ≡ false) × ((c == 88) ≡ false) × ((c == 111) ≡ false) × ((c == 79) ≡ false) × ((c == 98) ≡ false) × ((c == 66) ≡ false)
  digit : is_ascii_digit c ≡ false
  octal : (nat_le 48 c && nat_le c 55) ≡ false
  small : (nat_le 97 c && nat_le c 102) ≡ false
  capital : (nat_le 65 c && nat_le c 70) ≡ false

not_at : (c d : ℕ) → 128 ≤ c → d < 128 → (c == d) ≡ false
not_at c d h l = ne_eqb c d (λ e. absurd (omega arith))

far : (c : ℕ) → 128 ≤ c → Far c
far c h = record {
  none = not_at c 48 h (omega arith);
  one = not_at c 49 h (omega arith);
  join = not_at c 95 h (omega arith);
  point = not_at c 46 h (omega arith);
  plus = not_at c 43 h (omega arith);
  minus = not_at c 45 h (omega arith);
  letters = (not_at c 101 h (omega arith), not_at c 69 h (omega arith), not_at c 106 h (omega arith), not_at c 74 h (omega arith), not_at c 120 h (omega arith), not_at c 88 h (omega arith), not_at c 111 h (omega arith), not_at c 79 h (omega arith), not_at c 98 h (omega arith), not_at c 66 h (omega arith));
  digit = not_within 48 57 c (omega arith);
  octal = not_within 48 55 c (omega arith);
  small = not_within 97 102 c (omega arith);
  capital = not_within 65 70 c (omega arith);
}

no_digit : (base : Base) (c : ℕ) → Far c → is_digit_of base c ≡ false
no_digit Two c f = or_from _ _ f.none f.one
no_digit Eight c f = f.octal
no_digit Sixteen c f = or_from _ _ f.digit (or_from _ _ f.small f.capital)

far_next : (place : InNumber) (c : ℕ) → Far c → number_next place c ≡ None
far_next Done c f = refl
far_next (Prefix base) c f = simp (no_digit base c f, f.join) refl
far_next (Based base) c f = simp (no_digit base c f, f.join) refl
far_next (BasedJoin base) c f = simp (no_digit base c f) refl
far_next place c f =
    simp (f.none, f.join, f.point, f.plus, f.minus, f.letters.0, f.letters.1, f.letters.2, f.letters.3, f.letters.4, f.letters.5, f.letters.6, f.letters.7, f.letters.8, f.letters.9, f.digit) refl

-- ---- the reader and the grammar

step : (place : InNumber) (c : ℕ) → (behind_char (shape_at integer place) c ≡ next_shape integer (number_next place c)) × (behind_char (shape_at float place) c ≡ next_shape float (number_next place c)) × (behind_char (shape_at imaginary place) c ≡ next_shape imaginary (number_next place c))
step place c = elim (cases_lt c 128) [
  | inl h ↦
      let p = and_parts (follows integer place c) (follows float place c && follows imaginary place c) (below (follow place) 128 c (each_follows place) h) in
      let q = and_parts (follows float place c) (follows imaginary place c) p.1 in
      (same_is _ _ p.0, same_is _ _ q.0, same_is _ _ q.1)
  | inr h ↦
      let n = far_next place c (far c h) in
      let p = and_parts (has_ascii (shape_at integer place)) (has_ascii (shape_at float place) && has_ascii (shape_at imaginary place)) (each_ascii place) in
      let q = and_parts (has_ascii (shape_at float place)) (has_ascii (shape_at imaginary place)) p.1 in
      (far_behind (shape_at integer place) c h p.0 ∙ sym (ap (next_shape integer) n), far_behind (shape_at float place) c h q.0 ∙ sym (ap (next_shape float) n), far_behind (shape_at imaginary place) c h q.1 ∙ sym (ap (next_shape imaginary) n))
]

abbrev kind_of_shapes : Shape → Shape → Shape → List ℕ → Option TokenKind
kind_of_shapes a b d text = kind_of_number (is_of a text) (is_of b text) (is_of d text)

nothing_is : (text : List ℕ) → is_of Nothing text ≡ false
nothing_is [] = refl
nothing_is (c ∷ cs) = nothing_is cs

ends : (place : InNumber) → number_kind place ≡ kind_of_shapes (shape_at integer place) (shape_at float place) (shape_at imaginary place) []
ends (Prefix Two) = refl
ends (Prefix Eight) = refl
ends (Prefix Sixteen) = refl
ends (Based Two) = refl
ends (Based Eight) = refl
ends (Based Sixteen) = refl
ends (BasedJoin Two) = refl
ends (BasedJoin Eight) = refl
ends (BasedJoin Sixteen) = refl
ends place = refl

-- behind a character, if the reader says of the rest what the grammar says
on : (cs rest : List ℕ) (next : Option InNumber) → ((place : InNumber) → kind_from (Some (Number place)) cs rest ≡ option_map Token (kind_of_shapes (shape_at integer place) (shape_at float place) (shape_at imaginary place) cs)) → kind_from (option_map Number next) cs rest ≡ option_map Token (kind_of_shapes (next_shape integer next) (next_shape float next) (next_shape imaginary next) cs)
on cs rest None more = ap (λ b. option_map Token (kind_of_number b b b)) (sym (nothing_is cs))
on cs rest (Some place) more = more place

reads : (text rest : List ℕ) (place : InNumber) → kind_from (Some (Number place)) text rest ≡ option_map Token (kind_of_shapes (shape_at integer place) (shape_at float place) (shape_at imaginary place) text)
reads [] rest place = ap (option_map Token) (ends place)
reads (c ∷ cs) rest place =
    let s = step place c in
    on cs rest (number_next place c) (reads cs rest)
    ∙ ap (option_map Token) (λ i. kind_of_shapes (sym s.0 i) (sym s.1 i) (sym s.2 i) cs)

pub number_same : (text rest : List ℕ) → kind_from (Some (Number Start)) text rest ≡ option_map Token (number_of text)
unfolding number_of
number_same text rest = reads text rest Start

-- the empty text is no number
pub number_none : option_map Token (number_of []) ≡ None
unfolding number_of
number_none = refl

pub number_answers : (text : List ℕ) (found : Option (ℕ × Kind)) → Answers (kind_from (Some (Number Start))) text found → Answers (row_kind row.Number) text found
number_answers text found = let same : kind_from (Some (Number Start)) ≡ row_kind row.Number = λ i. λ front rest. number_same front rest i in subst (λ (table : List ℕ → List ℕ → Option Kind). Answers table text found) same

int_kind : (i f j : Bool) → is_int_kind (option_map Token (kind_of_number i f j)) ≡ i
int_kind true f j = refl
int_kind false true j = refl
int_kind false false true = refl
int_kind false false false = refl

pub int_same : (text : List ℕ) → is_int_kind (kind_from (Some (Number Start)) text []) ≡ is_of integer text
int_same text = ap is_int_kind (reads text [] Start) ∙ int_kind (is_of integer text) (is_of float text) (is_of imaginary text)
