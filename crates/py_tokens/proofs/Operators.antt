-- No operator is longer than three characters, and no conversion has other than two.
use Rattle.std.proofs.Common.{◌≡◌, ℕ, ◌<◌, ◌≤◌, max, Bool, false, List, [], ◌∷◌, length, refl, sym, ap, arith, take, length-take-le, None, ◌∙◌}
use Rattle.std.proofs.lemmas.Bool.{false_from_ne_true, or_from, and_left, and_right, cond-false}
use Rattle.std.proofs.lemmas.Slice.Eq.{bytes_eq-Decides}
use Rattle.py_tokens.specs.Words.{is_one_of}
use Rattle.py_tokens.specs.Signs.{is_operator, is_conversion, operators, conversions, sign_kind}

abbrev longest_word : List (List ℕ) → ℕ
longest_word [] = 0
longest_word (word ∷ words) = max (length word) (longest_word words)

not_longer : (words : List (List ℕ)) (text : List ℕ) → longest_word words < length text → is_one_of words text ≡ false
not_longer [] text l = refl
not_longer (word ∷ words) text l =
    or_from _ _
    (false_from_ne_true _ (λ e. let same : length word ≡ length text = ap length ((bytes_eq-Decides word text).0 e) in absurd (omega arith)))
    (not_longer words text (omega arith))

pub operators_short : (in_field : Bool) (text : List ℕ) → 3 < length text → is_operator in_field text ≡ false
unfolding is_operator
operators_short in_field text l = and_left _ _ (not_longer operators text l)

pub no_operator : (in_field : Bool) (text : List ℕ) → length text < 1 → is_operator in_field text ≡ false
unfolding is_operator
no_operator in_field [] l = refl
no_operator in_field (c ∷ cs) l = absurd (omega arith)

-- each word has this length
abbrev HaveLength : ℕ → List (List ℕ) → Type 0
HaveLength n [] = Unit {0}
HaveLength n (word ∷ words) = (length word ≡ n) × HaveLength n words

other_length : (words : List (List ℕ)) (n : ℕ) (text : List ℕ) → HaveLength n words → (length text ≡ n → ⊥) → is_one_of words text ≡ false
other_length [] n text h l = refl
other_length (word ∷ words) n text h l =
    or_from _ _
    (false_from_ne_true _ (λ e. let same : length word ≡ length text = ap length ((bytes_eq-Decides word text).0 e) in l (sym same ∙ h.0)))
    (other_length words n text h.1 l)

pub conversions_two : (in_field : Bool) (text : List ℕ) → (length text ≡ 2 → ⊥) → is_conversion in_field text ≡ false
unfolding is_conversion
conversions_two in_field text l = and_right in_field _ (other_length conversions 2 text (refl, (refl, (refl, tt))) l)

pub sign_past : (in_field : Bool) (text : List ℕ) (m : ℕ) → 3 < m → m ≤ length text → sign_kind in_field (take m text) ≡ None
sign_past in_field text m l h =
    let e = length-take-le m text h in
    cond-false _ _ _ (operators_short in_field _ (omega arith)) ∙ cond-false _ _ _ (conversions_two in_field _ (λ two. absurd (omega arith)))
