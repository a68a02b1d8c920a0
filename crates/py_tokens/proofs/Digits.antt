-- The value of digits grows with each.
use Rattle.std.proofs.Common.{inl, inr, ◌≡◌, ℕ, ◌+◌, ◌*◌, ◌^◌, ◌<◌, ◌≤◌, Bool, true, false, List, [], ◌∷◌, length, drop, get_or, sym, ◌∙◌, ap, subst, arith, Some, None, cond, ◌==◌, ne_eqb}
use Rattle.std.proofs.Math.Nat.{mul-le-mul_left}
use Rattle.std.proofs.lemmas.List.{drop_more, drop_all}
use Rattle.std.proofs.lemmas.Bool.{cond-false, cases_lt}
use Rattle.std.proofs.lemmas.Bool.Decides.{nat_tests}
use Rattle.std.proofs.lemmas.Option.{none-some}
use Rattle.py_tokens.specs.Ints.{digits_number, digit_of, below_limit}

le_cond : (b : Bool) (v x y : ℕ) → v ≤ x → v ≤ y → v ≤ cond b x y
le_cond true v x y p q = p
le_cond false v x y p q = q

one_more : (base value digit : ℕ) → 1 ≤ base → value ≤ value * base + digit
one_more base value digit b = omega (arith, mul-le-mul_left value b)

grows : (base value : ℕ) (cs : List ℕ) → 1 ≤ base → value ≤ digits_number base value cs
grows base value [] b = omega arith
grows base value (c ∷ cs) b =
    let more = one_more base value (digit_of c) b in
    let rest = grows base (value * base + digit_of c) cs b in
    le_cond (c == 95) value (digits_number base value cs) (digits_number base (value * base + digit_of c) cs) (grows base value cs b) (omega arith)

limit_none : (n : ℕ) → 2 ^ 127 ≤ n → below_limit n ≡ None
limit_none n h = grind (arith, nat_tests)

limit_some : (n : ℕ) → n < 2 ^ 127 → below_limit n ≡ Some n
limit_some n h = grind (arith, nat_tests)

none_limit : (n : ℕ) → None ≡ below_limit n → 2 ^ 127 ≤ n
none_limit n e = elim (cases_lt n (2 ^ 127)) [ inl h ↦ absurd (none-some _ (e ∙ limit_some n h)) | inr h ↦ h ]

step : (base value : ℕ) (items : List ℕ) (i : ℕ) → i < length items → (get_or items i 0 ≡ 95 → ⊥) → digits_number base value (drop i items) ≡ digits_number base (value * base + digit_of (get_or items i 0)) (drop (i + 1) items)
step base value items i h n = ap (digits_number base value) (drop_more items i 0 h) ∙ cond-false _ _ _ (ne_eqb (get_or items i 0) 95 n)

pub too_wide : (base value : ℕ) (items : List ℕ) (i : ℕ) → 0 < base → digits_number base value (drop i items) ≡ digits_number base 0 items → i < length items → (get_or items i 0 ≡ 95 → ⊥) → None ≡ below_limit (value * base + digit_of (get_or items i 0)) → None ≡ below_limit (digits_number base 0 items)
too_wide base value items i b same h n wide =
    let rest = grows base (value * base + digit_of (get_or items i 0)) (drop (i + 1) items) (omega arith) in
    let all : digits_number base (value * base + digit_of (get_or items i 0)) (drop (i + 1) items) ≡ digits_number base 0 items = sym (step base value items i h n) ∙ same in
    sym (limit_none _ (subst (λ x. 2 ^ 127 ≤ x) all (let w = none_limit _ wide in omega arith)))

pub in_limit : (base value : ℕ) (items : List ℕ) (i : ℕ) → value < 2 ^ 127 → length items ≤ i → digits_number base value (drop i items) ≡ digits_number base 0 items → Some value ≡ below_limit (digits_number base 0 items)
in_limit base value items i below h same =
    let all : value ≡ digits_number base 0 items = ap (digits_number base value) (sym (drop_all i items h)) ∙ same in
    ap Some all ∙ sym (limit_some _ (subst (λ x. x < 2 ^ 127) all below))
