-- The longest run of a class, as a list and by its length.
use Rattle.std.proofs.Common.{inl, inr, ◌≡◌, ℕ, zero, suc, ◌<◌, ◌≤◌, Bool, true, false, List, [], ◌∷◌, length, take, refl, sym, ◌∙◌, ap, arith, ◌&&◌}
use Rattle.std.proofs.lemmas.Bool.{cond-true, cond-false, and_parts, and_from, both_ways, cases_Bool}
use Rattle.py_tokens.specs.Chars.{every, run}
use Rattle.py_tokens.specs.Fronts.{IsLongestBy}

run_step : (p : ℕ → Bool) (text : List ℕ) (n : ℕ) → n ≤ length text → every p (take n text) ≡ true → (n < length text → every p (take (suc n) text) ≡ false) → take n text ≡ run p text
run_step p [] zero l e s = refl
run_step p [] (suc n) l e s = absurd (omega arith)
run_step p (c ∷ cs) zero l e s =
    elim (cases_Bool (p c)) [
      | inl t ↦ absurd (both_ways _ (s (omega arith)) (and_from _ _ t refl))
      | inr f ↦ sym (cond-false _ _ _ f)
    ]
run_step p (c ∷ cs) (suc n) l e s =
    let parts = and_parts _ _ e in
    ap (λ t. c ∷ t) (run_step p cs n (omega arith) parts.1 (λ h. after (p c) _ parts.0 (s (omega arith)))) ∙ sym (cond-true _ _ _ parts.0)
  where
    after : (x y : Bool) → x ≡ true → (x && y) ≡ false → y ≡ false
    after true y t f = f
    after false y t f = absurd (both_ways _ refl t)

pub run_is : (p : ℕ → Bool) (text : List ℕ) (n : ℕ) → IsLongestBy (every p) n text → take n text ≡ run p text
run_is p text n by = run_step p text n by.within by.passes (λ h. by.longest (suc n) (omega arith) (omega arith))
