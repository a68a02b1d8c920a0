-- Laws of what is left and what is written.
use Rattle.std.proofs.Common.{◌≡◌, ◌∙◌, ◌+◌, ◌-◌, ◌≤◌, ℕ, List, [], ◌++◌, Option, Some, None, length, take, drop, refl, ap, sym, subst, arith, append_assoc}
use Rattle.std.proofs.Math.Seq.{take-add}
use Rattle.std.proofs.lemmas.List.{append-nil, take_rest, drop-drop, take-append-drop, length-drop, length-take-le}
use Rattle.edge_io.specs.Stream.{before, behind}

pub before-before : (xs ys : List ℕ) (left : Option (List ℕ)) → before xs (before ys left) ≡ before (xs ++ ys) left
before-before xs ys None = refl
before-before xs ys (Some rest) = ap Some (sym (append_assoc xs ys rest))

pub before-nil : (left : Option (List ℕ)) → before [] left ≡ left
before-nil None = refl
before-nil (Some rest) = refl

pub behind-behind : (written : Option (List ℕ)) (xs ys : List ℕ) → behind (behind written xs) ys ≡ behind written (xs ++ ys)
behind-behind None xs ys = refl
behind-behind (Some bytes) xs ys = ap Some (append_assoc bytes xs ys)

pub behind-nil : (written : Option (List ℕ)) → behind written [] ≡ written
behind-nil None = refl
behind-nil (Some bytes) = ap Some (append-nil bytes)

-- one more piece is written, the first n bytes of those from `at` on
pub puts_more : (first now later : Option (List ℕ)) (bytes : List ℕ) (at n : ℕ) → now ≡ behind first (take at bytes) → later ≡ behind now (take n (take (length bytes - at) (drop at bytes)))
    → later ≡ behind first (take (at + n) bytes)
puts_more first now later bytes at n is_now is_later =
    is_later ∙ (ap (λ piece. behind now (take n piece)) (take_rest bytes at)
    ∙ (ap (λ w. behind w (take n (drop at bytes))) is_now
    ∙ (behind-behind first (take at bytes) (take n (drop at bytes)) ∙ ap (behind first) (sym (take-add at n bytes)))))

-- what is left from `at` on is the n bytes that went to the front of the buffer, and the rest
pub takes_front : (bytes buffer : List ℕ) (at n : ℕ) → at + n ≤ length bytes → take (length (take ((at + n) - at) (drop at bytes))) buffer ≡ take ((at + n) - at) (drop at bytes)
    → drop at bytes ≡ take n buffer ++ drop (at + n) bytes
takes_front bytes buffer at n within copied =
    let e : (at + n) - at ≡ n = omega arith in
    let len : length (take n (drop at bytes)) ≡ n = length-take-le n (drop at bytes) (omega (arith, length-drop at bytes)) in
    let copied' : take (length (take n (drop at bytes))) buffer ≡ take n (drop at bytes) = subst (λ k. take (length (take k (drop at bytes))) buffer ≡ take k (drop at bytes)) e copied in
    let front : take n buffer ≡ take n (drop at bytes) = subst (λ k. take k buffer ≡ take n (drop at bytes)) len copied' in
    sym (take-append-drop n (drop at bytes)) ∙ (ap (λ xs. xs ++ drop n (drop at bytes)) (sym front) ∙ ap (λ xs. take n buffer ++ xs) (drop-drop n at bytes))
