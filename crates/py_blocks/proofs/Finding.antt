-- The innermost def or class around a line is the last of the open blocks that is one; there is one at most.
use Rattle.std.proofs.Common.{◌≡◌, ℕ, ◌<◌, ◌≤◌, nat_lt, Bool, true, false, not, ◌&&◌, None, List, [], ◌∷◌, length, refl, ◌∙◌, sym, ap, arith, suc, zero}
use Rattle.std.specs.List.{list_any, range_with_len}
use Rattle.std.proofs.lemmas.Bool.{lt-ltb, ltb-true, ltb-false, and_parts}
use Rattle.std.proofs.lemmas.List.FromFn.{get_or-map-range_with_len}
use Rattle.py_blocks.specs.declared.facts.LineFacts.{LineFacts}
use Rattle.py_blocks.specs.declared.sort.Sort.{Sort}
use Rattle.py_blocks.specs.declared.sort.Sort.TheVariants as sorts
use Rattle.py_blocks.specs.Enclosing.{line_at, no_line, is_a, stays_right_of, encloses, encloses_as, lies_between, is_innermost}
use Rattle.py_blocks.specs.Search.{some_below, each_below}
use Rattle.py_blocks.specs.Innermost.{scope_at, scopes_of, scope_in, open_at, last_of, is_behind}
use Rattle.py_blocks.proofs.OpenBlocks.{and-last, opens_inside, inside-open}
use Rattle.py_blocks.proofs.Searches.{IsOne, find-through, last-found, any-last, no_later, some-at}

pub scope-open : (lines : List LineFacts) (i : ℕ) → last_of lines sorts.Scope (open_at lines i) ≡ scope_at lines i
scope-open lines i =
    let s : ℕ → Bool = λ j. is_a lines j sorts.Scope in
    let e : ℕ → Bool = λ j. encloses lines j i in
    sym (find-through e (no_later s (open_at lines i)) (λ d. is_innermost lines sorts.Scope d i) (range_with_len 0 i) (λ d.
    and-last (is_a lines d sorts.Scope) (encloses lines d i) (not (some_below i (λ k. nat_lt d k && (is_a lines k sorts.Scope && encloses lines k i))))
    ∙ ap (λ b. (is_a lines d sorts.Scope && not b) && encloses lines d i) (inside-open lines sorts.Scope i d))
    ∙ last-found s e 0 i)

-- a def or class stands inside the open block d
pub scope-behind : (lines : List LineFacts) (i d : ℕ) → opens_inside lines sorts.Scope (open_at lines i) d ≡ is_behind (scope_at lines i) d
scope-behind lines i d = any-last (λ j. is_a lines j sorts.Scope) (λ j. encloses lines j i) d 0 i ∙ ap (λ o. is_behind o d) (scope-open lines i)

-- ---- one at most

one-by : (e : ℕ → Bool) → ((a b : ℕ) → e a ≡ true → e b ≡ true → a < b → ⊥) → IsOne e
one-by e h a b p q = go (nat_lt a b) refl (nat_lt b a) refl
  where
    go : (c : Bool) → nat_lt a b ≡ c → (d : Bool) → nat_lt b a ≡ d → a ≡ b
    go true i d j = absurd (h a b p q (ltb-true a b i))
    go false i true j = absurd (h b a q p (ltb-true b a j))
    go false i false j = let x = ltb-false a b i in let y = ltb-false b a j in omega (arith, x, y)

not-true : (b : Bool) → not b ≡ true → b ≡ false
not-true true h = cc
not-true false h = refl

encloses-below : (lines : List LineFacts) (j i : ℕ) → encloses lines j i ≡ true → j < i
encloses-below lines j i h =
    let (ab, c) = and_parts (nat_lt j i && stays_right_of lines j i) (each_below i (stays_right_of lines j)) h in
    ltb-true j i (and_parts (nat_lt j i) (stays_right_of lines j i) ab).0

encloses-in : (lines : List LineFacts) (s : Sort) (j i : ℕ) → encloses_as lines s j i ≡ true → encloses lines j i ≡ true
encloses-in lines s j i h = (and_parts (is_a lines j s) (encloses lines j i) h).1

pub innermost-one : (lines : List LineFacts) (s : Sort) (i : ℕ) → IsOne (λ d. is_innermost lines s d i)
innermost-one lines s i = one-by (λ d. is_innermost lines s d i) (λ a b p q l.
    let (ea, na) = and_parts (encloses_as lines s a i) (not (lies_between lines s a i)) p in
    let (eb, nb) = and_parts (encloses_as lines s b i) (not (lies_between lines s b i)) q in
    let here : (nat_lt a b && encloses_as lines s b i) ≡ true = rw (lt-ltb a b l, eb) refl in
    let some : lies_between lines s a i ≡ true = some-at (λ k. nat_lt a k && encloses_as lines s k i) i b (encloses-below lines b i (encloses-in lines s b i eb)) here in
    let none : lies_between lines s a i ≡ false = not-true (lies_between lines s a i) na in
    cc)

pub innermost-below : (lines : List LineFacts) (s : Sort) (i d : ℕ) → is_innermost lines s d i ≡ true → d < i
innermost-below lines s i d h = encloses-below lines d i (encloses-in lines s d i (and_parts (encloses_as lines s d i) (not (lies_between lines s d i)) h).0)

-- ---- read

pub scope-of : (lines : List LineFacts) (i : ℕ) → i < length lines → scope_in (scopes_of lines) i ≡ scope_at lines i
scope-of lines i lt = get_or-map-range_with_len (scope_at lines) 0 (length lines) i i None lt (omega arith)

pub and-turned : (a b : Bool) → (a && b) ≡ (b && a)
and-turned true true = refl
and-turned true false = refl
and-turned false true = refl
and-turned false false = refl

pub any-turned : (e f : ℕ → Bool) (xs : List ℕ) → list_any (λ p. f p && e p) xs ≡ list_any (λ p. e p && f p) xs
any-turned e f [] = refl
any-turned e f (x ∷ xs) = rw (and-turned (f x) (e x), any-turned e f xs) refl

pub no-line : (lines : List LineFacts) (i : ℕ) → length lines ≤ i → line_at lines i ≡ no_line
no-line [] i h = refl
no-line (x ∷ lines) zero h = absurd (omega arith)
no-line (x ∷ lines) (suc i) h = no-line lines i (omega arith)
