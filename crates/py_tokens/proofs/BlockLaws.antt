-- The columns on the stack are those of the blocks that are open, so the faults of lines by columns are those by the stack.
use Rattle.std.proofs.Common.{inl, inr, ◌⊎◌, ◌≡◌, ℕ, zero, suc, ◌+◌, ◌<◌, ◌≤◌, Bool, true, false, not, ◌&&◌, ◌||◌, ◌==◌, List, [], ◌∷◌, length, refl, sym, ◌∙◌, ap, subst, arith, Option, Some, None, cond, nat_lt, nat_le}
use Rattle.std.specs.List.{list_any}
use Rattle.std.proofs.lemmas.Bool.{and_parts, and_from, or_cases, or_left, or_right, or_from, cond_both, cond-true, cond-false, cases_lt, cases_Bool, eq-eqb, eqb-true, ne_eqb, ltb-false, ltb-true, lt-ltb, le-ltb, le-leb, leb-true, both_ways, false_from_ne_true}
use Rattle.py_tokens.specs.Blocks.{is_some_right, is_open, count_open, block_fault}
use Rattle.py_tokens.specs.BlockStack.{innermost, dedent, blocks_after, stack_fault, mark_in}
use Rattle.py_tokens.specs.Lines.{blamed, mark}
use Rattle.py_tokens.specs.declared.kinds.TokenFault.TheVariants.{BadDedent, NestingLimit}
use Rattle.py_tokens.specs.declared.lines.LogicalLine.{LogicalLine}

same_test : (x y : Bool) → (x ≡ true → y ≡ true) → (y ≡ true → x ≡ true) → x ≡ y
same_test true y f g = sym (f refl)
same_test false true f g = g refl
same_test false false f g = refl

abbrev among : ℕ → List ℕ → Bool
among d bs = list_any (λ b. b == d) bs

-- a column is the module's or on the stack
abbrev has : List ℕ → ℕ → Bool
has bs d = (d == 0) || among d bs

-- ---- a stack falls from the innermost

abbrev Falls : List ℕ → Type 0
Falls [] = Unit {0}
Falls (b ∷ bs) = (innermost bs < b) × Falls bs

among_most : (bs : List ℕ) (d : ℕ) → Falls bs → among d bs ≡ true → d ≤ innermost bs
among_most [] d f e = absurd (both_ways _ refl e)
among_most (b ∷ bs) d f e = elim (or_cases (b == d) (among d bs) e) [
  | inl h ↦ let s = eqb-true b d h in omega arith
  | inr h ↦ let m = among_most bs d f.1 h in omega (arith, f.0)
]

has_most : (bs : List ℕ) (d : ℕ) → Falls bs → has bs d ≡ true → d ≤ innermost bs
has_most bs d f e = elim (or_cases (d == 0) (among d bs) e) [
  | inl h ↦ let s = eqb-true d 0 h in omega arith
  | inr h ↦ among_most bs d f h
]

has_innermost : (bs : List ℕ) → has bs (innermost bs) ≡ true
has_innermost [] = refl
has_innermost (b ∷ bs) = or_right (b == 0) (among b (b ∷ bs)) (or_left (b == b) (among b bs) (eq-eqb b b refl))

dedent-falls : (bs : List ℕ) (c : ℕ) → Falls bs → Falls (dedent bs c)
dedent-falls [] c f = tt
dedent-falls (b ∷ bs) c f = cond_both (nat_lt c b) (dedent bs c) (b ∷ bs) Falls (λ e. dedent-falls bs c f.1) (λ e. f)

dedent-left : (bs : List ℕ) (c : ℕ) → innermost (dedent bs c) ≤ c
dedent-left [] c = omega arith
dedent-left (b ∷ bs) c = cond_both (nat_lt c b) (dedent bs c) (b ∷ bs) (λ x. innermost x ≤ c) (λ e. dedent-left bs c) (λ e. ltb-false c b e)

dedent-kept : (bs : List ℕ) (c d : ℕ) → among d (dedent bs c) ≡ true → among d bs ≡ true
dedent-kept [] c d e = e
dedent-kept (b ∷ bs) c d e = elim (cases_Bool (nat_lt c b)) [
  | inl t ↦ or_right (b == d) (among d bs) (dedent-kept bs c d (subst (λ (x : List ℕ). among d x ≡ true) (cond-true (nat_lt c b) (dedent bs c) (b ∷ bs) t) e))
  | inr t ↦ subst (λ (x : List ℕ). among d x ≡ true) (cond-false (nat_lt c b) (dedent bs c) (b ∷ bs) t) e
]

dedent-keeps : (bs : List ℕ) (c d : ℕ) → d ≤ c → among d bs ≡ true → among d (dedent bs c) ≡ true
dedent-keeps [] c d l e = e
dedent-keeps (b ∷ bs) c d l e = elim (cases_Bool (nat_lt c b)) [
  | inl t ↦ subst (λ (x : List ℕ). among d x ≡ true) (sym (cond-true (nat_lt c b) (dedent bs c) (b ∷ bs) t)) (dedent-keeps bs c d l (behind (or_cases (b == d) (among d bs) e) t))
  | inr t ↦ subst (λ (x : List ℕ). among d x ≡ true) (sym (cond-false (nat_lt c b) (dedent bs c) (b ∷ bs) t)) e
]
  where
    behind : (((b == d) ≡ true) ⊎ (among d bs ≡ true)) → nat_lt c b ≡ true → among d bs ≡ true
    behind (inl h) t = let s = eqb-true b d h in let r = ltb-true c b t in absurd (omega arith)
    behind (inr h) t = h

-- ---- the stack behind lines

abbrev stack : List ℕ → List ℕ
stack [] = []
stack (c ∷ before) = blocks_after (stack before) c

-- what is so of each that blocks_after may be
next : (P : List ℕ → Type 0) (bs : List ℕ) (c : ℕ) → (c < innermost bs → P (dedent bs c)) → (innermost bs < c → P (c ∷ bs)) → (innermost bs ≡ c → P bs) → P (blocks_after bs c)
next P bs c left right at =
    cond_both (nat_lt c (innermost bs)) (dedent bs c) (cond (nat_lt (innermost bs) c) (c ∷ bs) bs) P (λ e. left (ltb-true c (innermost bs) e))
    (λ e. cond_both (nat_lt (innermost bs) c) (c ∷ bs) bs P (λ g. right (ltb-true (innermost bs) c g)) (λ g. at (let a = ltb-false c (innermost bs) e in let b = ltb-false (innermost bs) c g in omega arith)))

after-falls : (bs : List ℕ) (c : ℕ) → Falls bs → Falls (blocks_after bs c)
after-falls bs c f = next Falls bs c (λ l. dedent-falls bs c f) (λ r. (r, f)) (λ e. f)

after-left : (bs : List ℕ) (c : ℕ) → innermost (blocks_after bs c) ≤ c
after-left bs c = next (λ (x : List ℕ). innermost x ≤ c) bs c (λ l. dedent-left bs c) (λ r. omega arith) (λ e. omega arith)

has-kept : (bs : List ℕ) (c d : ℕ) → has (dedent bs c) d ≡ true → has bs d ≡ true
has-kept bs c d e = elim (or_cases (d == 0) (among d (dedent bs c)) e) [
  | inl h ↦ or_left (d == 0) (among d bs) h
  | inr h ↦ or_right (d == 0) (among d bs) (dedent-kept bs c d h)
]

has-keeps : (bs : List ℕ) (c d : ℕ) → d ≤ c → has bs d ≡ true → has (dedent bs c) d ≡ true
has-keeps bs c d l e = elim (or_cases (d == 0) (among d bs) e) [
  | inl h ↦ or_left (d == 0) (among d (dedent bs c)) h
  | inr h ↦ or_right (d == 0) (among d (dedent bs c)) (dedent-keeps bs c d l h)
]

has-pushed : (bs : List ℕ) (c d : ℕ) → has (c ∷ bs) d ≡ true → (has bs d ≡ true) ⊎ (c ≡ d)
has-pushed bs c d e = elim (or_cases (d == 0) (among d (c ∷ bs)) e) [
  | inl h ↦ inl (or_left (d == 0) (among d bs) h)
  | inr h ↦ elim (or_cases (c == d) (among d bs) h) [
    | inl k ↦ inr (eqb-true c d k)
    | inr k ↦ inl (or_right (d == 0) (among d bs) k)
  ]
]

has-push : (bs : List ℕ) (c d : ℕ) → has bs d ≡ true → has (c ∷ bs) d ≡ true
has-push bs c d e = elim (or_cases (d == 0) (among d bs) e) [
  | inl h ↦ or_left (d == 0) (among d (c ∷ bs)) h
  | inr h ↦ or_right (d == 0) (among d (c ∷ bs)) (or_right (c == d) (among d bs) h)
]

-- a column behind the line was there before, or is the line's
record Had (bs : List ℕ) (c d : ℕ) : Type 0 where
  before : (has bs d ≡ true) ⊎ ((c ≡ d) × (innermost bs ≤ c))

pushed-had : (bs : List ℕ) (c d : ℕ) → innermost bs < c → (has bs d ≡ true) ⊎ (c ≡ d) → Had bs c d
pushed-had bs c d r (inl h) = record { before = inl h }
pushed-had bs c d r (inr h) = record { before = inr (h, omega arith) }

after-has : (bs : List ℕ) (c d : ℕ) → has (blocks_after bs c) d ≡ true → Had bs c d
after-has bs c d =
    next (λ (x : List ℕ). has x d ≡ true → Had bs c d) bs c (λ l e. record { before = inl (has-kept bs c d e) }) (λ r e. pushed-had bs c d r (has-pushed bs c d e)) (λ s e. record { before = inl e })

after-keeps : (bs : List ℕ) (c d : ℕ) → d ≤ c → has bs d ≡ true → has (blocks_after bs c) d ≡ true
after-keeps bs c d l e = next (λ (x : List ℕ). has x d ≡ true) bs c (λ h. has-keeps bs c d l e) (λ r. has-push bs c d e) (λ s. e)

after-column : (bs : List ℕ) (c : ℕ) → innermost bs ≤ c → has (blocks_after bs c) c ≡ true
after-column bs c l =
    next (λ (x : List ℕ). has x c ≡ true) bs c (λ h. absurd (omega arith)) (λ r. or_right (c == 0) (among c (c ∷ bs)) (or_left (c == c) (among c bs) (eq-eqb c c refl)))
    (λ e. subst (λ (k : ℕ). has bs k ≡ true) e (has_innermost bs))

falls : (before : List ℕ) → Falls (stack before)
falls [] = tt
falls (c ∷ before) = after-falls (stack before) c (falls before)

-- each column on the stack is that of a line
pushed-comes : (before bs : List ℕ) (c d : ℕ) → (among d bs ≡ true → among d before ≡ true) → among d (c ∷ bs) ≡ true → among d (c ∷ before) ≡ true
pushed-comes before bs c d more e = elim (or_cases (c == d) (among d bs) e) [
  | inl h ↦ or_left (c == d) (among d before) h
  | inr h ↦ or_right (c == d) (among d before) (more h)
]

comes : (before : List ℕ) (d : ℕ) → among d (stack before) ≡ true → among d before ≡ true
comes [] d e = e
comes (c ∷ before) d e =
    let more = comes before d in
    next (λ (x : List ℕ). among d x ≡ true → among d (c ∷ before) ≡ true) (stack before) c (λ l h. or_right (c == d) (among d before) (more (dedent-kept (stack before) c d h))) (λ r. pushed-comes before (stack before) c d more) (λ s h. or_right (c == d) (among d before) (more h)) e

-- ---- what is to the right

any_at : (p : ℕ → Bool) (xs : List ℕ) (d : ℕ) → among d xs ≡ true → p d ≡ true → list_any p xs ≡ true
any_at p [] d e h = absurd (both_ways _ refl e)
any_at p (x ∷ xs) d e h = elim (or_cases (x == d) (among d xs) e) [
  | inl s ↦ or_left (p x) (list_any p xs) (subst (λ (k : ℕ). p k ≡ true) (sym (eqb-true x d s)) h)
  | inr s ↦ or_right (p x) (list_any p xs) (any_at p xs d s h)
]

any_none : (p : ℕ → Bool) (xs : List ℕ) → ((c : ℕ) → p c ≡ false) → list_any p xs ≡ false
any_none p [] h = refl
any_none p (x ∷ xs) h = or_from (p x) (list_any p xs) (h x) (any_none p xs h)

innermost-among : (bs : List ℕ) (column : ℕ) → column < innermost bs → among (innermost bs) bs ≡ true
innermost-among [] column h = absurd (omega arith)
innermost-among (b ∷ bs) column h = or_left (b == b) (among b bs) (eq-eqb b b refl)

none-right : (bs : List ℕ) (column c : ℕ) (b : Bool) → Falls bs → b ≡ has bs c → innermost bs ≤ column → (nat_lt column c ≡ true) × (b ≡ true) → ⊥
none-right bs column c b f same h p =
    let l = ltb-true column c p.0 in
    let m = has_most bs c f (sym same ∙ p.1) in
    omega arith

right : (before : List ℕ) (open_at : ℕ → Bool) (column : ℕ) → ((d : ℕ) → open_at d ≡ has (stack before) d) → is_some_right open_at before column ≡ nat_lt column (innermost (stack before))
right before open_at column opened = elim (cases_lt column (innermost (stack before))) [
  | inl h ↦
      any_at (λ c. nat_lt column c && open_at c) before (innermost (stack before)) (comes before (innermost (stack before)) (innermost-among (stack before) column h))
      (and_from (nat_lt column (innermost (stack before))) (open_at (innermost (stack before))) (lt-ltb column (innermost (stack before)) h) (opened (innermost (stack before)) ∙ has_innermost (stack before)))
      ∙ sym (lt-ltb column (innermost (stack before)) h)
  | inr h ↦
      any_none (λ c. nat_lt column c && open_at c) before (λ c. false_from_ne_true (nat_lt column c && open_at c) (λ e. none-right (stack before) column c (open_at c) (falls before) (opened c) h (and_parts (nat_lt column c) (open_at c) e)))
      ∙ sym (le-ltb column (innermost (stack before)) h)
]

-- ---- the columns that are open

not_true : (b : Bool) → b ≡ false → not b ≡ true
not_true true e = absurd (both_ways _ e refl)
not_true false e = refl

true_not : (b : Bool) → not b ≡ true → b ≡ false
true_not true e = absurd (both_ways _ refl e)
true_not false e = refl

plain : (b : Bool) → b ≡ (b || false)
plain true = refl
plain false = refl

-- a line at the column opens a block at it
abbrev begins : List ℕ → ℕ → ℕ → Bool
begins before c d = (d == c) && not (is_some_right (is_open before) before c)

opened-has : (before : List ℕ) (c d : ℕ) → ((k : ℕ) → is_open before k ≡ has (stack before) k) → is_open (c ∷ before) d ≡ true → has (blocks_after (stack before) c) d ≡ true
opened-has before c d opened e =
    let p = and_parts (nat_le d c) (is_open before d || (begins before c d)) e in
    elim (or_cases (is_open before d) (begins before c d) p.1) [
      | inl h ↦ after-keeps (stack before) c d (leb-true d c p.0) (sym (opened d) ∙ h)
      | inr h ↦
          let q = and_parts (d == c) (not (is_some_right (is_open before) before c)) h in
          let l = ltb-false c (innermost (stack before)) (sym (right before (is_open before) c opened) ∙ true_not (is_some_right (is_open before) before c) q.1) in
          subst (λ (k : ℕ). has (blocks_after (stack before) c) k ≡ true) (sym (eqb-true d c q.0)) (after-column (stack before) c l)
    ]

had-opened : (before : List ℕ) (c d : ℕ) → ((k : ℕ) → is_open before k ≡ has (stack before) k) → d ≤ c → (has (stack before) d ≡ true) ⊎ ((c ≡ d) × (innermost (stack before) ≤ c)) → is_open (c ∷ before) d ≡ true
had-opened before c d opened l (inl h) = and_from (nat_le d c) (is_open before d || begins before c d) (le-leb d c l) (or_left (is_open before d) (begins before c d) (opened d ∙ h))
had-opened before c d opened l (inr h) =
    and_from (nat_le d c) (is_open before d || begins before c d) (le-leb d c l)
    (or_right (is_open before d) (begins before c d) (and_from (d == c) (not (is_some_right (is_open before) before c)) (eq-eqb d c (sym h.0)) (not_true (is_some_right (is_open before) before c) (right before (is_open before) c opened ∙ le-ltb c (innermost (stack before)) h.1))))

opens : (before : List ℕ) (d : ℕ) → is_open before d ≡ has (stack before) d
opens [] d = plain (d == 0)
opens (c ∷ before) d =
    let opened = opens before in
    same_test (is_open (c ∷ before) d) (has (blocks_after (stack before) c) d) (opened-has before c d opened)
    (λ e.
    let most = has_most (blocks_after (stack before) c) d (after-falls (stack before) c (falls before)) e in
    let left = after-left (stack before) c in
    had-opened before c d opened (omega arith) (after-has (stack before) c d e).before)

-- ---- how many are open

none_more : (x y n : ℕ) → x ≡ 0 → y ≡ n → x + y ≡ n
none_more x y n a b = omega arith

one_more : (x y n : ℕ) → x ≡ 1 → y ≡ n → x + y ≡ suc n
one_more x y n a b = omega arith

count_stack : (n : ℕ) (bs : List ℕ) (open_at : ℕ → Bool) → Falls bs → innermost bs ≤ n → ((d : ℕ) → 0 < d → d ≤ n → open_at d ≡ among d bs) → count_open open_at n ≡ length bs
count_stack zero [] open_at f l same = refl
count_stack zero (b ∷ bs) open_at f l same = absurd (let z = f.0 in omega arith)
count_stack (suc n) [] open_at f l same =
    none_more (cond (open_at (suc n)) 1 0) (count_open open_at n) 0 (cond-false (open_at (suc n)) 1 0 (same (suc n) (omega arith) (omega arith)))
    (count_stack n [] open_at f (omega arith) (λ d z m. same d z (omega arith)))
count_stack (suc n) (b ∷ bs) open_at f l same = elim (cases_lt b (suc n)) [
  | inl h ↦
      none_more (cond (open_at (suc n)) 1 0) (count_open open_at n) (length (b ∷ bs))
      (cond-false (open_at (suc n)) 1 0 (same (suc n) (omega arith) (omega arith) ∙ false_from_ne_true (among (suc n) (b ∷ bs)) (λ e. let m = among_most (b ∷ bs) (suc n) f e in omega arith)))
      (count_stack n (b ∷ bs) open_at f (omega arith) (λ d z m. same d z (omega arith)))
  | inr h ↦
      one_more (cond (open_at (suc n)) 1 0) (count_open open_at n) (length bs)
      (cond-true (open_at (suc n)) 1 0 (same (suc n) (omega arith) (omega arith) ∙ or_left (b == suc n) (among (suc n) bs) (eq-eqb b (suc n) (omega arith))))
      (count_stack n bs open_at f.1 (let z = f.0 in omega arith) (λ d z m. same d z (omega arith) ∙ ap (λ (x : Bool). x || among d bs) (ne_eqb b d (λ s. absurd (omega arith)))))
]

counted : (before : List ℕ) (c : ℕ) → count_open (is_open (c ∷ before)) c ≡ length (blocks_after (stack before) c)
counted before c =
    count_stack c (blocks_after (stack before) c) (is_open (c ∷ before)) (after-falls (stack before) c (falls before)) (after-left (stack before) c)
    (λ d z m. opens (c ∷ before) d ∙ ap (λ (x : Bool). x || among d (blocks_after (stack before) c)) (ne_eqb d 0 (λ s. absurd (omega arith))))

-- ---- the faults

closes : (bs : List ℕ) (c : ℕ) (b : Bool) → Falls bs → b ≡ has bs c → not b ≡ nat_lt (innermost (dedent bs c)) c
closes bs c b f same = same_test (not b) (nat_lt (innermost (dedent bs c)) c)
    (λ e. elim (cases_lt (innermost (dedent bs c)) c) [
      | inl h ↦ lt-ltb (innermost (dedent bs c)) c h
      | inr h ↦
          let left = dedent-left bs c in
          let at : innermost (dedent bs c) ≡ c = omega arith in
          absurd (both_ways b (true_not b e) (same ∙ has-kept bs c c (subst (λ (k : ℕ). has (dedent bs c) k ≡ true) at (has_innermost (dedent bs c)))))
    ])
    (λ e. not_true b (false_from_ne_true b (λ h.
    let most = has_most (dedent bs c) c (dedent-falls bs c f) (has-keeps bs c c (omega arith) (sym same ∙ h)) in
    let l = ltb-true (innermost (dedent bs c)) c e in
    omega arith)))

fault_same : (before : List ℕ) (c : ℕ) → block_fault before c ≡ stack_fault (stack before) c
unfolding block_fault
fault_same before c =
    let a = right before (is_open before) c (opens before) in
    let b = closes (stack before) c (is_open before c) (falls before) (opens before c) in
    let n = counted before c in
    λ i. cond (a i && b i) (Some BadDedent) (cond (nat_lt 64 (n i)) (Some NestingLimit) None)

marks : (before : List ℕ) (lines : List LogicalLine) → mark before lines ≡ mark_in (stack before) lines
marks before [] = refl
marks before (line ∷ lines) = let f = fault_same before line.column in let m = marks (line.column ∷ before) lines in λ i. blamed line (f i) ∷ m i

-- the lines with their faults, by columns and by the stack
pub mark_same : (lines : List LogicalLine) → mark_in [] lines ≡ mark [] lines
mark_same lines = sym (marks [] lines)
