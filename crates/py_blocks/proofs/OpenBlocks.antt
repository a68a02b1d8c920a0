-- The open blocks at a line are all the lines in whose blocks it stands, and those at the next line follow from them.
use Rattle.std.proofs.Common.{◌≡◌, ℕ, zero, suc, ◌+◌, ◌<◌, ◌≤◌, nat_lt, nat_le, Bool, true, false, ◌&&◌, ◌||◌, List, [], ◌∷◌, ◌++◌, refl, sym, ◌∙◌, ap, arith}
use Rattle.std.specs.List.{list_any, list_all, filter, range_with_len}
use Rattle.std.proofs.lemmas.List.Elements.{filter-append}
use Rattle.std.proofs.lemmas.Bool.{lt-ltb, lt-leb, le-leb}
use Rattle.py_blocks.specs.declared.facts.LineFacts.{LineFacts}
use Rattle.py_blocks.specs.declared.sort.Sort.{Sort}
use Rattle.py_blocks.specs.Enclosing.{column_at, is_a, stays_right_of, encloses, encloses_as, lies_between}
use Rattle.py_blocks.specs.Search.{each_below}
use Rattle.py_blocks.specs.Innermost.{open_at}

-- ---- searches of the open blocks, which only proofs speak of

-- behind the line j an open block is of this sort
abbrev pub opens_inside : List LineFacts → Sort → List ℕ → ℕ → Bool
opens_inside lines s open_blocks j = list_any (λ k. nat_lt j k && is_a lines k s) open_blocks

-- ---- tests

pub and-true : (b : Bool) → (b && true) ≡ b
and-true true = refl
and-true false = refl

pub and-false : (b : Bool) → (b && false) ≡ false
and-false true = refl
and-false false = refl

pub and-assoc : (a b c : Bool) → (a && (b && c)) ≡ ((a && b) && c)
and-assoc true b c = refl
and-assoc false b c = refl

pub and-last : (a b c : Bool) → ((a && b) && c) ≡ ((a && c) && b)
and-last true true c = sym (and-true c)
and-last true false c = sym (and-false c)
and-last false b c = refl

pub and-turn : (a b c : Bool) → (a && (b && c)) ≡ ((c && b) && a)
and-turn true true true = refl
and-turn true true false = refl
and-turn true false true = refl
and-turn true false false = refl
and-turn false true true = refl
and-turn false true false = refl
and-turn false false true = refl
and-turn false false false = refl

-- ---- a search through what a filter keeps

pub any-through : (e t f : ℕ → Bool) (xs : List ℕ) → ((x : ℕ) → f x ≡ (t x && e x)) → list_any f xs ≡ list_any t (filter e xs)
any-through e t f [] h = refl
any-through e t f (x ∷ xs) h = go (e x) refl (any-through e t f xs h)
  where
    go : (b : Bool) → e x ≡ b → list_any f xs ≡ list_any t (filter e xs) → list_any f (x ∷ xs) ≡ list_any t (filter e (x ∷ xs))
    go true i k = rw (h x, i, and-true (t x), k) refl
    go false i k = rw (h x, i, and-false (t x), k) refl

-- ---- the rules by the open blocks

pub inside-open : (lines : List LineFacts) (s : Sort) (i j : ℕ) → lies_between lines s j i ≡ opens_inside lines s (open_at lines i) j
inside-open lines s i j =
    any-through (λ k. encloses lines k i) (λ k. nat_lt j k && is_a lines k s) (λ k. nat_lt j k && encloses_as lines s k i) (range_with_len 0 i) (λ k. and-assoc (nat_lt j k) (is_a lines k s) (encloses lines k i))

-- ---- from a line to the next

range-last : (a n : ℕ) → range_with_len a (suc n) ≡ range_with_len a n ++ (a + n) ∷ []
range-last a zero = let e : a + 0 ≡ a = omega arith in rw e refl
range-last a (suc n) =
    let e : (a + 1) + n ≡ a + suc n = omega arith in
    ap (λ xs. a ∷ xs) (range-last (a + 1) n ∙ ap (λ x. range_with_len (a + 1) n ++ x ∷ []) e)

pub range-more : (n : ℕ) → range_with_len 0 (n + 1) ≡ range_with_len 0 n ++ n ∷ []
range-more n =
    let e : n + 1 ≡ suc n = omega arith in
    let z : 0 + n ≡ n = omega arith in
    ap (λ m. range_with_len 0 m) e ∙ (range-last 0 n ∙ ap (λ x. range_with_len 0 n ++ x ∷ []) z)

pub filter-same : (f g : ℕ → Bool) (a n : ℕ) → ((k : ℕ) → k < a + n → f k ≡ g k) → filter f (range_with_len a n) ≡ filter g (range_with_len a n)
filter-same f g a zero h = refl
filter-same f g a (suc n) h =
    let here : f a ≡ g a = h a (omega arith) in
    let rest : filter f (range_with_len (a + 1) n) ≡ filter g (range_with_len (a + 1) n) = filter-same f g (a + 1) n (λ k lt. h k (omega arith)) in
    rw (here, rest) refl

pub filter-twice : (e c : ℕ → Bool) (xs : List ℕ) → filter c (filter e xs) ≡ filter (λ x. e x && c x) xs
filter-twice e c [] = refl
filter-twice e c (x ∷ xs) = go (e x) refl (filter-twice e c xs)
  where
    go : (b : Bool) → e x ≡ b → filter c (filter e xs) ≡ filter (λ y. e y && c y) xs → filter c (filter e (x ∷ xs)) ≡ filter (λ y. e y && c y) (x ∷ xs)
    go true i k = rw (i, k) refl
    go false i k = rw (i, k) refl

pub all-range : (p : ℕ → Bool) (a n : ℕ) → ((k : ℕ) → k < a + n → p k ≡ true) → list_all p (range_with_len a n) ≡ true
all-range p a zero h = refl
all-range p a (suc n) h =
    let here : p a ≡ true = h a (omega arith) in
    let rest : list_all p (range_with_len (a + 1) n) ≡ true = all-range p (a + 1) n (λ k lt. h k (omega arith)) in
    rw (here, rest) refl

pub all-last : (p : ℕ → Bool) (xs : List ℕ) (x : ℕ) → list_all p (xs ++ x ∷ []) ≡ (list_all p xs && p x)
all-last p [] x = and-true (p x)
all-last p (y ∷ xs) x = ap (λ b. p y && b) (all-last p xs x) ∙ and-assoc (p y) (list_all p xs) (p x)

pub false_le : (a b : ℕ) → b < a → nat_le a b ≡ false
false_le a b h = lt-leb a b h

pub true_le : (a b : ℕ) → a ≤ b → nat_le a b ≡ true
true_le a b h = le-leb a b h

pub one-same : (f g : ℕ → Bool) (x : ℕ) → f x ≡ g x → filter f (x ∷ []) ≡ filter g (x ∷ [])
one-same f g x h = rw h refl

-- the line directly before opens a block for a deeper one
last-encloses : (lines : List LineFacts) (i : ℕ) → encloses lines i (i + 1) ≡ nat_lt (column_at lines i) (column_at lines (i + 1))
last-encloses lines i =
    let lt : nat_lt i (i + 1) ≡ true = lt-ltb i (i + 1) (omega arith) in
    let le : nat_le (i + 1) i ≡ false = false_le (i + 1) i (omega arith) in
    let all : each_below (i + 1) (stays_right_of lines i) ≡ true = all-range (stays_right_of lines i) 0 (i + 1) (λ k h. ap (λ b. b || nat_lt (column_at lines i) (column_at lines k)) (true_le k i (omega arith))) in
    rw (lt, le, all) (and-true (nat_lt (column_at lines i) (column_at lines (i + 1))))

-- a line before that stays open if the next line is deeper than it
next-encloses : (lines : List LineFacts) (i j : ℕ) → j < i → encloses lines j (i + 1) ≡ (encloses lines j i && nat_lt (column_at lines j) (column_at lines (i + 1)))
next-encloses lines i j h =
    let lt : nat_lt j i ≡ true = lt-ltb j i h in
    let more : nat_lt j (i + 1) ≡ true = lt-ltb j (i + 1) (omega arith) in
    let le : nat_le (i + 1) j ≡ false = false_le (i + 1) j (omega arith) in
    let all : each_below (i + 1) (stays_right_of lines j) ≡ (each_below i (stays_right_of lines j) && stays_right_of lines j i) = ap (list_all (stays_right_of lines j)) (range-more i) ∙ all-last (stays_right_of lines j) (range_with_len 0 i) i in
    rw (lt, more, le, all) (and-turn (nat_lt (column_at lines j) (column_at lines (i + 1))) (each_below i (stays_right_of lines j)) (stays_right_of lines j i))

pub open-next : (lines : List LineFacts) (i : ℕ) → filter (λ j. nat_lt (column_at lines j) (column_at lines (i + 1))) (open_at lines i ++ i ∷ []) ≡ open_at lines (i + 1)
open-next lines i =
    let c : ℕ → Bool = λ j. nat_lt (column_at lines j) (column_at lines (i + 1)) in
    let e : ℕ → Bool = λ j. encloses lines j i in
    let n : ℕ → Bool = λ j. encloses lines j (i + 1) in
    let front : filter c (filter e (range_with_len 0 i)) ≡ filter n (range_with_len 0 i) = filter-twice e c (range_with_len 0 i) ∙ filter-same (λ x. e x && c x) n 0 i (λ k lt. sym (next-encloses lines i k (omega arith))) in
    let last : filter c (i ∷ []) ≡ filter n (i ∷ []) = one-same c n i (sym (last-encloses lines i)) in
    filter-append c (filter e (range_with_len 0 i)) (i ∷ []) ∙ (ap (λ xs. xs ++ filter c (i ∷ [])) front ∙ (ap (λ xs. filter n (range_with_len 0 i) ++ xs) last ∙ (sym (filter-append n (range_with_len 0 i) (i ∷ [])) ∙ ap (filter n) (sym (range-more i)))))
