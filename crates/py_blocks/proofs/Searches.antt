-- What a search through a range finds: of a test that one number passes at most, and through what a filter keeps.
use Rattle.std.proofs.Common.{◌≡◌, ℕ, zero, suc, ◌+◌, ◌==◌, ◌<◌, ◌≤◌, nat_lt, Bool, true, false, not, ◌&&◌, ◌||◌, Option, Some, None, List, [], ◌∷◌, refl, sym, ◌∙◌, ap, arith, cond, fold}
use Rattle.std.specs.List.{find, list_any, list_all, filter, range_with_len}
use Rattle.std.proofs.lemmas.Bool.{lt-ltb, le-ltb, ltb-true, ltb-false, eqb-true, eq-eqb}
use Rattle.std.proofs.lemmas.List.Folds.{list_any-append}
use Rattle.py_blocks.specs.Search.{some_below, each_below}
use Rattle.py_blocks.specs.Innermost.{has_one}
use Rattle.py_blocks.proofs.OpenBlocks.{and-true, and-false, range-more}

-- ---- a search through what a filter keeps

pub find-through : (e t f : ℕ → Bool) (xs : List ℕ) → ((x : ℕ) → f x ≡ (t x && e x)) → find f xs ≡ find t (filter e xs)
find-through e t f [] h = refl
find-through e t f (x ∷ xs) h = go (e x) refl (find-through e t f xs h)
  where
    go : (b : Bool) → e x ≡ b → find f xs ≡ find t (filter e xs) → find f (x ∷ xs) ≡ find t (filter e (x ∷ xs))
    go true i k = rw (h x, i, and-true (t x), k) refl
    go false i k = rw (h x, i, and-false (t x), k) refl

-- ---- a test that one number passes at most

abbrev pub IsOne : (ℕ → Bool) → Type 0
IsOne e = (a b : ℕ) → e a ≡ true → e b ≡ true → a ≡ b

pub others-none : (e f : ℕ → Bool) (k : ℕ) → IsOne e → e k ≡ true → f k ≡ false → (xs : List ℕ) → list_any (λ p. e p && f p) xs ≡ false
others-none e f k one h g [] = refl
others-none e f k one h g (x ∷ xs) = go (e x) refl (others-none e f k one h g xs)
  where
    go : (b : Bool) → e x ≡ b → list_any (λ p. e p && f p) xs ≡ false → list_any (λ p. e p && f p) (x ∷ xs) ≡ false
    go true i r = let s : f x ≡ false = ap f (one x k i h) ∙ g in rw (i, s, r) refl
    go false i r = rw (i, r) refl

find-passes : (e : ℕ → Bool) (xs : List ℕ) (k : ℕ) → find e xs ≡ Some k → e k ≡ true
find-passes e [] k h = cc
find-passes e (x ∷ xs) k h = go (e x) refl (find-passes e xs k)
  where
    go : (b : Bool) → e x ≡ b → (find e xs ≡ Some k → e k ≡ true) → e k ≡ true
    go true i r = let s : Some x ≡ Some k = rw i at h in let t : x ≡ k = cc in ap e (sym t) ∙ i
    go false i r = r (rw i at h)

find-none : (e : ℕ → Bool) (a n : ℕ) → find e (range_with_len a n) ≡ None → (m : ℕ) → a ≤ m → m < a + n → e m ≡ false
find-none e a zero h m l r = absurd (omega arith)
find-none e a (suc n) h m l r = go (e a) refl (nat_lt a m) refl (λ k more. find-none e (a + 1) n k m more (omega arith))
  where
    go : (b : Bool) → e a ≡ b → (c : Bool) → nat_lt a m ≡ c → (find e (range_with_len (a + 1) n) ≡ None → a + 1 ≤ m → e m ≡ false) → e m ≡ false
    go true i c s k = let t : Some a ≡ None = rw i at h in cc
    go false i true s k = k (rw i at h) (omega (arith, ltb-true a m s))
    go false i false s k = let same : m ≡ a = omega (arith, ltb-false a m s) in ap e same ∙ i

-- it is that number
pub only-found : (e : ℕ → Bool) (n : ℕ) → IsOne e → ((a : ℕ) → e a ≡ true → a < n) → (m : ℕ) → has_one (λ k. k == m) (find e (range_with_len 0 n)) ≡ e m
only-found e n one below m = go (find e (range_with_len 0 n)) refl (e m) refl
  where
    go : (o : Option ℕ) → find e (range_with_len 0 n) ≡ o → (b : Bool) → e m ≡ b → has_one (λ k. k == m) (find e (range_with_len 0 n)) ≡ e m
    go (Some k) h true j = rw (h, j) (eq-eqb k m (one k m (find-passes e (range_with_len 0 n) k h) j))
    go (Some k) h false j = rw (h, j) (other (k == m) refl)
      where
        other : (b : Bool) → (k == m) ≡ b → (k == m) ≡ false
        other true s = let t : e m ≡ true = ap e (sym (eqb-true k m s)) ∙ find-passes e (range_with_len 0 n) k h in cc
        other false s = s
    go None h true j = let s : e m ≡ false = find-none e 0 n h m (omega arith) (omega (arith, below m j)) in cc
    go None h false j = rw (h, j) refl

-- ---- one more number

or-false : (b : Bool) → (b || false) ≡ b
or-false true = refl
or-false false = refl

or-true : (b : Bool) → (b || true) ≡ true
or-true true = refl
or-true false = refl

pub some-more : (p : ℕ → Bool) (n : ℕ) → some_below (n + 1) p ≡ (some_below n p || p n)
some-more p n = ap (list_any p) (range-more n) ∙ (list_any-append p (range_with_len 0 n) (n ∷ []) ∙ ap (λ b. some_below n p || b) (or-false (p n)))

pub any-same : (f g : ℕ → Bool) (xs : List ℕ) → ((x : ℕ) → f x ≡ g x) → list_any f xs ≡ list_any g xs
any-same f g [] h = refl
any-same f g (x ∷ xs) h = rw (h x, any-same f g xs h) refl

-- a test that all pass is passed by each
each-from : (p : ℕ → Bool) (a n : ℕ) → list_all p (range_with_len a n) ≡ true → (k : ℕ) → a ≤ k → k < a + n → p k ≡ true
each-from p a zero h k l r = absurd (omega arith)
each-from p a (suc n) h k l r = go (p a) refl (nat_lt a k) refl (λ g more. each-from p (a + 1) n g k more (omega arith))
  where
    go : (b : Bool) → p a ≡ b → (c : Bool) → nat_lt a k ≡ c → (list_all p (range_with_len (a + 1) n) ≡ true → a + 1 ≤ k → p k ≡ true) → p k ≡ true
    go true i true s g = g (rw i at h) (omega (arith, ltb-true a k s))
    go true i false s g = let same : k ≡ a = omega (arith, ltb-false a k s) in ap p same ∙ i
    go false i c s g = let t : false ≡ true = rw i at h in cc

pub each-at : (p : ℕ → Bool) (n : ℕ) → each_below n p ≡ true → (k : ℕ) → k < n → p k ≡ true
each-at p n h k l = each-from p 0 n h k (omega arith) (omega arith)

-- a number that passes is found
some-from : (p : ℕ → Bool) (a n : ℕ) (k : ℕ) → a ≤ k → k < a + n → p k ≡ true → list_any p (range_with_len a n) ≡ true
some-from p a zero k l r h = absurd (omega arith)
some-from p a (suc n) k l r h = go (p a) refl (nat_lt a k) refl (λ more. some-from p (a + 1) n k more (omega arith) h)
  where
    go : (b : Bool) → p a ≡ b → (c : Bool) → nat_lt a k ≡ c → (a + 1 ≤ k → list_any p (range_with_len (a + 1) n) ≡ true) → list_any p (range_with_len a (suc n)) ≡ true
    go true i c s g = rw i refl
    go false i true s g = rw i (g (omega (arith, ltb-true a k s)))
    go false i false s g = let same : k ≡ a = omega (arith, ltb-false a k s) in let t : false ≡ true = sym i ∙ (ap p (sym same) ∙ h) in cc

pub some-at : (p : ℕ → Bool) (n k : ℕ) → k < n → p k ≡ true → some_below n p ≡ true
some-at p n k l h = some-from p 0 n k (omega arith) (omega arith) h

-- ---- the last of ascending numbers

any-range : (f g e : ℕ → Bool) (a n : ℕ) → ((k : ℕ) → a ≤ k → f k ≡ g k) → list_any f (filter e (range_with_len a n)) ≡ list_any g (filter e (range_with_len a n))
any-range f g e a zero h = refl
any-range f g e a (suc n) h = go (e a) refl (any-range f g e (a + 1) n (λ k l. h k (omega arith)))
  where
    go : (b : Bool) → e a ≡ b → list_any f (filter e (range_with_len (a + 1) n)) ≡ list_any g (filter e (range_with_len (a + 1) n)) → list_any f (filter e (range_with_len a (suc n))) ≡ list_any g (filter e (range_with_len a (suc n)))
    go true i r = rw (i, h a (omega arith), r) refl
    go false i r = rw (i, r) refl

find-range : (f g e : ℕ → Bool) (a n : ℕ) → ((k : ℕ) → a ≤ k → f k ≡ g k) → find f (filter e (range_with_len a n)) ≡ find g (filter e (range_with_len a n))
find-range f g e a zero h = refl
find-range f g e a (suc n) h = go (e a) refl (find-range f g e (a + 1) n (λ k l. h k (omega arith)))
  where
    go : (b : Bool) → e a ≡ b → find f (filter e (range_with_len (a + 1) n)) ≡ find g (filter e (range_with_len (a + 1) n)) → find f (filter e (range_with_len a (suc n))) ≡ find g (filter e (range_with_len a (suc n)))
    go true i r = rw (i, h a (omega arith), r) refl
    go false i r = rw (i, r) refl

-- the last that passes, or else this
abbrev pub last_or_else : (ℕ → Bool) → Option ℕ → List ℕ → Option ℕ
last_or_else s o xs = fold (λ o j. cond (s j) (Some j) o) o xs

abbrev pub no_later : (ℕ → Bool) → List ℕ → ℕ → Bool
no_later s xs d = s d && not (list_any (λ k. nat_lt d k && s k) xs)

-- with some later number that passes, nothing else counts
last-any : (s : ℕ → Bool) (xs : List ℕ) (o : Option ℕ) → last_or_else s o xs ≡ cond (list_any s xs) (last_or_else s None xs) o
last-any s [] o = refl
last-any s (x ∷ xs) o = go (s x) refl (last-any s xs (cond (s x) (Some x) o)) (last-any s xs (cond (s x) (Some x) None))
  where
    go : (b : Bool) → s x ≡ b → last_or_else s (cond (s x) (Some x) o) xs ≡ cond (list_any s xs) (last_or_else s None xs) (cond (s x) (Some x) o) → last_or_else s (cond (s x) (Some x) None) xs ≡ cond (list_any s xs) (last_or_else s None xs) (cond (s x) (Some x) None) → last_or_else s o (x ∷ xs) ≡ cond (list_any s (x ∷ xs)) (last_or_else s None (x ∷ xs)) o
    go true i r t = rw i refl
    go false i r t = let r2 : last_or_else s o xs ≡ cond (list_any s xs) (last_or_else s None xs) o = rw i at r in rw i r2

pub last-found : (s e : ℕ → Bool) (a n : ℕ) → find (no_later s (filter e (range_with_len a n))) (filter e (range_with_len a n)) ≡ last_or_else s None (filter e (range_with_len a n))
last-found s e a zero = refl
last-found s e a (suc n) = go (e a) refl (last-found s e (a + 1) n)
  where
    go : (b : Bool) → e a ≡ b → find (no_later s (filter e (range_with_len (a + 1) n))) (filter e (range_with_len (a + 1) n)) ≡ last_or_else s None (filter e (range_with_len (a + 1) n)) → find (no_later s (filter e (range_with_len a (suc n)))) (filter e (range_with_len a (suc n))) ≡ last_or_else s None (filter e (range_with_len a (suc n)))
    go true i r =
        let ys : List ℕ = filter e (range_with_len (a + 1) n) in
        let self : nat_lt a a ≡ false = le-ltb a a (omega arith) in
        let later : list_any (λ k. nat_lt a k && s k) ys ≡ list_any s ys = any-range (λ k. nat_lt a k && s k) s e (a + 1) n (λ k l. ap (λ b. b && s k) (lt-ltb a k (omega arith))) in
        let rest : find (no_later s (a ∷ ys)) ys ≡ find (no_later s ys) ys = find-range (no_later s (a ∷ ys)) (no_later s ys) e (a + 1) n (λ k l. ap (λ b. s k && not ((b && s a) || list_any (λ j. nat_lt k j && s j) ys)) (le-ltb k a (omega arith))) in
        let mine : no_later s (a ∷ ys) a ≡ (s a && not (list_any s ys)) = ap (λ b. s a && not ((b && s a) || list_any (λ j. nat_lt a j && s j) ys)) self ∙ ap (λ b. s a && not b) later in
        let whole : find (no_later s (a ∷ ys)) (a ∷ ys) ≡ last_or_else s None (a ∷ ys) = ap (λ b. cond b (Some a) (find (no_later s (a ∷ ys)) ys)) mine ∙ (ap (λ o. cond (s a && not (list_any s ys)) (Some a) o) (rest ∙ r) ∙ join (s a) (list_any s ys) (last_or_else s None ys) refl (last-any s ys None) ∙ sym (last-any s ys (cond (s a) (Some a) None))) in
        rw i whole
      where
        join : (b c : Bool) (o : Option ℕ) → o ≡ o → o ≡ cond c o None → cond (b && not c) (Some a) o ≡ cond c o (cond b (Some a) None)
        join true true o h g = refl
        join true false o h g = refl
        join false true o h g = refl
        join false false o h g = g
    go false i r = rw (i, r) refl

any-less : (f s : ℕ → Bool) (xs : List ℕ) → list_any s xs ≡ false → list_any (λ k. f k && s k) xs ≡ false
any-less f s [] h = refl
any-less f s (x ∷ xs) h = go (s x) refl (any-less f s xs)
  where
    go : (b : Bool) → s x ≡ b → (list_any s xs ≡ false → list_any (λ k. f k && s k) xs ≡ false) → list_any (λ k. f k && s k) (x ∷ xs) ≡ false
    go true i r = let t : true ≡ false = rw i at h in cc
    go false i r = rw (i, r (rw i at h), and-false (f x)) refl

-- some later one that passes is there if the last that passes is later
pub any-last : (s e : ℕ → Bool) (d a n : ℕ) → list_any (λ k. nat_lt d k && s k) (filter e (range_with_len a n)) ≡ has_one (λ k. nat_lt d k) (last_or_else s None (filter e (range_with_len a n)))
any-last s e d a zero = refl
any-last s e d a (suc n) = go (e a) refl (any-last s e d (a + 1) n)
  where
    go : (b : Bool) → e a ≡ b → list_any (λ k. nat_lt d k && s k) (filter e (range_with_len (a + 1) n)) ≡ has_one (λ k. nat_lt d k) (last_or_else s None (filter e (range_with_len (a + 1) n))) → list_any (λ k. nat_lt d k && s k) (filter e (range_with_len a (suc n))) ≡ has_one (λ k. nat_lt d k) (last_or_else s None (filter e (range_with_len a (suc n))))
    go false i r = rw (i, r) refl
    go true i r = rw i (by (list_any s ys) refl (nat_lt d a) refl)
      where
        ys : List ℕ
        ys = filter e (range_with_len (a + 1) n)

        later : ℕ → Bool
        later k = nat_lt d k && s k

        here : Option ℕ
        here = cond (s a) (Some a) None

        one : (c : Bool) → s a ≡ c → (b : Bool) → nat_lt d a ≡ b → ((nat_lt d a && s a) || false) ≡ has_one (λ k. nat_lt d k) here
        one true j true l = rw (j, l) refl
        one true j false l = rw (j, l) refl
        one false j true l = rw (j, l) refl
        one false j false l = rw (j, l) refl

        by : (c : Bool) → list_any s ys ≡ c → (b : Bool) → nat_lt d a ≡ b → ((nat_lt d a && s a) || list_any later ys) ≡ has_one (λ k. nat_lt d k) (last_or_else s here ys)
        by true j true l =
            let all : list_any later ys ≡ list_any s ys = any-range later s e (a + 1) n (λ k m. ap (λ b. b && s k) (lt-ltb d k (omega (arith, m, ltb-true d a l)))) in
            let found : list_any later ys ≡ true = all ∙ j in
            ap (λ b. (nat_lt d a && s a) || b) found ∙ (or-true (nat_lt d a && s a) ∙ (sym found ∙ (r ∙ ap (has_one (λ k. nat_lt d k)) (sym (last-any s ys here ∙ ap (λ c. cond c (last_or_else s None ys) here) j)))))
        by true j false l = rw l (r ∙ ap (has_one (λ k. nat_lt d k)) (sym (last-any s ys here ∙ ap (λ c. cond c (last_or_else s None ys) here) j)))
        by false j b l =
            ap (λ x. (nat_lt d a && s a) || x) (any-less (λ k. nat_lt d k) s ys j)
            ∙ (one (s a) refl (nat_lt d a) refl ∙ ap (has_one (λ k. nat_lt d k)) (sym (last-any s ys here ∙ ap (λ c. cond c (last_or_else s None ys) here) j)))
