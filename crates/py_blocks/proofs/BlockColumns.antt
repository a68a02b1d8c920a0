-- Columns of blocks and lines side by side, where a line becomes an error line.
use Rattle.std.proofs.Common.{◌≡◌, ℕ, ◌<◌, ◌≤◌, ◌⊎◌, inl, inr, nat_lt, Bool, true, false, ◌&&◌, List, [], ◌∷◌, refl, sym, ◌∙◌, ap, arith}
use Rattle.std.proofs.lemmas.Bool.{lt-ltb, le-ltb, le-leb, lt-leb, ltb-false, eq-eqb, ne_eqb, cases_lt, cases_order}
use Rattle.py_blocks.specs.declared.line.Line.{Line}
use Rattle.py_blocks.specs.Lines.{is_unread, opens_one, nearest, block_column, error_line, behind_error, counted, level_with, level_behind}

-- ---- the nearest line that isn't to the right

pub nearest-here : (y : Line) (ys : List Line) (w : ℕ) → y.column ≤ w → nearest (y ∷ ys) w ≡ block_column ys y
nearest-here y ys w h = rw (le-leb y.column w h) refl

pub nearest-past : (y : Line) (ys : List Line) (w : ℕ) → w < y.column → nearest (y ∷ ys) w ≡ nearest ys w
nearest-past y ys w h = rw (lt-leb y.column w h) refl

block-from : (before : List Line) (x : Line) → nearest before x.column ≤ x.column → block_column before x ≤ x.column
block-from before x h = go (opens_one before x) refl
  where
    go : (b : Bool) → opens_one before x ≡ b → block_column before x ≤ x.column
    go true e = rw e (omega arith)
    go false e = rw e h

pub nearest-low : (ys : List Line) (w : ℕ) → nearest ys w ≤ w
nearest-low [] w = omega arith
nearest-low (y ∷ ys) w = go (cases_lt w y.column) (nearest-low ys w) (nearest-low ys y.column)
  where
    go : ((w < y.column) ⊎ (y.column ≤ w)) → nearest ys w ≤ w → nearest ys y.column ≤ y.column → nearest (y ∷ ys) w ≤ w
    go (inl h) k own = rw (nearest-past y ys w h) k
    go (inr h) k own = let low = block-from ys y own in rw (nearest-here y ys w h) (omega arith)

-- the nearest for a column is that for each column between
pub nearest-between : (ys : List Line) (v w : ℕ) → nearest ys v ≤ w → w ≤ v → nearest ys w ≡ nearest ys v
nearest-between [] v w h k = refl
nearest-between (y ∷ ys) v w h k = go (cases_lt v y.column) (cases_lt w y.column) (opens_one ys y) refl (nearest-between ys v w) (nearest-between ys y.column w)
  where
    go : ((v < y.column) ⊎ (y.column ≤ v)) → ((w < y.column) ⊎ (y.column ≤ w)) → (o : Bool) → opens_one ys y ≡ o → (nearest ys v ≤ w → w ≤ v → nearest ys w ≡ nearest ys v) → (nearest ys y.column ≤ w → w ≤ y.column → nearest ys w ≡ nearest ys y.column) → nearest (y ∷ ys) w ≡ nearest (y ∷ ys) v
    go (inl b) q o e more own =
        let p : w < y.column = omega arith in
        nearest-past y ys w p ∙ more (rw (nearest-past y ys v b) at h) k ∙ sym (nearest-past y ys v b)
    go (inr b) (inr q) o e more own = nearest-here y ys w q ∙ sym (nearest-here y ys v b)
    go (inr b) (inl q) true e more own =
        let p : block_column ys y ≤ w = rw (nearest-here y ys v b) at h in
        let r : block_column ys y ≡ y.column = rw e refl in
        absurd (omega arith)
    go (inr b) (inl q) false e more own =
        let p : block_column ys y ≤ w = rw (nearest-here y ys v b) at h in
        let r : block_column ys y ≡ nearest ys y.column = rw e refl in
        nearest-past y ys w q ∙ own (omega arith) (omega arith) ∙ sym r ∙ sym (nearest-here y ys v b)

pub block-low : (before : List Line) (x : Line) → block_column before x ≤ x.column
block-low before x = block-from before x (nearest-low before x.column)

-- ---- a block that is open

-- a block of this column goes on behind these lines
abbrev pub Holds : List Line → ℕ → Type 0
Holds seen column = (w : ℕ) → column ≤ w → column ≤ nearest seen w

pub block-holds : (s : List Line) (x : Line) (c : ℕ) → Holds s c → c ≤ x.column → c ≤ block_column s x
block-holds s x c h le = go (opens_one s x) refl
  where
    go : (b : Bool) → opens_one s x ≡ b → c ≤ block_column s x
    go true e = rw e le
    go false e = rw e (h x.column le)

pub holds-start : (y : Line) (ys : List Line) (c : ℕ) → y.column ≡ c → block_column ys y ≡ c → Holds (y ∷ ys) c
holds-start y ys c e b = λ w h. let p : y.column ≤ w = omega arith in rw (nearest-here y ys w p) (omega arith)

pub holds-more : (z : Line) (s : List Line) (c : ℕ) → c ≤ z.column → Holds s c → Holds (z ∷ s) c
holds-more z s c le h = λ w k. go w k (cases_lt w z.column)
  where
    go : (w : ℕ) → c ≤ w → ((w < z.column) ⊎ (z.column ≤ w)) → c ≤ nearest (z ∷ s) w
    go w k (inl b) = rw (nearest-past z s w b) (h w k)
    go w k (inr b) = rw (nearest-here z s w b) (block-holds s z c h le)

-- ---- lists that say the same of what stands behind them

pub record Alike (s t : List Line) : Type 0 where
  pub opens : (x : Line) → opens_one s x ≡ opens_one t x
  pub near : (w : ℕ) → nearest s w ≡ nearest t w

pub alike-more : (z : Line) (s t : List Line) → block_column s z ≡ block_column t z → ((w : ℕ) → w < z.column → nearest s w ≡ nearest t w) → Alike (z ∷ s) (z ∷ t)
alike-more z s t same h = record { opens = λ x. refl; near = λ w. go w (cases_lt w z.column) }
  where
    go : (w : ℕ) → ((w < z.column) ⊎ (z.column ≤ w)) → nearest (z ∷ s) w ≡ nearest (z ∷ t) w
    go w (inl b) = nearest-past z s w b ∙ h w b ∙ sym (nearest-past z t w b)
    go w (inr b) = nearest-here z s w b ∙ same ∙ sym (nearest-here z t w b)

block-alike : (s t : List Line) (x : Line) → opens_one s x ≡ opens_one t x → nearest s x.column ≡ nearest t x.column → block_column s x ≡ block_column t x
block-alike s t x a b = rw (a, b) refl

counted-alike : (s t : List Line) (x : Line) → opens_one s x ≡ opens_one t x → nearest s x.column ≡ nearest t x.column → counted s x ≡ counted t x
counted-alike s t x a b = rw (a, b) refl

level-alike : (xs : List Line) (s t : List Line) (c : ℕ) → Alike s t → level_behind s c xs ≡ level_behind t c xs
level-alike [] s t c h = refl
level-alike (y ∷ ys) s t c h =
    let e = counted-alike s t y (h.opens y) (h.near y.column) in
    let z = counted t y in
    ap (λ u. level_with c u (level_behind (u ∷ s) c ys)) e
    ∙ ap (level_with c z) (level-alike ys (z ∷ s) (z ∷ t) c (alike-more z s t (block-alike s t z (h.opens z) (h.near z.column)) (λ w b. h.near w)))

-- ---- the lines that an error line takes in

pub counted-low : (s : List Line) (y : Line) → (counted s y).column ≤ y.column
counted-low s y = go (is_unread y.kind) refl
  where
    go : (b : Bool) → is_unread y.kind ≡ b → (counted s y).column ≤ y.column
    go true e = rw e (block-low s y)
    go false e = rw e (omega arith)

counted-holds : (s : List Line) (y : Line) (b : ℕ) → Holds s b → b ≤ y.column → b ≤ (counted s y).column
counted-holds s y b h le = go (is_unread y.kind) refl
  where
    go : (u : Bool) → is_unread y.kind ≡ u → b ≤ (counted s y).column
    go true e = rw e (block-holds s y b h le)
    go false e = rw e le

pub level-right : (c : ℕ) (z : Line) (more : List Line) → c < z.column → level_with c z more ≡ more
level-right c z more lt = let ne : z.column ≡ c → ⊥ = λ e. omega arith in rw (le-ltb z.column c (omega arith), ne_eqb z.column c ne) refl

pub level-here : (c : ℕ) (z : Line) (more : List Line) → z.column ≡ c → level_with c z more ≡ z ∷ more
level-here c z more e = rw (le-ltb z.column c (omega arith), eq-eqb z.column c e) refl

pub level-left : (c : ℕ) (z : Line) (more : List Line) → z.column < c → level_with c z more ≡ []
level-left c z more lt = rw (lt-ltb z.column c lt) refl

-- behind s, lines of this column or to its left open nothing
abbrev pub ClosedAt : List Line → ℕ → Type 0
ClosedAt s b = (x : Line) → x.column ≤ b → opens_one s x ≡ false

pub and-false : (a : Bool) → (a && false) ≡ false
and-false true = refl
and-false false = refl

pub closed-by : (z : Line) (s : List Line) (b : ℕ) → b ≤ z.column → ClosedAt (z ∷ s) b
closed-by z s b le = λ x k. rw (le-ltb z.column x.column (omega arith)) (and-false z.opens)

at-own : (s : List Line) (z : Line) (w : ℕ) → z.column ≡ w → w ≤ nearest s w → block_column s z ≡ nearest s w
at-own s z w e le = go (opens_one s z) refl (nearest-low s w)
  where
    go : (o : Bool) → opens_one s z ≡ o → nearest s w ≤ w → block_column s z ≡ nearest s w
    go true o low = let r : block_column s z ≡ z.column = rw o refl in omega arith
    go false o low = let r : block_column s z ≡ nearest s z.column = rw o refl in r ∙ ap (nearest s) e

near-by : (z : Line) (s t : List Line) (b : ℕ) → b ≤ z.column → Holds s b → ((w : ℕ) → w ≤ b → nearest s w ≡ nearest t w) → (w : ℕ) → w ≤ b → nearest (z ∷ s) w ≡ nearest t w
near-by z s t b le hs near w k = go (cases_lt w z.column)
  where
    go : ((w < z.column) ⊎ (z.column ≤ w)) → nearest (z ∷ s) w ≡ nearest t w
    go (inl l) = nearest-past z s w l ∙ near w k
    go (inr l) =
        let p : b ≤ nearest s w = hs w (omega arith) in
        nearest-here z s w l ∙ at-own s z w (omega arith) (omega arith) ∙ near w k

-- of the lines that are taken in by an error line to the right of c, none stands at c
level-taken : (xs : List Line) (s t : List Line) (c b : ℕ) → c < b → Holds s b → ClosedAt s b → ClosedAt t b → ((w : ℕ) → w ≤ b → nearest s w ≡ nearest t w) → level_behind s c xs ≡ level_behind t c (behind_error b xs)
level-taken [] s t c b lt hs cs ct near = refl
level-taken (y ∷ ys) s t c b lt hs cs ct near = go (cases_lt b y.column) (λ s2 h2 c2 n2. level-taken ys s2 t c b lt h2 c2 ct n2)
  where
    go : ((b < y.column) ⊎ (y.column ≤ b)) → ((s2 : List Line) → Holds s2 b → ClosedAt s2 b → ((w : ℕ) → w ≤ b → nearest s2 w ≡ nearest t w) → level_behind s2 c ys ≡ level_behind t c (behind_error b ys)) → level_behind s c (y ∷ ys) ≡ level_behind t c (behind_error b (y ∷ ys))
    go (inl k) more =
        let z = counted s y in
        let zb : b ≤ z.column = counted-holds s y b hs (omega arith) in
        let right = level-right c z (level_behind (z ∷ s) c ys) (omega arith) in
        right ∙ more (z ∷ s) (holds-more z s b zb hs) (closed-by z s b zb) (near-by z s t b zb hs near) ∙ rw (lt-ltb b y.column k) refl
    go (inr k) more =
        let e = counted-alike s t y (cs y k ∙ sym (ct y k)) (near y.column k) in
        let z = counted t y in
        let zb : z.column ≤ y.column = counted-low t y in
        let here = ap (λ u. level_with c u (level_behind (u ∷ s) c ys)) e ∙ ap (level_with c z) (level-alike ys (z ∷ s) (z ∷ t) c (alike-more z s t (block-alike s t z (cs z (omega arith) ∙ sym (ct z (omega arith))) (near z.column (omega arith))) (λ w l. near w (omega arith)))) in
        here ∙ rw (le-ltb b y.column k) refl

-- ---- an error line in the place of a line

pub opens-like : (before : List Line) (x y : Line) → y.column ≡ x.column → opens_one before y ≡ opens_one before x
opens-like [] x y e = refl
opens-like (z ∷ zs) x y e = ap (λ c. z.opens && nat_lt z.column c) e

error-opens : (before : List Line) (x : Line) → opens_one before x ≡ false → opens_one before (error_line before x) ≡ false
error-opens [] x h = refl
error-opens (y ∷ ys) x h = go y.opens refl (cases_lt y.column (nearest (y ∷ ys) x.column))
  where
    b : block_column (y ∷ ys) x ≡ nearest (y ∷ ys) x.column
    b = rw h refl

    go : (o : Bool) → y.opens ≡ o → ((y.column < nearest (y ∷ ys) x.column) ⊎ (nearest (y ∷ ys) x.column ≤ y.column)) → opens_one (y ∷ ys) (error_line (y ∷ ys) x) ≡ false
    go false e k = rw e refl
    go true e (inl k) =
        let p : nat_lt y.column x.column ≡ false = rw e at h in
        let q = ltb-false y.column x.column p in
        let low = nearest-low (y ∷ ys) x.column in
        absurd (omega arith)
    go true e (inr k) = rw (le-ltb y.column (block_column (y ∷ ys) x) (omega (arith, b))) (and-false y.opens)

-- an error line stands at the column of its block
pub error-aligned : (before : List Line) (x : Line) → block_column before (error_line before x) ≡ (error_line before x).column
error-aligned before x = go (opens_one before x) refl (opens_one before (error_line before x)) refl
  where
    go : (o : Bool) → opens_one before x ≡ o → (p : Bool) → opens_one before (error_line before x) ≡ p → block_column before (error_line before x) ≡ (error_line before x).column
    go o e true f = rw f refl
    go true e false f =
        let same : block_column before x ≡ x.column = rw e refl in
        let q = opens-like before x (error_line before x) same in
        let z : false ≡ true = sym f ∙ (q ∙ e) in
        cc
    go false e false f =
        let b : block_column before x ≡ nearest before x.column = rw e refl in
        let low = nearest-low before x.column in
        let l : block_column before (error_line before x) ≡ nearest before (block_column before x) = rw f refl in
        l ∙ ap (nearest before) b ∙ nearest-between before x.column (nearest before x.column) (omega arith) low ∙ sym b

-- behind a line and behind its error line the same stands that isn't to the right of the latter
near-error : (s : List Line) (x : Line) (w : ℕ) → w ≤ block_column s x → nearest (x ∷ s) w ≡ nearest (error_line s x ∷ s) w
near-error s x w k = go (cases_lt w (block_column s x)) (cases_lt w x.column) (opens_one s x) refl (block-low s x)
  where
    e : Line
    e = error_line s x

    go : ((w < block_column s x) ⊎ (block_column s x ≤ w)) → ((w < x.column) ⊎ (x.column ≤ w)) → (o : Bool) → opens_one s x ≡ o → block_column s x ≤ x.column → nearest (x ∷ s) w ≡ nearest (e ∷ s) w
    go (inl a) p o h low =
        let q : w < e.column = omega arith in
        let r : w < x.column = omega arith in
        nearest-past x s w r ∙ sym (nearest-past e s w q)
    go (inr a) (inr p) o h low =
        let q : e.column ≤ w = omega arith in
        nearest-here x s w p ∙ sym (error-aligned s x) ∙ sym (nearest-here e s w q)
    go (inr a) (inl p) true h low = let r : block_column s x ≡ x.column = rw h refl in absurd (omega arith)
    go (inr a) (inl p) false h low =
        let r : block_column s x ≡ nearest s x.column = rw h refl in
        let q : e.column ≤ w = omega arith in
        nearest-past x s w p ∙ nearest-between s x.column w (omega arith) (omega arith) ∙ sym r ∙ sym (error-aligned s x) ∙ sym (nearest-here e s w q)

error-holds : (s : List Line) (x : Line) (b : ℕ) → b ≡ block_column s x → Holds (x ∷ s) b
error-holds s x b e = λ w k. go w k (cases_lt w x.column) (opens_one s x) refl
  where
    go : (w : ℕ) → b ≤ w → ((w < x.column) ⊎ (x.column ≤ w)) → (o : Bool) → opens_one s x ≡ o → b ≤ nearest (x ∷ s) w
    go w k (inr a) o h = let l = block-low s x in rw (nearest-here x s w a) (omega arith)
    go w k (inl a) true h = let q : block_column s x ≡ x.column = rw h refl in absurd (omega arith)
    go w k (inl a) false h =
        let q : block_column s x ≡ nearest s x.column = rw h refl in
        let same = nearest-between s x.column w (omega arith) (omega arith) in
        rw (nearest-past x s w a) (omega arith)

-- to the right of c, by the line z as which the line counts
error-right : (s : List Line) (x z : Line) (xs : List Line) (c : ℕ) → c < block_column s x → counted s x ≡ z → block_column s x ≤ z.column → Holds (z ∷ s) (block_column s x) → ((w : ℕ) → w ≤ block_column s x → nearest (z ∷ s) w ≡ nearest (error_line s x ∷ s) w) → level_behind s c (error_line s x ∷ behind_error (block_column s x) xs) ≡ level_behind s c (x ∷ xs)
error-right s x z xs c k is le hold near =
    let b = block_column s x in
    let e = error_line s x in
    let new = level-right c e (level_behind (e ∷ s) c (behind_error b xs)) k in
    let old = ap (λ u. level_with c u (level_behind (u ∷ s) c xs)) is ∙ level-right c z (level_behind (z ∷ s) c xs) (omega arith) in
    let taken = level-taken xs (z ∷ s) (e ∷ s) c b k hold (closed-by z s b le) (closed-by e s b (omega arith)) near in
    new ∙ sym taken ∙ sym old

-- BEHIND AN ERROR LINE in the place of a line, the lines of a block are what they were, or the error line is the first of them
pub level-error : (s : List Line) (x : Line) (xs : List Line) (c : ℕ) → Holds s c → (level_behind s c (error_line s x ∷ behind_error (block_column s x) xs) ≡ level_behind s c (x ∷ xs)) ⊎ ((more : List Line) × (level_behind s c (error_line s x ∷ behind_error (block_column s x) xs) ≡ error_line s x ∷ more))
level-error s x xs c h = go (cases_order b c)
  where
    b : ℕ
    b = block_column s x

    e : Line
    e = error_line s x

    rest : List Line
    rest = level_behind (e ∷ s) c (behind_error b xs)

    new : level_behind s c (e ∷ behind_error b xs) ≡ level_with c e rest
    new = refl

    go : ((b ≡ c) ⊎ ((b < c) ⊎ (c < b))) → (level_behind s c (e ∷ behind_error b xs) ≡ level_behind s c (x ∷ xs)) ⊎ ((more : List Line) × (level_behind s c (e ∷ behind_error b xs) ≡ e ∷ more))
    go (inl k) = inr (rest, level-here c e rest k)
    go (inr (inl k)) = inl (left (cases_lt x.column c))
      where
        left : ((x.column < c) ⊎ (c ≤ x.column)) → level_behind s c (e ∷ behind_error b xs) ≡ level_behind s c (x ∷ xs)
        left (inl l) =
            let low = counted-low s x in
            let z = counted s x in
            level-left c e rest k ∙ sym (level-left c z (level_behind (z ∷ s) c xs) (omega arith))
        left (inr l) = let p = block-holds s x c h l in absurd (omega arith)
    go (inr (inr k)) = inl (right (is_unread x.kind) refl)
      where
        right : (u : Bool) → is_unread x.kind ≡ u → level_behind s c (e ∷ behind_error b xs) ≡ level_behind s c (x ∷ xs)
        right true i = error-right s x e xs c k (rw i refl) (omega arith) (holds-start e s b refl (error-aligned s x)) (λ w l. refl)
        right false i = error-right s x x xs c k (rw i refl) (block-low s x) (error-holds s x b refl) (λ w l. near-error s x w l)
