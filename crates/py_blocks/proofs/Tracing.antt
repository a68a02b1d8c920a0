-- The searches through the lines behind a line tell what the rules ask for.
use Rattle.std.proofs.Common.{◌≡◌, ℕ, suc, ◌<◌, ◌≤◌, ◌⊎◌, inl, inr, nat_lt, Bool, true, false, not, ◌&&◌, ◌||◌, if◌then◌else◌, Option, Some, None, List, [], ◌∷◌, refl, sym, ◌∙◌, ap, subst, arith}
use Rattle.std.specs.Prelude.{All}
use Rattle.std.specs.List.{list_any}
use Rattle.std.proofs.lemmas.Bool.{lt-ltb, le-ltb, ltb-true, leb-true, leb-false, eq-eqb, ne_eqb, cases_order, cases_lt, or_cases, or_parts, and_parts, not-false}
use Rattle.std.proofs.lemmas.Bool.Decides.{nat_tests}
use Rattle.py_blocks.specs.declared.line.Line.{Line}
use Rattle.py_blocks.specs.declared.line.LineKind.{LineKind}
use Rattle.py_blocks.specs.declared.line.LineKind.TheVariants as kinds
use Rattle.py_blocks.specs.declared.trail.Trail.{Trail}
use Rattle.py_blocks.specs.declared.trail.Side.{Side}
use Rattle.py_blocks.specs.declared.trail.Side.TheVariants as sides
use Rattle.py_blocks.specs.Lines.{is_error, is_unread, is_clause, opens_one, nearest, block_column, counted, level_with, level_behind, error_line}
use Rattle.py_blocks.specs.Rules.{is_try, is_match, is_case, closes_try, opens_nothing, tries_nothing, matches_nothing, is_behind_error, is_closed, is_case_or_error, follows, is_handler, is_bare_before}
use Rattle.py_blocks.specs.Trails.{is_passed, is_reached, is_within, side_of, least_with, trail_behind, is_level, tried_at, or_else, tried_from, cased_at, cased_from, handled_at, handled_from}
use Rattle.py_blocks.proofs.BlockColumns.{nearest-here, nearest-past, nearest-between, counted-low, block-low, block-holds, error-aligned, Holds, level-here, level-left, level-right}

-- what a trail tells of the lines that it comes from
pub record Trails (c : ℕ) (s : List Line) (t : Trail) : Type 0 where
  pub low : c ≤ t.column
  pub opens : (x : Line) → opens_one s x ≡ (t.opens && nat_lt t.column x.column)
  pub near : (w : ℕ) → c ≤ w → is_reached t.least w ≡ false → nearest s w ≡ c
  pub far : (w : ℕ) → c ≤ w → is_reached t.least w ≡ true → c < nearest s w

abbrev IsSide : Side → ℕ → ℕ → Type 0
IsSide sides.Left z c = z < c
IsSide sides.Level z c = z ≡ c
IsSide sides.Right z c = c < z

-- where an unread line would stand
unread-side : (c : ℕ) (s : List Line) (t : Trail) (y : Line) → Trails c s t → c ≤ y.column → (b : Bool) → is_within t y ≡ b → IsSide (elim b as (λ x. Side) [ true ↦ sides.Right | false ↦ sides.Level ]) (block_column s y) c
unread-side c s t y h le true e = go (opens_one s y) refl (or_cases _ _ e)
  where
    go : (o : Bool) → opens_one s y ≡ o → (((t.opens && nat_lt t.column y.column) ≡ true) ⊎ (is_reached t.least y.column ≡ true)) → c < block_column s y
    go true o k =
        let p : (t.opens && nat_lt t.column y.column) ≡ true = sym (h.opens y) ∙ o in
        let lt = ltb-true t.column y.column (and_parts _ _ p).1 in
        let low = h.low in
        rw o (omega arith)
    go false o (inl k) = let p : true ≡ false = sym k ∙ (sym (h.opens y) ∙ o) in cc
    go false o (inr k) = rw o (h.far y.column le k)
unread-side c s t y h le false e =
    let p = or_parts _ _ e in
    let o : opens_one s y ≡ false = h.opens y ∙ p.0 in
    rw o (h.near y.column le p.1)

side-right : (c : ℕ) (s : List Line) (t : Trail) (y : Line) → Trails c s t → IsSide (side_of t c y) (counted s y).column c
side-right c s t y h = go (cases_lt y.column c) (is_unread y.kind) refl (is_within t y) refl (cases_order y.column c)
  where
    go : ((y.column < c) ⊎ (c ≤ y.column)) → (u : Bool) → is_unread y.kind ≡ u → (b : Bool) → is_within t y ≡ b → ((y.column ≡ c) ⊎ ((y.column < c) ⊎ (c < y.column))) → IsSide (side_of t c y) (counted s y).column c
    go (inl k) u i b j o = let low = counted-low s y in rw (lt-ltb y.column c k) (omega arith)
    go (inr k) true i true j o = let at = unread-side c s t y h k true j in rw (le-ltb y.column c k, i, j) at
    go (inr k) true i false j o = let at = unread-side c s t y h k false j in rw (le-ltb y.column c k, i, j) at
    go (inr k) false i b j (inl o) = rw (le-ltb y.column c k, i, eq-eqb y.column c o) o
    go (inr k) false i b j (inr (inl o)) = absurd (omega arith)
    go (inr k) false i b j (inr (inr o)) = let ne : y.column ≡ c → ⊥ = λ e. omega arith in rw (le-ltb y.column c k, i, ne_eqb y.column c ne) o

-- ---- one more line

not-reached : (least : Option ℕ) (a w : ℕ) → is_reached (least_with least a) w ≡ false → (w < a) × (is_reached least w ≡ false)
not-reached None a w h = (leb-false a w h, refl)
not-reached (Some l) a w h = (grind (arith, nat_tests), grind (arith, nat_tests))

reached : (least : Option ℕ) (a w : ℕ) → is_reached (least_with least a) w ≡ true → (a ≤ w) ⊎ (is_reached least w ≡ true)
reached None a w h = inl (leb-true a w h)
reached (Some l) a w h = go (cases_lt w a)
  where
    go : ((w < a) ⊎ (a ≤ w)) → (a ≤ w) ⊎ (is_reached (Some l) w ≡ true)
    go (inl k) = inr (grind (arith, nat_tests))
    go (inr k) = inl k

-- a line that isn't where it is written stands where the nearest one stands
counted-at : (s : List Line) (y : Line) (w : ℕ) → (counted s y).column ≤ w → w < y.column → nearest s w ≡ (counted s y).column
counted-at s y w h k = go (is_unread y.kind) refl (opens_one s y) refl
  where
    go : (u : Bool) → is_unread y.kind ≡ u → (o : Bool) → opens_one s y ≡ o → nearest s w ≡ (counted s y).column
    go false u o i = let e : (counted s y).column ≡ y.column = rw u refl in absurd (omega arith)
    go true u true i = let e : (counted s y).column ≡ y.column = rw (u, i) refl in absurd (omega arith)
    go true u false i = let e : (counted s y).column ≡ nearest s y.column = rw (u, i) refl in nearest-between s y.column w (omega arith) (omega arith) ∙ sym e

no-end : (a q : Bool) → ((a && false) && q) ≡ false
no-end true q = refl
no-end false q = refl

and-true : (a q : Bool) → ((a && true) && q) ≡ (a && q)
and-true true q = refl
and-true false q = refl

more-opens : (s : List Line) (t : Trail) (side : Side) (y x : Line) → opens_one (counted s y ∷ s) x ≡ ((trail_behind t side y).opens && nat_lt (trail_behind t side y).column x.column)
more-opens s t side y x = go (is_unread y.kind) refl
  where
    go : (u : Bool) → is_unread y.kind ≡ u → opens_one (counted s y ∷ s) x ≡ ((trail_behind t side y).opens && nat_lt (trail_behind t side y).column x.column)
    go true u = rw u (sym (no-end y.opens (nat_lt y.column x.column)))
    go false u = rw u (sym (and-true y.opens (nat_lt y.column x.column)))

holds-from : (c : ℕ) (s : List Line) (t : Trail) → Trails c s t → Holds s c
holds-from c s t h = λ w k. go w k (is_reached t.least w) refl
  where
    go : (w : ℕ) → c ≤ w → (b : Bool) → is_reached t.least w ≡ b → c ≤ nearest s w
    go w k true e = let p = h.far w k e in omega arith
    go w k false e = let p = h.near w k e in omega arith

level-block : (c : ℕ) (s : List Line) (t : Trail) (z : Line) → Trails c s t → z.column ≡ c → block_column s z ≡ c
level-block c s t z h is =
    let a = block-holds s z c (holds-from c s t h) (omega arith) in
    let b = block-low s z in
    omega arith

-- what counts stands in the block that the line does
counted-block : (s : List Line) (y : Line) → block_column s (counted s y) ≡ block_column s y
counted-block s y = go (is_unread y.kind) refl
  where
    go : (u : Bool) → is_unread y.kind ≡ u → block_column s (counted s y) ≡ block_column s y
    go true u = let e : counted s y ≡ error_line s y = rw u refl in ap (block_column s) e ∙ error-aligned s y
    go false u = let e : counted s y ≡ y = rw u refl in ap (block_column s) e

-- a column to the left of one that isn't reached isn't reached
unreached : (least : Option ℕ) (v w : ℕ) → is_reached least v ≡ false → w ≤ v → is_reached least w ≡ false
unreached None v w h le = refl
unreached (Some l) v w h le = grind (arith, nat_tests)

trails-more : (c : ℕ) (s : List Line) (t : Trail) (y : Line) (side : Side) → Trails c s t → c ≤ (counted s y).column → IsSide side (counted s y).column c → Trails c (counted s y ∷ s) (trail_behind t side y)
trails-more c s t y sides.Left h le is = absurd (omega arith)
trails-more c s t y sides.Level h le is = record {
  low = let low = counted-low s y in omega arith;
  opens = more-opens s t sides.Level y;
  near = λ w k r. let p : (counted s y).column ≤ w = omega arith in nearest-here (counted s y) s w p ∙ level-block c s t (counted s y) h is;
  far = λ w k r. cc;
}
trails-more c s t y sides.Right h le is = go (is_within t y) refl
  where
    z : Line
    z = counted s y

    near : (w : ℕ) → c ≤ w → ((w < y.column) × (is_reached t.least w ≡ false)) → ((w < z.column) ⊎ (z.column ≤ w)) → nearest (z ∷ s) w ≡ c
    near w k (a, b) (inl l) = nearest-past z s w l ∙ h.near w k b
    near w k (a, b) (inr l) =
        let p = counted-at s y w l a in
        let q = h.near w k b in
        absurd (omega arith)

    far : c < block_column s y → (w : ℕ) → c ≤ w → ((y.column ≤ w) ⊎ (is_reached t.least w ≡ true)) → ((w < z.column) ⊎ (z.column ≤ w)) → c < nearest (z ∷ s) w
    far inside w k o (inr l) = let b = counted-block s y in rw (nearest-here z s w l) (omega arith)
    far inside w k (inl o) (inl l) = let low = counted-low s y in absurd (omega arith)
    far inside w k (inr o) (inl l) = rw (nearest-past z s w l) (h.far w k o)

    out : block_column s y ≡ c → is_reached t.least y.column ≡ false → (w : ℕ) → c ≤ w → ((w < z.column) ⊎ (z.column ≤ w)) → nearest (z ∷ s) w ≡ c
    out b r w k (inr l) = nearest-here z s w l ∙ counted-block s y ∙ b
    out b r w k (inl l) = let low = counted-low s y in nearest-past z s w l ∙ h.near w k (unreached t.least y.column w r (omega arith))

    go : (b : Bool) → is_within t y ≡ b → Trails c (z ∷ s) (trail_behind t sides.Right y)
    go true e =
        let low = counted-low s y in
        let inside = unread-side c s t y h (omega arith) true e in
        rw e (record {
          low = omega arith;
          opens = more-opens s t sides.Right y;
          near = λ w k r. near w k (not-reached t.least y.column w r) (cases_lt w z.column);
          far = λ w k r. far inside w k (reached t.least y.column w r) (cases_lt w z.column);
        })
    go false e =
        let low = counted-low s y in
        let outside = unread-side c s t y h (omega arith) false e in
        rw e (record {
          low = omega arith;
          opens = more-opens s t sides.Right y;
          near = λ w k r. out outside (or_parts _ _ e).1 w k (cases_lt w z.column);
          far = λ w k r. cc;
        })

pub trails-start : (s : List Line) (y : Line) → block_column s y ≡ y.column → Trails y.column (y ∷ s) (record { opens = y.opens; column = y.column; least = None })
trails-start s y own = record {
  low = omega arith;
  opens = λ x. refl;
  near = λ w k r. nearest-here y s w k ∙ own;
  far = λ w k r. cc;
}

pub trails-begin : (s : List Line) (t : Trail) (y : Line) → opens_one s y ≡ true → (counted s y).column ≡ y.column → Trails y.column (counted s y ∷ s) (trail_behind t sides.Level y)
trails-begin s t y o e =
    let b : block_column s y ≡ y.column = rw o refl in
    record {
      low = omega arith;
      opens = more-opens s t sides.Level y;
      near = λ w k r. let p : (counted s y).column ≤ w = omega arith in nearest-here (counted s y) s w p ∙ counted-block s y ∙ b;
      far = λ w k r. cc;
    }

-- ---- a `try`

abbrev Wanted : Bool → List Line → Bool
Wanted first level = first && is_behind_error level || is_closed level

wanted-none : (first : Bool) → Wanted first [] ≡ false
wanted-none true = refl
wanted-none false = refl

and-not-false : (a : Bool) → (a && true) ≡ a
and-not-false true = refl
and-not-false false = refl

passed-counted : (s : List Line) (y : Line) → is_passed y.kind ≡ true → is_error (counted s y).kind ≡ true
passed-counted s y h = go (is_unread y.kind) refl (or_cases _ _ h)
  where
    go : (u : Bool) → is_unread y.kind ≡ u → ((is_error y.kind ≡ true) ⊎ (is_unread y.kind ≡ true)) → is_error (counted s y).kind ≡ true
    go true u k = rw u refl
    go false u (inl k) = rw u k
    go false u (inr k) = cc

unpassed-counted : (s : List Line) (y : Line) → is_passed y.kind ≡ false → counted s y ≡ y
unpassed-counted s y h = let u : is_unread y.kind ≡ false = (or_parts (is_error y.kind) (is_unread y.kind) h).1 in rw u refl

tried-level : (k : LineKind) (first : Bool) (z : Line) (more : List Line) (rest : Bool) → ((is_passed k ≡ true) × (is_error z.kind ≡ true)) ⊎ ((is_passed k ≡ false) × (is_error z.kind ≡ false) × (z.kind ≡ k)) → rest ≡ is_closed more → or_else (tried_at sides.Level k first) rest ≡ Wanted first (z ∷ more)
tried-level k true z more rest (inl (a, b)) e = rw (a, b) refl
tried-level k false z more rest (inl (a, b)) e = rw (a, b) e
tried-level k first z more rest (inr (a, b, same)) e = rw (a, b, same) (go first (closes_try k) (is_clause k))
  where
    go : (first closes clause : Bool) → or_else (if closes then Some true else (if clause then None else Some false)) rest ≡ (first && false || (closes || clause && is_closed more))
    go true true b = refl
    go false true b = refl
    go true false true = e
    go false false true = e
    go true false false = refl
    go false false false = refl

wanted-later : (first : Bool) (level : List Line) → Wanted (first && false) level ≡ is_closed level
wanted-later true level = refl
wanted-later false level = refl

abbrev Told : LineKind → Line → Type 0
Told k z = ((is_passed k ≡ true) × (is_error z.kind ≡ true)) ⊎ ((is_passed k ≡ false) × (is_error z.kind ≡ false) × (z.kind ≡ k))

told : (s : List Line) (y : Line) → Told y.kind (counted s y)
told s y = go (is_passed y.kind) refl
  where
    go : (b : Bool) → is_passed y.kind ≡ b → Told y.kind (counted s y)
    go true e = inl (e, passed-counted s y e)
    go false e =
        let same = unpassed-counted s y e in
        let err : is_error y.kind ≡ false = (or_parts (is_error y.kind) (is_unread y.kind) e).0 in
        inr (e, ap (λ z. is_error z.kind) same ∙ err, ap (λ z. z.kind) same)

pub tried-right : (xs s : List Line) (c : ℕ) (t : Trail) (first : Bool) → Trails c s t → tried_from t c first xs ≡ Wanted first (level_behind s c xs)
tried-right [] s c t first h = sym (wanted-none first)
tried-right (y ∷ ys) s c t first h = go (side_of t c y) refl (side-right c s t y h) (λ u f k. tried-right ys (counted s y ∷ s) c u f k)
  where
    z : Line
    z = counted s y

    more : List Line
    more = level_behind (z ∷ s) c ys

    by : Side → Bool
    by side = or_else (tried_at side y.kind first) (tried_from (trail_behind t side y) c (first && not (is_level side)) ys)

    go : (side : Side) → side_of t c y ≡ side → IsSide (side_of t c y) z.column c → ((u : Trail) (f : Bool) → Trails c (z ∷ s) u → tried_from u c f ys ≡ Wanted f more) → by (side_of t c y) ≡ Wanted first (level_with c z more)
    go sides.Left e is rec =
        let k : z.column < c = subst (λ side. IsSide side z.column c) e is in
        ap by e ∙ sym (ap (Wanted first) (level-left c z more k) ∙ wanted-none first)
    go sides.Right e is rec =
        let k : c < z.column = subst (λ side. IsSide side z.column c) e is in
        let tr = trails-more c s t y sides.Right h (omega arith) k in
        ap by e ∙ rec (trail_behind t sides.Right y) (first && true) tr ∙ ap (λ f. Wanted f more) (and-not-false first) ∙ sym (ap (Wanted first) (level-right c z more k))
    go sides.Level e is rec =
        let k : z.column ≡ c = subst (λ side. IsSide side z.column c) e is in
        let tr = trails-more c s t y sides.Level h (omega arith) k in
        let rest = rec (trail_behind t sides.Level y) (first && false) tr ∙ wanted-later first more in
        ap by e ∙ tried-level y.kind first z more (tried_from (trail_behind t sides.Level y) c (first && false) ys) (told s y) rest ∙ sym (ap (Wanted first) (level-here c z more k))

-- ---- a `match`

case-no-error : (k : LineKind) → is_error k ≡ true → is_case k ≡ false
case-no-error kinds.Plain h = refl
case-no-error kinds.If h = refl
case-no-error kinds.Elif h = refl
case-no-error kinds.Else h = refl
case-no-error kinds.Loop h = refl
case-no-error kinds.Try h = refl
case-no-error kinds.Except h = refl
case-no-error kinds.ExceptStar h = refl
case-no-error kinds.Finally h = refl
case-no-error kinds.Match h = refl
case-no-error kinds.Case h = cc
case-no-error kinds.Def h = refl
case-no-error kinds.Class h = refl
case-no-error kinds.Decorator h = refl
case-no-error kinds.Faulty h = refl
case-no-error kinds.Error h = refl

or-true : (a : Bool) → (a || true) ≡ true
or-true true = refl
or-true false = refl

cased-level : (k : LineKind) (z : Line) (more : List Line) (rest : Bool) → Told k z → rest ≡ list_any is_case_or_error more → or_else (cased_at sides.Level k) rest ≡ list_any is_case_or_error (z ∷ more)
cased-level k z more rest (inl (a, b)) e = rw (a, b, or-true (is_case k), or-true (is_case z.kind)) refl
cased-level k z more rest (inr (a, b, same)) e = rw (a, b, same) (go (is_case k))
  where
    go : (b : Bool) → or_else (if b || false then Some true else None) rest ≡ ((b || false) || list_any is_case_or_error more)
    go true = refl
    go false = e

pub cased-right : (xs s : List Line) (c : ℕ) (t : Trail) → Trails c s t → cased_from t c xs ≡ list_any is_case_or_error (level_behind s c xs)
cased-right [] s c t h = refl
cased-right (y ∷ ys) s c t h = go (side_of t c y) refl (side-right c s t y h) (λ u k. cased-right ys (counted s y ∷ s) c u k)
  where
    z : Line
    z = counted s y

    more : List Line
    more = level_behind (z ∷ s) c ys

    any : List Line → Bool
    any level = list_any is_case_or_error level

    by : Side → Bool
    by side = or_else (cased_at side y.kind) (cased_from (trail_behind t side y) c ys)

    go : (side : Side) → side_of t c y ≡ side → IsSide (side_of t c y) z.column c → ((u : Trail) → Trails c (z ∷ s) u → cased_from u c ys ≡ any more) → by (side_of t c y) ≡ any (level_with c z more)
    go sides.Left e is rec =
        let k : z.column < c = subst (λ side. IsSide side z.column c) e is in
        ap by e ∙ sym (ap any (level-left c z more k))
    go sides.Right e is rec =
        let k : c < z.column = subst (λ side. IsSide side z.column c) e is in
        let tr = trails-more c s t y sides.Right h (omega arith) k in
        ap by e ∙ rec (trail_behind t sides.Right y) tr ∙ sym (ap any (level-right c z more k))
    go sides.Level e is rec =
        let k : z.column ≡ c = subst (λ side. IsSide side z.column c) e is in
        let tr = trails-more c s t y sides.Level h (omega arith) k in
        ap by e ∙ cased-level y.kind z more (cased_from (trail_behind t sides.Level y) c ys) (told s y) (rec (trail_behind t sides.Level y) tr) ∙ sym (ap any (level-here c z more k))

-- ---- an `except` without a class

handled-level : (k : LineKind) (z : Line) (more : List Line) (rest : Bool) → Told k z → rest ≡ follows is_handler more → or_else (handled_at sides.Level k) rest ≡ follows is_handler (z ∷ more)
handled-level k z more rest (inl (a, b)) e = rw (a, b) e
handled-level k z more rest (inr (a, b, same)) e = rw (a, b, same) refl

pub handled-right : (xs s : List Line) (c : ℕ) (t : Trail) → Trails c s t → handled_from t c xs ≡ follows is_handler (level_behind s c xs)
handled-right [] s c t h = refl
handled-right (y ∷ ys) s c t h = go (side_of t c y) refl (side-right c s t y h) (λ u k. handled-right ys (counted s y ∷ s) c u k)
  where
    z : Line
    z = counted s y

    more : List Line
    more = level_behind (z ∷ s) c ys

    by : Side → Bool
    by side = or_else (handled_at side y.kind) (handled_from (trail_behind t side y) c ys)

    go : (side : Side) → side_of t c y ≡ side → IsSide (side_of t c y) z.column c → ((u : Trail) → Trails c (z ∷ s) u → handled_from u c ys ≡ follows is_handler more) → by (side_of t c y) ≡ follows is_handler (level_with c z more)
    go sides.Left e is rec =
        let k : z.column < c = subst (λ side. IsSide side z.column c) e is in
        ap by e ∙ sym (ap (follows is_handler) (level-left c z more k))
    go sides.Right e is rec =
        let k : c < z.column = subst (λ side. IsSide side z.column c) e is in
        let tr = trails-more c s t y sides.Right h (omega arith) k in
        ap by e ∙ rec (trail_behind t sides.Right y) tr ∙ sym (ap (follows is_handler) (level-right c z more k))
    go sides.Level e is rec =
        let k : z.column ≡ c = subst (λ side. IsSide side z.column c) e is in
        let tr = trails-more c s t y sides.Level h (omega arith) k in
        ap by e ∙ handled-level y.kind z more (handled_from (trail_behind t sides.Level y) c ys) (told s y) (rec (trail_behind t sides.Level y) tr) ∙ sym (ap (follows is_handler) (level-here c z more k))

-- ---- what the bodies ask

pub tries-by : (before : List Line) (x : Line) (behind : List Line) → block_column before x ≡ x.column → tries_nothing before x behind ≡ (is_try x.kind && not (tried_from (record { opens = x.opens; column = x.column; least = None }) x.column true behind))
tries-by before x behind own = ap (λ b. is_try x.kind && not b) (sym (tried-right behind (x ∷ before) x.column (record { opens = x.opens; column = x.column; least = None }) true (trails-start before x own)))

opens-counted : (before : List Line) (x y : Line) → x.opens ≡ true → opens_nothing x (y ∷ []) ≡ false → (counted (x ∷ before) y).column ≡ y.column
opens-counted before x y e h = go (is_unread y.kind) refl
  where
    go : (u : Bool) → is_unread y.kind ≡ u → (counted (x ∷ before) y).column ≡ y.column
    go false u = rw u refl
    go true u =
        let p : not (nat_lt x.column y.column) ≡ false = rw e at h in
        let o : opens_one (x ∷ before) y ≡ true = rw e (not-false _ p) in
        rw (u, o) refl

-- the first line behind a `match`, and those behind it
pub cases-by : (before : List Line) (t : Trail) (x y : Line) (ys : List Line) → x.opens ≡ true → opens_nothing x (y ∷ []) ≡ false → list_any is_case_or_error (level_behind (x ∷ before) y.column (y ∷ ys)) ≡ or_else (cased_at sides.Level y.kind) (cased_from (trail_behind t sides.Level y) y.column ys)
cases-by before t x y ys e h =
    let s = x ∷ before in
    let z = counted s y in
    let more = level_behind (z ∷ s) y.column ys in
    let at = opens-counted before x y e h in
    let rest = cased-right ys (z ∷ s) y.column (trail_behind t sides.Level y) (trails-begin s t y (rw e (not-false _ (rw e at h))) at) in
    ap (λ l. list_any is_case_or_error l) (level-here y.column z more at) ∙ sym (cased-level y.kind z more (cased_from (trail_behind t sides.Level y) y.column ys) (told s y) rest)

pub tries-told : (before : List Line) (x : Line) (behind : List Line) (b : Bool) → block_column before x ≡ x.column → is_try x.kind ≡ true → b ≡ tried_from (record { opens = x.opens; column = x.column; least = None }) x.column true behind → not b ≡ tries_nothing before x behind
tries-told before x behind b own k e =
    let start : Trail = record { opens = x.opens; column = x.column; least = None } in
    ap not e ∙ sym (tries-by before x behind own ∙ ap (λ t. t && not (tried_from start x.column true behind)) k)

pub matches-told : (before : List Line) (t : Trail) (x y : Line) (ys : List Line) (b : Bool) → is_match x.kind ≡ true → x.opens ≡ true → opens_nothing x (y ∷ ys) ≡ false → b ≡ or_else (cased_at sides.Level y.kind) (cased_from (trail_behind t sides.Level y) y.column ys) → not b ≡ matches_nothing before x (y ∷ ys)
matches-told before t x y ys b k o h e =
    let has = list_any is_case_or_error (level_behind (x ∷ before) y.column (y ∷ ys)) in
    let same : b ≡ has = e ∙ sym (cases-by before t x y ys o h) in
    ap not same ∙ sym (ap (λ m. m && x.opens && not has) k ∙ ap (λ m. true && m && not has) o)

none-written : (xs : List Line) → All (λ y. is_error y.kind ≡ false) xs → list_any (λ y. is_error y.kind) xs ≡ false
none-written [] h = refl
none-written (x ∷ xs) h =
    let e : is_error x.kind ≡ false = h 0 x (omega arith) in
    rw e (none-written xs (λ k d lt. h (suc k) d (omega arith)))

all-true : (k a f b : Bool) → k ≡ true → a ≡ false → b ≡ f → b ≡ (k && not a && f)
all-true true false f b h i e = e
all-true true true f b h i e = cc
all-true false a f b h i e = cc

pub bare-told : (before : List Line) (x : Line) (behind : List Line) (b : Bool) → All (λ y. is_error y.kind ≡ false) behind → block_column before x ≡ x.column → b ≡ handled_from (record { opens = x.opens; column = x.column; least = None }) x.column behind → x.bare ≡ true → b ≡ is_bare_before before x behind
bare-told before x behind b written own e k =
    let start : Trail = record { opens = x.opens; column = x.column; least = None } in
    let right = handled-right behind (x ∷ before) x.column start (trails-start before x own) in
    all-true x.bare (list_any (λ y. is_error y.kind) behind) _ b k (none-written behind written) (e ∙ right)
