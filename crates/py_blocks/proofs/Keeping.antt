-- A line that isn't faulty stays so when a line behind it becomes an error line, decorators directly before it aside.
use Rattle.std.proofs.Common.{◌≡◌, ℕ, ◌<◌, ◌≤◌, ◌⊎◌, inl, inr, nat_lt, Bool, true, false, not, ◌&&◌, ◌||◌, List, [], ◌∷◌, refl, ◌∙◌, ap, arith}
use Rattle.std.specs.List.{list_any}
use Rattle.std.proofs.lemmas.Bool.{cases_order, or_parts, or_right, eqb-true, not-false}
use Rattle.py_blocks.specs.declared.line.Line.{Line}
use Rattle.py_blocks.specs.declared.line.LineKind.{LineKind}
use Rattle.py_blocks.specs.declared.line.LineKind.TheVariants as kinds
use Rattle.py_blocks.specs.Lines.{is_error, is_unread, is_clause, opens_one, block_column, error_line, behind_error, counted, level_behind, level_before}
use Rattle.py_blocks.specs.Rules.{is_match, is_try, closes_try, opens_nothing, decorates_nothing, is_behind_error, is_closed, may_follow, tries_nothing, first_column, is_case_or_error, matches_nothing, is_bare_before, is_misplaced, is_unfinished, is_faulty}
use Rattle.py_blocks.proofs.BlockColumns.{Holds, holds-start, holds-more, level-here, level-left, level-right, level-error}

-- a line of the second list is that of the first, or the error line in its place
pub data Replaces : List Line → List Line → List Line → Type 0 where
  here : (s : List Line) (x : Line) (xs : List Line) → Replaces s (x ∷ xs) (error_line s x ∷ behind_error (block_column s x) xs)
  there : (s : List Line) (z : Line) (zs ts : List Line) → is_faulty s z zs ≡ false → Replaces (z ∷ s) zs ts → Replaces s (z ∷ zs) (z ∷ ts)

-- what is known of a line that isn't faulty
pub record Fine (before : List Line) (x : Line) (behind : List Line) : Type 0 where
  pub read : is_unread x.kind ≡ false
  pub placed : is_misplaced before x ≡ false
  pub opens : opens_nothing x behind ≡ false
  pub decorates : decorates_nothing x behind ≡ false
  pub tries : tries_nothing before x behind ≡ false
  pub matches : matches_nothing before x behind ≡ false
  pub bare : is_bare_before before x behind ≡ false

pub fine-parts : (before : List Line) (x : Line) (behind : List Line) → is_faulty before x behind ≡ false → is_error x.kind ≡ false → Fine before x behind
fine-parts before x behind h e =
    let all : (is_unread x.kind || (is_misplaced before x || is_unfinished before x behind)) ≡ false = rw e at h in
    let a = or_parts _ _ all in
    let b = or_parts _ _ a.1 in
    let c = or_parts _ _ b.1 in
    let d = or_parts _ _ c.1 in
    let f = or_parts _ _ d.1 in
    let g = or_parts _ _ f.1 in
    record { read = a.0; placed = b.0; opens = c.0; decorates = d.0; tries = f.0; matches = g.0; bare = g.1 }

pub fine-whole : (before : List Line) (x : Line) (behind : List Line) → Fine before x behind → is_faulty before x behind ≡ false
fine-whole before x behind h = rw (h.read, h.placed, h.opens, h.decorates, h.tries, h.matches, h.bare) (ends (is_error x.kind))
  where
    ends : (b : Bool) → (not b && false) ≡ false
    ends true = refl
    ends false = refl

pub counted-read : (s : List Line) (x : Line) → is_unread x.kind ≡ false → counted s x ≡ x
counted-read s x e = rw e refl

unread-no-error : (k : LineKind) → is_error k ≡ true → is_unread k ≡ false
unread-no-error kinds.Plain h = refl
unread-no-error kinds.If h = refl
unread-no-error kinds.Elif h = refl
unread-no-error kinds.Else h = refl
unread-no-error kinds.Loop h = refl
unread-no-error kinds.Try h = refl
unread-no-error kinds.Except h = refl
unread-no-error kinds.ExceptStar h = refl
unread-no-error kinds.Finally h = refl
unread-no-error kinds.Match h = refl
unread-no-error kinds.Case h = refl
unread-no-error kinds.Def h = refl
unread-no-error kinds.Class h = refl
unread-no-error kinds.Decorator h = refl
unread-no-error kinds.Faulty h = cc
unread-no-error kinds.Error h = refl

pub fine-read : (s : List Line) (x : Line) (xs : List Line) → is_faulty s x xs ≡ false → is_unread x.kind ≡ false
fine-read s x xs h = go (is_error x.kind) refl
  where
    go : (b : Bool) → is_error x.kind ≡ b → is_unread x.kind ≡ false
    go true e = unread-no-error x.kind e
    go false e = (fine-parts s x xs h e).read

-- ---- a `match`

any-more : (p : Line → Bool) (z : Line) (old new : List Line) → (list_any p old ≡ true → list_any p new ≡ true) → list_any p (z ∷ old) ≡ true → list_any p (z ∷ new) ≡ true
any-more p z old new f h = go (p z) refl
  where
    go : (b : Bool) → p z ≡ b → list_any p (z ∷ new) ≡ true
    go true e = rw e refl
    go false e = rw e (f (rw e at h))

abbrev HasCase : List Line → Type 0
HasCase level = list_any is_case_or_error level ≡ true

abbrev Keeps : List Line → List Line → Type 0
Keeps old new = HasCase old → HasCase new

match-kept : {s xs ts : List Line} (c : ℕ) → Replaces s xs ts → Holds s c → Keeps (level_behind s c xs) (level_behind s c ts)
match-kept c (here s x rest) h = λ had. go (level-error s x rest c h) had
  where
    new : List Line
    new = level_behind s c (error_line s x ∷ behind_error (block_column s x) rest)

    go : ((new ≡ level_behind s c (x ∷ rest)) ⊎ ((more : List Line) × (new ≡ error_line s x ∷ more))) → HasCase (level_behind s c (x ∷ rest)) → HasCase new
    go (inl same) had = ap (list_any is_case_or_error) same ∙ had
    go (inr (more, is)) had = ap (list_any is_case_or_error) is
match-kept c (there s z zs us f r) h =
    let e = counted-read s z (fine-read s z zs f) in
    let P : List Line → List Line → Type 0 = λ old new. Keeps old new in
    go e (cases_order z.column c) (λ le. match-kept c r (holds-more z s c le h))
  where
    old : List Line
    old = level_behind (z ∷ s) c zs

    new : List Line
    new = level_behind (z ∷ s) c us

    go : counted s z ≡ z → ((z.column ≡ c) ⊎ ((z.column < c) ⊎ (c < z.column))) → (c ≤ z.column → Keeps old new) → Keeps (level_behind s c (z ∷ zs)) (level_behind s c (z ∷ us))
    go e (inl k) more = λ had. rw (e, level-here c z new k) (any-more is_case_or_error z old new (more (omega arith)) (rw (e, level-here c z old k) at had))
    go e (inr (inl k)) more = λ had. rw (e, level-left c z new k) (rw (e, level-left c z old k) at had)
    go e (inr (inr k)) more = λ had. rw (e, level-right c z new k) (more (omega arith) (rw (e, level-right c z old k) at had))

-- the first line behind a header opens its block
abbrev OpensFirst : List Line → List Line → Type 0
OpensFirst s [] = ⊥
OpensFirst s (x ∷ xs) = opens_one s x ≡ true

match-first : {s xs ts : List Line} → Replaces s xs ts → OpensFirst s xs → Keeps (level_behind s (first_column xs) xs) (level_behind s (first_column ts) ts)
match-first (here s x rest) o = λ had.
    let b = block_column s x in
    let e = error_line s x in
    let is = level-here b e (level_behind (e ∷ s) b (behind_error b rest)) refl in
    ap (list_any is_case_or_error) is
match-first (there s z zs us f r) o = λ had.
    let e = counted-read s z (fine-read s z zs f) in
    let c = z.column in
    let old = level_behind (z ∷ s) c zs in
    let new = level_behind (z ∷ s) c us in
    rw (e, level-here c z new refl) (any-more is_case_or_error z old new (match-kept c r (holds-start z s c refl (rw o refl))) (rw (e, level-here c z old refl) at had))

-- ---- a `try`

abbrev IsTried : List Line → Type 0
IsTried level = (is_behind_error level || is_closed level) ≡ true

try-kind : (k : LineKind) → is_try k ≡ true → k ≡ kinds.Try
try-kind kinds.Plain h = cc
try-kind kinds.If h = cc
try-kind kinds.Elif h = cc
try-kind kinds.Else h = cc
try-kind kinds.Loop h = cc
try-kind kinds.Try h = refl
try-kind kinds.Except h = cc
try-kind kinds.ExceptStar h = cc
try-kind kinds.Finally h = cc
try-kind kinds.Match h = cc
try-kind kinds.Case h = cc
try-kind kinds.Def h = cc
try-kind kinds.Class h = cc
try-kind kinds.Decorator h = cc
try-kind kinds.Faulty h = cc
try-kind kinds.Error h = cc

-- directly behind a `try` a clause closes it
clause-closes : (k : LineKind) (t : Line) (level : List Line) → t.kind ≡ kinds.Try → may_follow k (t ∷ level) ≡ true → (closes_try k ≡ true) ⊎ (is_clause k ≡ false)
clause-closes kinds.Plain t level e h = inr refl
clause-closes kinds.If t level e h = inr refl
clause-closes kinds.Elif t level e h = let x : false ≡ true = rw e at h in cc
clause-closes kinds.Else t level e h = let x : false ≡ true = rw e at h in cc
clause-closes kinds.Loop t level e h = inr refl
clause-closes kinds.Try t level e h = inr refl
clause-closes kinds.Except t level e h = inl refl
clause-closes kinds.ExceptStar t level e h = inl refl
clause-closes kinds.Finally t level e h = inl refl
clause-closes kinds.Match t level e h = inr refl
clause-closes kinds.Case t level e h = inr refl
clause-closes kinds.Def t level e h = inr refl
clause-closes kinds.Class t level e h = inr refl
clause-closes kinds.Decorator t level e h = inr refl
clause-closes kinds.Faulty t level e h = inr refl
clause-closes kinds.Error t level e h = inr refl

first-tried : (z : Line) (old new : List Line) → is_error z.kind ≡ false → ((closes_try z.kind ≡ true) ⊎ (is_clause z.kind ≡ false)) → IsTried (z ∷ old) → IsTried (z ∷ new)
first-tried z old new e (inl a) h = rw (e, a) refl
first-tried z old new e (inr b) h = let p : (closes_try z.kind || false) ≡ true = rw (e, b) at h in rw (e, b) p

try-kept : {s xs ts : List Line} (c : ℕ) (t : Line) (level : List Line) → Replaces s xs ts → Holds s c → level_before s c ≡ t ∷ level → t.kind ≡ kinds.Try → IsTried (level_behind s c xs) → IsTried (level_behind s c ts)
try-kept c t level (here s x rest) h before is = λ had. go (level-error s x rest c h) had
  where
    new : List Line
    new = level_behind s c (error_line s x ∷ behind_error (block_column s x) rest)

    go : ((new ≡ level_behind s c (x ∷ rest)) ⊎ ((more : List Line) × (new ≡ error_line s x ∷ more))) → IsTried (level_behind s c (x ∷ rest)) → IsTried new
    go (inl same) had = ap (λ l. is_behind_error l || is_closed l) same ∙ had
    go (inr (more, e)) had = ap (λ l. is_behind_error l || is_closed l) e
try-kept c t level (there s z zs us f r) h before is =
    let e = counted-read s z (fine-read s z zs f) in
    go e (cases_order z.column c) (λ lt. try-kept c t level r (holds-more z s c (omega arith) h) (level-right c z (level_before s c) lt ∙ before) is)
  where
    old : List Line
    old = level_behind (z ∷ s) c zs

    new : List Line
    new = level_behind (z ∷ s) c us

    beside : z.column ≡ c → (b : Bool) → is_error z.kind ≡ b → IsTried (z ∷ old) → IsTried (z ∷ new)
    beside k true e had = rw e refl
    beside k false e had =
        let p = fine-parts s z zs f e in
        let a = or_parts _ _ (or_parts _ _ p.placed).1 in
        let m : may_follow z.kind (level_before s z.column) ≡ true = not-false _ a.0 in
        let l : level_before s z.column ≡ t ∷ level = ap (level_before s) k ∙ before in
        first-tried z old new e (clause-closes z.kind t level is (rw l at m)) had

    go : counted s z ≡ z → ((z.column ≡ c) ⊎ ((z.column < c) ⊎ (c < z.column))) → (c < z.column → IsTried old → IsTried new) → IsTried (level_behind s c (z ∷ zs)) → IsTried (level_behind s c (z ∷ us))
    go e (inl k) more had = rw (e, level-here c z new k) (beside k (is_error z.kind) refl (rw (e, level-here c z old k) at had))
    go e (inr (inl k)) more had = rw (e, level-left c z new k) (rw (e, level-left c z old k) at had)
    go e (inr (inr k)) more had = rw (e, level-right c z new k) (more k (rw (e, level-right c z old k) at had))

-- ---- together

opens-kept : {s xs ts : List Line} (y : Line) → Replaces s xs ts → ((x : Line) → opens_one s x ≡ (y.opens && nat_lt y.column x.column)) → opens_nothing y xs ≡ false → opens_nothing y ts ≡ false
opens-kept y (here s x rest) is h = go y.opens refl
  where
    go : (b : Bool) → y.opens ≡ b → opens_nothing y (error_line s x ∷ behind_error (block_column s x) rest) ≡ false
    go false e = rw e refl
    go true e =
        let p : not (nat_lt y.column x.column) ≡ false = rw e at h in
        let q : nat_lt y.column x.column ≡ true = not-false _ p in
        let o : opens_one s x ≡ true = is x ∙ rw (e, q) refl in
        let same : block_column s x ≡ x.column = rw o refl in
        ap (λ c. y.opens && not (nat_lt y.column c)) same ∙ h
opens-kept y (there s z zs us f r) is h = h

opens-first : (y : Line) (ys xs : List Line) → y.opens ≡ true → opens_nothing y xs ≡ false → OpensFirst (y ∷ ys) xs
opens-first y ys [] e h = cc
opens-first y ys (x ∷ xs) e h = let p : not (nat_lt y.column x.column) ≡ false = rw e at h in rw e (not-false _ p)

not-true-from : (b : Bool) → b ≡ true → not b ≡ false
not-true-from b e = rw e refl

tries-kept : (ys : List Line) (y : Line) (xs ts : List Line) → block_column ys y ≡ y.column → Replaces (y ∷ ys) xs ts → tries_nothing ys y xs ≡ false → tries_nothing ys y ts ≡ false
tries-kept ys y xs ts own r h = go (is_try y.kind) refl
  where
    go : (b : Bool) → is_try y.kind ≡ b → tries_nothing ys y ts ≡ false
    go false e = rw e refl
    go true e =
        let k = try-kind y.kind e in
        let p : not (is_behind_error (level_behind (y ∷ ys) y.column xs) || is_closed (level_behind (y ∷ ys) y.column xs)) ≡ false = rw e at h in
        let had = not-false _ p in
        let l = level-here y.column y (level_before ys y.column) refl in
        rw e (not-true-from _ (try-kept y.column y (level_before ys y.column) r (holds-start y ys y.column refl own) l k had))

both-then : (a b c d : Bool) → ((a && b) && c) ≡ false → (a ≡ true → b ≡ true → c ≡ false → d ≡ false) → ((a && b) && d) ≡ false
both-then false b c d h f = refl
both-then true false c d h f = refl
both-then true true true d h f = cc
both-then true true false d h f = f refl refl refl

matches-kept : (ys : List Line) (y : Line) (xs ts : List Line) → Replaces (y ∷ ys) xs ts → opens_nothing y xs ≡ false → matches_nothing ys y xs ≡ false → matches_nothing ys y ts ≡ false
matches-kept ys y xs ts r o h =
    both-then (is_match y.kind) y.opens (not (list_any is_case_or_error (level_behind (y ∷ ys) (first_column xs) xs))) (not (list_any is_case_or_error (level_behind (y ∷ ys) (first_column ts) ts))) h (λ e i p. not-true-from _ (match-first r (opens-first y ys xs i o) (not-false _ p)))

-- an error line stands among the lines behind
any-error : {s xs ts : List Line} → Replaces s xs ts → list_any (λ y. is_error y.kind) ts ≡ true
any-error (here s x xs) = refl
any-error (there s z zs ts f r) = or_right (is_error z.kind) _ (any-error r)

no-bare : (a b : Bool) → ((a && false) && b) ≡ false
no-bare true b = refl
no-bare false b = refl

bare-kept : (ys : List Line) (y : Line) (xs ts : List Line) → Replaces (y ∷ ys) xs ts → is_bare_before ys y ts ≡ false
bare-kept ys y xs ts r = rw (any-error r) (no-bare y.bare _)

-- A LINE THAT ISN'T FAULTY stays so, but for a decorator
pub keep : (ys : List Line) (y : Line) (xs ts : List Line) → is_faulty ys y xs ≡ false → Replaces (y ∷ ys) xs ts → decorates_nothing y ts ≡ false → is_faulty ys y ts ≡ false
keep ys y xs ts h r d = go (is_error y.kind) refl
  where
    go : (b : Bool) → is_error y.kind ≡ b → is_faulty ys y ts ≡ false
    go true e = rw e refl
    go false e =
        let p = fine-parts ys y xs h e in
        fine-whole ys y ts (record {
          read = p.read;
          placed = p.placed;
          opens = opens-kept y r (λ x. refl) p.opens;
          decorates = d;
          tries = tries-kept ys y xs ts (eqb-true (block_column ys y) y.column (not-false _ (or_parts _ _ p.placed).0)) r p.tries;
          matches = matches-kept ys y xs ts r p.opens p.matches;
          bare = bare-kept ys y xs ts r;
        })
