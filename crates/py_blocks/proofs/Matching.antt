-- The blocks around a line are told by the nearest line that isn't to its right.
use Rattle.std.proofs.Common.{◌≡◌, ℕ, ◌<◌, ◌≤◌, ◌⊎◌, inl, inr, nat_lt, Bool, true, false, ◌&&◌, if◌then◌else◌, List, [], ◌∷◌, ◌++◌, reverse, take, drop, refl, sym, ◌∙◌, ap, subst, arith}
use Rattle.std.proofs.lemmas.Bool.{lt-ltb, le-ltb, le-leb, lt-leb, ltb-true, cases_lt, and_parts}
use Rattle.std.proofs.lemmas.List.{take-append-drop, reverse-append}
use Rattle.py_blocks.specs.declared.line.Line.{Line}
use Rattle.py_blocks.specs.declared.line.LineKind.{LineKind}
use Rattle.py_blocks.specs.declared.line.LineKind.TheVariants as kinds
use Rattle.py_blocks.specs.Lines.{opens_one, nearest, block_column, error_line}
use Rattle.py_blocks.specs.declared.setting.Setting.{Setting}
use Rattle.py_blocks.specs.Rules.{is_decorator}
use Rattle.py_blocks.specs.Settings.{within, setting_around, settings_of, noted_at, around_by}
use Rattle.py_blocks.specs.OnePass.{undecorated}
use Rattle.py_blocks.specs.Passing.{Aligned}
use Rattle.py_blocks.proofs.BlockColumns.{nearest-here, nearest-past, block-low, error-aligned}

noted-right : (before : List Line) (w : ℕ) → nearest before w ≡ w → noted_at before (settings_of before) w ≡ setting_around before w
noted-right [] w e = refl
noted-right (y ∷ ys) w e = go (cases_lt w y.column) (noted-right ys w)
  where
    go : ((w < y.column) ⊎ (y.column ≤ w)) → (nearest ys w ≡ w → noted_at ys (settings_of ys) w ≡ setting_around ys w) → noted_at (y ∷ ys) (settings_of (y ∷ ys)) w ≡ setting_around (y ∷ ys) w
    go (inl k) more =
        let same : nearest ys w ≡ w = sym (nearest-past y ys w k) ∙ e in
        rw (lt-leb y.column w k, le-ltb y.column w (omega arith)) (more same)
    go (inr k) more =
        let own : block_column ys y ≡ w = sym (nearest-here y ys w k) ∙ e in
        let low = block-low ys y in
        let same : y.column ≡ w = omega arith in
        rw (le-leb y.column w k, le-ltb y.column w (omega arith)) (ap (setting_around ys) same)

pub around-right : (before : List Line) (x : Line) → block_column before x ≡ x.column → around_by before (settings_of before) x ≡ setting_around before x.column
around-right [] x h = refl
around-right (y ∷ ys) x h = go (opens_one (y ∷ ys) x) refl
  where
    go : (b : Bool) → opens_one (y ∷ ys) x ≡ b → around_by (y ∷ ys) (settings_of (y ∷ ys)) x ≡ setting_around (y ∷ ys) x.column
    go true e =
        let lt = ltb-true y.column x.column (and_parts y.opens (nat_lt y.column x.column) e).1 in
        let l : around_by (y ∷ ys) (settings_of (y ∷ ys)) x ≡ within y.kind (setting_around ys y.column) = rw e refl in
        let r : setting_around (y ∷ ys) x.column ≡ within y.kind (setting_around ys y.column) = rw (lt-ltb y.column x.column lt) refl in
        l ∙ sym r
    go false e =
        let n : nearest (y ∷ ys) x.column ≡ x.column = rw e at h in
        let l : around_by (y ∷ ys) (settings_of (y ∷ ys)) x ≡ noted_at (y ∷ ys) (settings_of (y ∷ ys)) x.column = rw e refl in
        l ∙ noted-right (y ∷ ys) x.column n

pub around-told : (before : List Line) (notes : List Setting) (x : Line) → notes ≡ settings_of before → block_column before x ≡ x.column → around_by before notes x ≡ setting_around before x.column
around-told before notes x n col = ap (λ l. around_by before l x) n ∙ around-right before x col

-- ---- an error line stands where it says

-- what stands in the block of a decorator stands in that of its error line
decorator-within : (k : LineKind) (o : Setting) → is_decorator k ≡ true → within kinds.Error o ≡ within k o
decorator-within kinds.Plain o h = cc
decorator-within kinds.If o h = cc
decorator-within kinds.Elif o h = cc
decorator-within kinds.Else o h = cc
decorator-within kinds.Loop o h = cc
decorator-within kinds.Try o h = cc
decorator-within kinds.Except o h = cc
decorator-within kinds.ExceptStar o h = cc
decorator-within kinds.Finally o h = cc
decorator-within kinds.Match o h = cc
decorator-within kinds.Case o h = cc
decorator-within kinds.Def o h = cc
decorator-within kinds.Class o h = cc
decorator-within kinds.Decorator o h = refl
decorator-within kinds.Faulty o h = cc
decorator-within kinds.Error o h = cc

-- ---- decorators that become error lines

pub undecorated-around : (ys : List Line) (c : ℕ) → Aligned ys → setting_around (undecorated ys) c ≡ setting_around ys c
undecorated-around [] c h = refl
undecorated-around (y ∷ ys) c (a, b, h) = go (is_decorator y.kind) refl (undecorated-around ys c h) (undecorated-around ys y.column h)
  where
    go : (d : Bool) → is_decorator y.kind ≡ d → setting_around (undecorated ys) c ≡ setting_around ys c → setting_around (undecorated ys) y.column ≡ setting_around ys y.column → setting_around (undecorated (y ∷ ys)) c ≡ setting_around (y ∷ ys) c
    go false d more at = let same : undecorated (y ∷ ys) ≡ y ∷ ys = rw d refl in ap (λ l. setting_around l c) same
    go true d more at =
        let same : undecorated (y ∷ ys) ≡ error_line ys y ∷ undecorated ys = rw d refl in
        ap (λ l. setting_around l c) same ∙ rw (a, at, more) (ap (λ o. if nat_lt y.column c then o else setting_around ys c) (decorator-within y.kind (setting_around ys y.column) d))

pub undecorated-noted : (ys : List Line) → Aligned ys → settings_of (undecorated ys) ≡ settings_of ys
undecorated-noted [] h = refl
undecorated-noted (y ∷ ys) (a, b, h) = go (is_decorator y.kind) refl (undecorated-noted ys h)
  where
    go : (d : Bool) → is_decorator y.kind ≡ d → settings_of (undecorated ys) ≡ settings_of ys → settings_of (undecorated (y ∷ ys)) ≡ settings_of (y ∷ ys)
    go false d more = let same : undecorated (y ∷ ys) ≡ y ∷ ys = rw d refl in ap settings_of same
    go true d more =
        let same : undecorated (y ∷ ys) ≡ error_line ys y ∷ undecorated ys = rw d refl in
        let here : setting_around (undecorated ys) (block_column ys y) ≡ setting_around ys y.column = ap (setting_around (undecorated ys)) a ∙ undecorated-around ys y.column h in
        ap settings_of same ∙ ap (λ n. n ∷ settings_of (undecorated ys)) here ∙ ap (λ l. setting_around ys y.column ∷ l) more

undecorated-opens : (ys : List Line) (x : Line) → Aligned ys → opens_one (undecorated ys) x ≡ opens_one ys x
undecorated-opens [] x h = refl
undecorated-opens (y ∷ ys) x (a, b, h) = go (is_decorator y.kind) refl
  where
    go : (d : Bool) → is_decorator y.kind ≡ d → opens_one (undecorated (y ∷ ys)) x ≡ opens_one (y ∷ ys) x
    go false d = let same : undecorated (y ∷ ys) ≡ y ∷ ys = rw d refl in ap (λ l. opens_one l x) same
    go true d =
        let same : undecorated (y ∷ ys) ≡ error_line ys y ∷ undecorated ys = rw d refl in
        let none : opens_one (y ∷ ys) x ≡ false = ap (λ o. o && nat_lt y.column x.column) (b d) in
        ap (λ l. opens_one l x) same ∙ sym none

block-by : (s t : List Line) (x : Line) → opens_one s x ≡ opens_one t x → nearest s x.column ≡ nearest t x.column → block_column s x ≡ block_column t x
block-by s t x a b = rw (a, b) refl

undecorated-nearest : (ys : List Line) → Aligned ys → (w : ℕ) → nearest (undecorated ys) w ≡ nearest ys w
undecorated-nearest [] h w = refl
undecorated-nearest (y ∷ ys) (a, b, h) w = go (is_decorator y.kind) refl (λ v. undecorated-nearest ys h v) (cases_lt w y.column)
  where
    e : Line
    e = error_line ys y

    go : (d : Bool) → is_decorator y.kind ≡ d → ((v : ℕ) → nearest (undecorated ys) v ≡ nearest ys v) → ((w < y.column) ⊎ (y.column ≤ w)) → nearest (undecorated (y ∷ ys)) w ≡ nearest (y ∷ ys) w
    go false d more k = let same : undecorated (y ∷ ys) ≡ y ∷ ys = rw d refl in ap (λ l. nearest l w) same
    go true d more (inl k) =
        let same : undecorated (y ∷ ys) ≡ e ∷ undecorated ys = rw d refl in
        let p : w < e.column = omega arith in
        ap (λ l. nearest l w) same ∙ nearest-past e (undecorated ys) w p ∙ more w ∙ sym (nearest-past y ys w k)
    go true d more (inr k) =
        let same : undecorated (y ∷ ys) ≡ e ∷ undecorated ys = rw d refl in
        let p : e.column ≤ w = omega arith in
        ap (λ l. nearest l w) same ∙ nearest-here e (undecorated ys) w p ∙ block-by (undecorated ys) ys e (undecorated-opens ys e h) (more e.column) ∙ error-aligned ys y ∙ sym (nearest-here y ys w k)

undecorated-block : (ys : List Line) (x : Line) → Aligned ys → block_column (undecorated ys) x ≡ block_column ys x
undecorated-block ys x h = block-by (undecorated ys) ys x (undecorated-opens ys x h) (undecorated-nearest ys h x.column)

pub undecorated-aligned : (ys : List Line) → Aligned ys → Aligned (undecorated ys)
undecorated-aligned [] h = tt
undecorated-aligned (y ∷ ys) (a, b, h) = go (is_decorator y.kind) refl (undecorated-aligned ys h)
  where
    go : (d : Bool) → is_decorator y.kind ≡ d → Aligned (undecorated ys) → Aligned (undecorated (y ∷ ys))
    go false d more = let same : undecorated (y ∷ ys) ≡ y ∷ ys = rw d refl in subst Aligned (sym same) (a, b, h)
    go true d more =
        let same : undecorated (y ∷ ys) ≡ error_line ys y ∷ undecorated ys = rw d refl in
        subst Aligned (sym same) (undecorated-block ys (error_line ys y) h ∙ error-aligned ys y, (λ e. refl), more)

-- ---- one more line

pub error-more : (ys : List Line) (x : Line) → Aligned ys → Aligned (error_line ys x ∷ undecorated ys)
error-more ys x h = (undecorated-block ys (error_line ys x) h ∙ error-aligned ys x, (λ e. refl), undecorated-aligned ys h)

pub error-noted : (ys : List Line) (x : Line) → Aligned ys → settings_of (error_line ys x ∷ undecorated ys) ≡ around_by ys (settings_of ys) (error_line ys x) ∷ settings_of ys
error-noted ys x h =
    let c = block_column ys x in
    let here : setting_around (undecorated ys) c ≡ around_by ys (settings_of ys) (error_line ys x) = undecorated-around ys c h ∙ sym (around-right ys (error_line ys x) (error-aligned ys x)) in
    ap (λ n. n ∷ settings_of (undecorated ys)) here ∙ ap (λ l. around_by ys (settings_of ys) (error_line ys x) ∷ l) (undecorated-noted ys h)

-- ---- the nearest of lines that stand in their blocks

pub aligned-nearest : (y : Line) (ys : List Line) (w : ℕ) → Aligned (y ∷ ys) → y.column ≤ w → nearest (y ∷ ys) w ≡ y.column
aligned-nearest y ys w (a, b, h) le = nearest-here y ys w le ∙ a

aligned-behind : (xs ys : List Line) → Aligned (xs ++ ys) → Aligned ys
aligned-behind [] ys h = h
aligned-behind (x ∷ xs) ys (a, b, h) = aligned-behind xs ys h

pub aligned-before : (xs : List Line) (k : ℕ) → Aligned (reverse xs) → Aligned (reverse (take k xs))
aligned-before xs k h =
    let whole : reverse xs ≡ reverse (drop k xs) ++ reverse (take k xs) = ap reverse (sym (take-append-drop k xs)) ∙ reverse-append (take k xs) (drop k xs) in
    aligned-behind (reverse (drop k xs)) (reverse (take k xs)) (subst Aligned whole h)
