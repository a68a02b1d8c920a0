-- One pass gives the lines that replacing the first faulty line again and again gives.
use Rattle.std.proofs.Common.{◌≡◌, ℕ, ◌≤◌, ◌==◌, Bool, true, false, not, ◌&&◌, Option, Some, None, List, [], ◌∷◌, refl, sym, ◌∙◌, ap, subst, arith}
use Rattle.std.proofs.lemmas.Bool.{le-ltb, eqb-true, or_parts, or_left, or_right, not-false, and_parts}
use Rattle.py_blocks.specs.declared.line.Line.{Line}
use Rattle.py_blocks.specs.declared.line.LineKind.{LineKind}
use Rattle.py_blocks.specs.declared.line.LineKind.TheVariants as kinds
use Rattle.py_blocks.specs.Lines.{is_error, is_unread, block_column, error_line, behind_error}
use Rattle.py_blocks.specs.Rules.{is_decorator, is_decorated, opens_nothing, decorates_nothing, is_misplaced, is_faulty}
use Rattle.py_blocks.specs.Settling.{onto, replaced_from, replaced, Settles, settled, replacing}
use Rattle.py_blocks.specs.OnePass.{undecorated, is_taken, lines_behind, settled_from}
use Rattle.py_blocks.proofs.BlockColumns.{block-low}
use Rattle.py_blocks.proofs.Keeping.{Replaces, here, there, fine-parts, keep}

-- none of the lines before is faulty, where these stand behind them
abbrev pub AreFine : List Line → List Line → Type 0
AreFine [] behind = Unit {0}
AreFine (y ∷ ys) behind = (is_faulty ys y behind ≡ false) × AreFine ys (y ∷ behind)

-- the nearest may be a decorator that decorates nothing
abbrev pub AlmostFine : List Line → List Line → Type 0
AlmostFine [] behind = Unit {0}
AlmostFine (y ∷ ys) behind = (is_decorator y.kind ≡ false → is_faulty ys y behind ≡ false) × AreFine ys (y ∷ behind)

decorator-no-error : (k : LineKind) → is_decorator k ≡ true → is_error k ≡ false
decorator-no-error kinds.Plain h = refl
decorator-no-error kinds.If h = refl
decorator-no-error kinds.Elif h = refl
decorator-no-error kinds.Else h = refl
decorator-no-error kinds.Loop h = refl
decorator-no-error kinds.Try h = refl
decorator-no-error kinds.Except h = refl
decorator-no-error kinds.ExceptStar h = refl
decorator-no-error kinds.Finally h = refl
decorator-no-error kinds.Match h = refl
decorator-no-error kinds.Case h = refl
decorator-no-error kinds.Def h = refl
decorator-no-error kinds.Class h = refl
decorator-no-error kinds.Decorator h = refl
decorator-no-error kinds.Faulty h = refl
decorator-no-error kinds.Error h = cc

plain-decorates : (x : Line) (behind : List Line) → is_decorator x.kind ≡ false → decorates_nothing x behind ≡ false
plain-decorates x [] h = h
plain-decorates x (y ∷ ys) h = rw h refl

-- a line and its decorating are told by the next line alone
decorates-still : (before : List Line) (x z : Line) (zs ts : List Line) → is_faulty before x (z ∷ zs) ≡ false → decorates_nothing x (z ∷ ts) ≡ false
decorates-still before x z zs ts h = go (is_decorator x.kind) refl
  where
    go : (b : Bool) → is_decorator x.kind ≡ b → decorates_nothing x (z ∷ ts) ≡ false
    go false e = rw e refl
    go true e = (fine-parts before x (z ∷ zs) h (decorator-no-error x.kind e)).decorates

fine-more : (ys : List Line) (z : Line) (zs ts : List Line) → AreFine ys (z ∷ zs) → Replaces ys (z ∷ zs) (z ∷ ts) → AreFine ys (z ∷ ts)
fine-more [] z zs ts h r = tt
fine-more (y ∷ ys) z zs ts (f, h) r =
    (keep ys y (z ∷ zs) (z ∷ ts) f r (decorates-still ys y z zs ts f), fine-more ys y (z ∷ zs) (z ∷ ts) h (there ys y (z ∷ zs) (z ∷ ts) f r))

pub stable : (ys xs ts : List Line) → AreFine ys xs → Replaces ys xs ts → AlmostFine ys ts
stable [] xs ts h r = tt
stable (y ∷ ys) xs ts (f, h) r =
    ((λ d. keep ys y xs ts f r (plain-decorates y ts d)), fine-more ys y xs ts h (there ys y xs ts f r))

-- the first faulty line of a text
first : (before xs : List Line) → AreFine before xs → replaced (onto before xs) ≡ replaced_from before xs
first [] xs h = refl
first (y ∷ ys) xs (f, h) = first ys (y ∷ xs) h ∙ rw f refl

first-faulty : (before : List Line) (x : Line) (xs : List Line) → AreFine before (x ∷ xs) → is_faulty before x xs ≡ true → replaced (onto before (x ∷ xs)) ≡ Some (onto before (error_line before x ∷ behind_error (block_column before x) xs))
first-faulty before x xs h f = first before (x ∷ xs) h ∙ rw f refl

-- ---- decorators before an error line

-- a decorator and the line behind it
pub record Decorates (ys : List Line) (y x : Line) : Type 0 where
  pub level : x.column ≡ y.column
  pub block : block_column ys y ≡ y.column

decorates : (ys : List Line) (y x : Line) (behind : List Line) → is_decorator y.kind ≡ true → is_faulty ys y (x ∷ behind) ≡ false → Decorates ys y x
decorates ys y x behind d f =
    let p = fine-parts ys y (x ∷ behind) f (decorator-no-error y.kind d) in
    let q : not (is_decorated x.kind && x.column == y.column) ≡ false = rw d at p.decorates in
    let both = and_parts _ _ (not-false _ q) in
    let s : not (block_column ys y == y.column) ≡ false = (or_parts _ _ p.placed).0 in
    record { level = eqb-true x.column y.column both.1; block = eqb-true (block_column ys y) y.column (not-false _ s) }

-- where the nearest line is a decorator, the error line stands where it stands
abbrev Beside : List Line → Line → Type 0
Beside [] e = Unit {0}
Beside (y ∷ ys) e = is_decorator y.kind ≡ true → e.column ≤ block_column ys y

beside : (ys : List Line) (x : Line) (behind : List Line) → AreFine ys (x ∷ behind) → Beside ys (error_line ys x)
beside [] x behind h = tt
beside (y ∷ ys) x behind (f, h) = λ d. let p = decorates ys y x behind d f in let low = block-low (y ∷ ys) x in omega arith

error-decorated : (k : LineKind) → is_error k ≡ true → is_decorated k ≡ false
error-decorated kinds.Plain h = refl
error-decorated kinds.If h = refl
error-decorated kinds.Elif h = refl
error-decorated kinds.Else h = refl
error-decorated kinds.Loop h = refl
error-decorated kinds.Try h = refl
error-decorated kinds.Except h = refl
error-decorated kinds.ExceptStar h = refl
error-decorated kinds.Finally h = refl
error-decorated kinds.Match h = refl
error-decorated kinds.Case h = refl
error-decorated kinds.Def h = cc
error-decorated kinds.Class h = cc
error-decorated kinds.Decorator h = cc
error-decorated kinds.Faulty h = refl
error-decorated kinds.Error h = refl

faulty-decorator : (ys : List Line) (y e : Line) (tail : List Line) → is_decorator y.kind ≡ true → is_error e.kind ≡ true → is_faulty ys y (e ∷ tail) ≡ true
faulty-decorator ys y e tail d h =
    let n : decorates_nothing y (e ∷ tail) ≡ true = rw (d, error-decorated e.kind h) refl in
    rw (decorator-no-error y.kind d) (or_right (is_unread y.kind) _ (or_right (is_misplaced ys y) _ (or_right (opens_nothing y (e ∷ tail)) _ (or_left (decorates_nothing y (e ∷ tail)) _ n))))

left-alone : (b : ℕ) (e : Line) (tail : List Line) → e.column ≤ b → behind_error b (e ∷ tail) ≡ e ∷ tail
left-alone b e tail le = rw (le-ltb b e.column le) refl

pub record Undecorates (ys : List Line) (tail : List Line) : Type 0 where
  pub fine : AreFine (undecorated ys) tail
  pub run : (end : List Line) → Settles (onto (undecorated ys) tail) end → Settles (onto ys tail) end

pub undecorates : (ys : List Line) (e : Line) (tail : List Line) → is_error e.kind ≡ true → Beside ys e → AlmostFine ys (e ∷ tail) → Undecorates ys (e ∷ tail)
undecorates [] e tail h at almost = record { fine = tt; run = λ end s. s }
undecorates (y ∷ ys) e tail h at almost = go (is_decorator y.kind) refl (λ a b. undecorates ys (error_line ys y) (e ∷ tail) refl a b)
  where
    go : (b : Bool) → is_decorator y.kind ≡ b → (Beside ys (error_line ys y) → AlmostFine ys (error_line ys y ∷ e ∷ tail) → Undecorates ys (error_line ys y ∷ e ∷ tail)) → Undecorates (y ∷ ys) (e ∷ tail)
    go false d more =
        let same : undecorated (y ∷ ys) ≡ y ∷ ys = rw d refl in
        record {
          fine = subst (λ l. AreFine l (e ∷ tail)) (sym same) (almost.0 d, almost.1);
          run = λ end s. subst (λ l. Settles (onto l (e ∷ tail)) end) same s;
        }
    go true d more =
        let left = left-alone (block_column ys y) e tail (at d) in
        let r = subst (λ l. Replaces ys (y ∷ e ∷ tail) (error_line ys y ∷ l)) left (here ys y (e ∷ tail)) in
        let next = more (beside ys y (e ∷ tail) almost.1) (stable ys (y ∷ e ∷ tail) (error_line ys y ∷ e ∷ tail) almost.1 r) in
        let f = first-faulty ys y (e ∷ tail) almost.1 (faulty-decorator ys y e tail d h) in
        let step : replaced (onto (y ∷ ys) (e ∷ tail)) ≡ Some (onto ys (error_line ys y ∷ e ∷ tail)) = f ∙ ap (λ l. Some (onto ys (error_line ys y ∷ l))) left in
        let same : undecorated (y ∷ ys) ≡ error_line ys y ∷ undecorated ys = rw d refl in
        record {
          fine = subst (λ l. AreFine l (e ∷ tail)) (sym same) (refl, next.fine);
          run = λ end s. replacing (onto (y ∷ ys) (e ∷ tail)) (onto ys (error_line ys y ∷ e ∷ tail)) end step (next.run end (subst (λ l. Settles (onto l (e ∷ tail)) end) same s));
        }

-- ---- the pass

took : (taken : Option ℕ) (y : Line) (ys : List Line) → is_taken taken y ≡ true → lines_behind taken (y ∷ ys) ≡ lines_behind taken ys
took None y ys t = cc
took (Some c) y ys t = rw t refl

stays : (taken : Option ℕ) (y : Line) (ys : List Line) → is_taken taken y ≡ false → lines_behind taken (y ∷ ys) ≡ y ∷ ys
stays None y ys t = refl
stays (Some c) y ys t = rw t refl

pub passes : (behind before : List Line) (taken : Option ℕ) → AreFine before (lines_behind taken behind) → Settles (onto before (lines_behind taken behind)) (settled_from before taken behind)
passes [] before None h = settled (onto before []) (first before [] h)
passes [] before (Some c) h = settled (onto before []) (first before [] h)
passes (y ∷ ys) before taken h = go (is_taken taken y) refl (is_faulty before y ys) refl (λ b t k. passes ys b t k)
  where
    go : (t : Bool) → is_taken taken y ≡ t → (f : Bool) → is_faulty before y ys ≡ f → ((b : List Line) (t : Option ℕ) → AreFine b (lines_behind t ys) → Settles (onto b (lines_behind t ys)) (settled_from b t ys)) → Settles (onto before (lines_behind taken (y ∷ ys))) (settled_from before taken (y ∷ ys))
    go true t f i more =
        let l = took taken y ys t in
        let same : settled_from before taken ys ≡ settled_from before taken (y ∷ ys) = rw t refl in
        subst (λ end. Settles (onto before (lines_behind taken (y ∷ ys))) end) same (subst (λ x. Settles (onto before x) (settled_from before taken ys)) (sym l) (more before taken (subst (AreFine before) l h)))
    go false t false i more =
        let l = stays taken y ys t in
        let same : settled_from (y ∷ before) None ys ≡ settled_from before taken (y ∷ ys) = rw (t, i) refl in
        subst (λ end. Settles (onto before (lines_behind taken (y ∷ ys))) end) same (subst (λ x. Settles (onto before x) (settled_from (y ∷ before) None ys)) (sym l) (more (y ∷ before) None (i, subst (AreFine before) l h)))
    go false t true i more =
        let l = stays taken y ys t in
        let h2 = subst (AreFine before) l h in
        let e = error_line before y in
        let b = block_column before y in
        let rest = behind_error b ys in
        let almost = stable before (y ∷ ys) (e ∷ rest) h2 (here before y ys) in
        let un = undecorates before e rest refl (beside before y ys h2) almost in
        let s = more (e ∷ undecorated before) (Some b) (refl, un.fine) in
        let end = settled_from (e ∷ undecorated before) (Some b) ys in
        let step = first-faulty before y ys h2 i in
        let whole = replacing (onto before (y ∷ ys)) (onto before (e ∷ rest)) end step (un.run end s) in
        let same : end ≡ settled_from before taken (y ∷ ys) = rw (t, i) refl in
        subst (λ end. Settles (onto before (lines_behind taken (y ∷ ys))) end) same (subst (λ x. Settles (onto before x) end) (sym l) whole)

-- THE PASS OVER A TEXT
pub pass : (lines : List Line) → Settles lines (settled_from [] None lines)
pass lines = passes lines [] None tt
