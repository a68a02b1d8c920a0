-- The stage behind the lines of a block tells which clause may follow.
use Rattle.std.proofs.Common.{◌≡◌, ℕ, suc, ◌+◌, ◌<◌, ◌≤◌, ◌-◌, ◌⊎◌, inl, inr, Bool, true, false, ◌&&◌, ◌||◌, List, [], ◌∷◌, ◌++◌, length, reverse, take, drop, refl, sym, ◌∙◌, ap, subst, arith, get_or, length-append, length-drop}
use Rattle.std.proofs.lemmas.Bool.{lt-ltb, le-ltb, eq-eqb, ne_eqb, cases_order}
use Rattle.std.proofs.lemmas.List.{take_more, take-append-drop, take-append-le, reverse-append, length-reverse, length-take, length-take-le}
use Rattle.std.proofs.Math.Seq.{drop-append_seam, take-append_seam}
use Rattle.py_blocks.specs.declared.line.Line.{Line}
use Rattle.py_blocks.specs.declared.line.LineKind.{LineKind}
use Rattle.py_blocks.specs.declared.line.LineKind.TheVariants as kinds
use Rattle.py_blocks.specs.declared.stage.Stage.{Stage}
use Rattle.py_blocks.specs.declared.stage.Stage.TheVariants as stages
use Rattle.py_blocks.specs.Lines.{is_error, level_before}
use Rattle.py_blocks.specs.Rules.{is_branch, is_try, is_else, takes_else, takes_except, takes_except_star, takes_finally, is_behind_error, follows, follows_else_of_try, may_follow}
use Rattle.py_blocks.specs.Stages.{passed, behind_else, stage_with, is_branch_stage, takes_else_stage, takes_except_stage, takes_star_stage, takes_finally_stage, takes, stage_of, stages_of, stage_at}
use Rattle.py_blocks.proofs.BlockColumns.{level-here, level-left, level-right}

abbrev is_try_stage : Stage → Bool
is_try_stage stages.Try = true
is_try_stage stages.PassedTry = true
is_try_stage stage = false

abbrev is_passed_stage : Stage → Bool
is_passed_stage stages.PassedTry = true
is_passed_stage stage = false

abbrev is_else_stage : Stage → Bool
is_else_stage stages.ElseOfTry = true
is_else_stage stage = false

abbrev takes_else_alone : Stage → Bool
takes_else_alone stages.Branch = true
takes_else_alone stages.Loop = true
takes_else_alone stages.Handler = true
takes_else_alone stages.StarHandler = true
takes_else_alone stage = false

abbrev takes_finally_alone : Stage → Bool
takes_finally_alone stages.Try = true
takes_finally_alone stages.PassedTry = true
takes_finally_alone stages.Handler = true
takes_finally_alone stages.StarHandler = true
takes_finally_alone stage = false

-- what a stage says of the lines before
record Tells (level : List Line) (stage : Stage) : Type 0 where
  branch : follows is_branch level ≡ is_branch_stage stage
  tries : follows is_try level ≡ is_try_stage stage
  excepts : follows takes_except level ≡ takes_except_stage stage
  stars : follows takes_except_star level ≡ takes_star_stage stage
  finals : follows takes_finally level ≡ takes_finally_alone stage
  elses : follows takes_else level ≡ takes_else_alone stage
  else_of_try : follows_else_of_try level ≡ is_else_stage stage
  behind_error : (is_behind_error level && follows is_try level) ≡ is_passed_stage stage

passed-tells : (y : Line) (ys : List Line) (s : Stage) → y.kind ≡ kinds.Error → Tells ys s → Tells (y ∷ ys) (passed s)
passed-tells y ys stages.Nothing e h = record { branch = rw e h.branch; tries = rw e h.tries; excepts = rw e h.excepts; stars = rw e h.stars; finals = rw e h.finals; elses = rw e h.elses; else_of_try = rw e h.else_of_try; behind_error = rw e h.tries }
passed-tells y ys stages.Branch e h = record { branch = rw e h.branch; tries = rw e h.tries; excepts = rw e h.excepts; stars = rw e h.stars; finals = rw e h.finals; elses = rw e h.elses; else_of_try = rw e h.else_of_try; behind_error = rw e h.tries }
passed-tells y ys stages.Loop e h = record { branch = rw e h.branch; tries = rw e h.tries; excepts = rw e h.excepts; stars = rw e h.stars; finals = rw e h.finals; elses = rw e h.elses; else_of_try = rw e h.else_of_try; behind_error = rw e h.tries }
passed-tells y ys stages.Try e h = record { branch = rw e h.branch; tries = rw e h.tries; excepts = rw e h.excepts; stars = rw e h.stars; finals = rw e h.finals; elses = rw e h.elses; else_of_try = rw e h.else_of_try; behind_error = rw e h.tries }
passed-tells y ys stages.PassedTry e h = record { branch = rw e h.branch; tries = rw e h.tries; excepts = rw e h.excepts; stars = rw e h.stars; finals = rw e h.finals; elses = rw e h.elses; else_of_try = rw e h.else_of_try; behind_error = rw e h.tries }
passed-tells y ys stages.Handler e h = record { branch = rw e h.branch; tries = rw e h.tries; excepts = rw e h.excepts; stars = rw e h.stars; finals = rw e h.finals; elses = rw e h.elses; else_of_try = rw e h.else_of_try; behind_error = rw e h.tries }
passed-tells y ys stages.StarHandler e h = record { branch = rw e h.branch; tries = rw e h.tries; excepts = rw e h.excepts; stars = rw e h.stars; finals = rw e h.finals; elses = rw e h.elses; else_of_try = rw e h.else_of_try; behind_error = rw e h.tries }
passed-tells y ys stages.ElseOfTry e h = record { branch = rw e h.branch; tries = rw e h.tries; excepts = rw e h.excepts; stars = rw e h.stars; finals = rw e h.finals; elses = rw e h.elses; else_of_try = rw e h.else_of_try; behind_error = rw e h.tries }

else-tells : (y : Line) (ys : List Line) (s : Stage) → y.kind ≡ kinds.Else → Tells ys s → Tells (y ∷ ys) (behind_else s)
else-tells y ys stages.Nothing e h = record { branch = rw e refl; tries = rw e refl; excepts = rw e refl; stars = rw e refl; finals = rw e refl; elses = rw e refl; else_of_try = rw e h.finals; behind_error = rw e refl }
else-tells y ys stages.Branch e h = record { branch = rw e refl; tries = rw e refl; excepts = rw e refl; stars = rw e refl; finals = rw e refl; elses = rw e refl; else_of_try = rw e h.finals; behind_error = rw e refl }
else-tells y ys stages.Loop e h = record { branch = rw e refl; tries = rw e refl; excepts = rw e refl; stars = rw e refl; finals = rw e refl; elses = rw e refl; else_of_try = rw e h.finals; behind_error = rw e refl }
else-tells y ys stages.Try e h = record { branch = rw e refl; tries = rw e refl; excepts = rw e refl; stars = rw e refl; finals = rw e refl; elses = rw e refl; else_of_try = rw e h.finals; behind_error = rw e refl }
else-tells y ys stages.PassedTry e h = record { branch = rw e refl; tries = rw e refl; excepts = rw e refl; stars = rw e refl; finals = rw e refl; elses = rw e refl; else_of_try = rw e h.finals; behind_error = rw e refl }
else-tells y ys stages.Handler e h = record { branch = rw e refl; tries = rw e refl; excepts = rw e refl; stars = rw e refl; finals = rw e refl; elses = rw e refl; else_of_try = rw e h.finals; behind_error = rw e refl }
else-tells y ys stages.StarHandler e h = record { branch = rw e refl; tries = rw e refl; excepts = rw e refl; stars = rw e refl; finals = rw e refl; elses = rw e refl; else_of_try = rw e h.finals; behind_error = rw e refl }
else-tells y ys stages.ElseOfTry e h = record { branch = rw e refl; tries = rw e refl; excepts = rw e refl; stars = rw e refl; finals = rw e refl; elses = rw e refl; else_of_try = rw e h.finals; behind_error = rw e refl }

other-tells : (y : Line) (ys : List Line) (k : LineKind) (s : Stage) → y.kind ≡ k → is_error k ≡ false → is_else k ≡ false → ((is_branch k ≡ is_branch_stage s) × (is_try k ≡ is_try_stage s) × (takes_except k ≡ takes_except_stage s) × (takes_except_star k ≡ takes_star_stage s) × (takes_finally k ≡ takes_finally_alone s) × (takes_else k ≡ takes_else_alone s) × (false ≡ is_else_stage s) × (false ≡ is_passed_stage s)) → Tells (y ∷ ys) s
other-tells y ys k s e n l (a, b, c, d, f, g, i, j) = record { branch = rw (e, n) a; tries = rw (e, n) b; excepts = rw (e, n) c; stars = rw (e, n) d; finals = rw (e, n) f; elses = rw (e, n) g; else_of_try = rw (e, n, l) i; behind_error = rw (e, n) j }

tells : (level : List Line) → Tells level (stage_of level)
tells [] = record { branch = refl; tries = refl; excepts = refl; stars = refl; finals = refl; elses = refl; else_of_try = refl; behind_error = refl }
tells (y ∷ ys) = go y.kind refl (tells ys)
  where
    by : (k : LineKind) → y.kind ≡ k → Tells (y ∷ ys) (stage_with (stage_of ys) k) → Tells (y ∷ ys) (stage_with (stage_of ys) y.kind)
    by k e t = subst (λ s. Tells (y ∷ ys) s) (sym (ap (stage_with (stage_of ys)) e)) t

    go : (k : LineKind) → y.kind ≡ k → Tells ys (stage_of ys) → Tells (y ∷ ys) (stage_with (stage_of ys) y.kind)
    go kinds.Error e h = by kinds.Error e (passed-tells y ys (stage_of ys) e h)
    go kinds.Else e h = by kinds.Else e (else-tells y ys (stage_of ys) e h)
    go kinds.Plain e h = by kinds.Plain e (other-tells y ys kinds.Plain stages.Nothing e refl refl (refl, refl, refl, refl, refl, refl, refl, refl))
    go kinds.If e h = by kinds.If e (other-tells y ys kinds.If stages.Branch e refl refl (refl, refl, refl, refl, refl, refl, refl, refl))
    go kinds.Elif e h = by kinds.Elif e (other-tells y ys kinds.Elif stages.Branch e refl refl (refl, refl, refl, refl, refl, refl, refl, refl))
    go kinds.Loop e h = by kinds.Loop e (other-tells y ys kinds.Loop stages.Loop e refl refl (refl, refl, refl, refl, refl, refl, refl, refl))
    go kinds.Try e h = by kinds.Try e (other-tells y ys kinds.Try stages.Try e refl refl (refl, refl, refl, refl, refl, refl, refl, refl))
    go kinds.Except e h = by kinds.Except e (other-tells y ys kinds.Except stages.Handler e refl refl (refl, refl, refl, refl, refl, refl, refl, refl))
    go kinds.ExceptStar e h = by kinds.ExceptStar e (other-tells y ys kinds.ExceptStar stages.StarHandler e refl refl (refl, refl, refl, refl, refl, refl, refl, refl))
    go kinds.Finally e h = by kinds.Finally e (other-tells y ys kinds.Finally stages.Nothing e refl refl (refl, refl, refl, refl, refl, refl, refl, refl))
    go kinds.Match e h = by kinds.Match e (other-tells y ys kinds.Match stages.Nothing e refl refl (refl, refl, refl, refl, refl, refl, refl, refl))
    go kinds.Case e h = by kinds.Case e (other-tells y ys kinds.Case stages.Nothing e refl refl (refl, refl, refl, refl, refl, refl, refl, refl))
    go kinds.Def e h = by kinds.Def e (other-tells y ys kinds.Def stages.Nothing e refl refl (refl, refl, refl, refl, refl, refl, refl, refl))
    go kinds.Class e h = by kinds.Class e (other-tells y ys kinds.Class stages.Nothing e refl refl (refl, refl, refl, refl, refl, refl, refl, refl))
    go kinds.Decorator e h = by kinds.Decorator e (other-tells y ys kinds.Decorator stages.Nothing e refl refl (refl, refl, refl, refl, refl, refl, refl, refl))
    go kinds.Faulty e h = by kinds.Faulty e (other-tells y ys kinds.Faulty stages.Nothing e refl refl (refl, refl, refl, refl, refl, refl, refl, refl))

else-stage : (s : Stage) → (takes_else_alone s || is_passed_stage s) ≡ takes_else_stage s
else-stage stages.Nothing = refl
else-stage stages.Branch = refl
else-stage stages.Loop = refl
else-stage stages.Try = refl
else-stage stages.PassedTry = refl
else-stage stages.Handler = refl
else-stage stages.StarHandler = refl
else-stage stages.ElseOfTry = refl

finally-stage : (s : Stage) → (takes_finally_alone s || is_else_stage s) ≡ takes_finally_stage s
finally-stage stages.Nothing = refl
finally-stage stages.Branch = refl
finally-stage stages.Loop = refl
finally-stage stages.Try = refl
finally-stage stages.PassedTry = refl
finally-stage stages.Handler = refl
finally-stage stages.StarHandler = refl
finally-stage stages.ElseOfTry = refl

-- WHICH CLAUSE MAY FOLLOW
may-follow-takes : (k : LineKind) (level : List Line) → may_follow k level ≡ takes (stage_of level) k
may-follow-takes kinds.Elif level = (tells level).branch
may-follow-takes kinds.Else level = let t = tells level in rw (t.elses, t.behind_error) (else-stage (stage_of level))
may-follow-takes kinds.Except level = (tells level).excepts
may-follow-takes kinds.ExceptStar level = (tells level).stars
may-follow-takes kinds.Finally level = let t = tells level in rw (t.finals, t.else_of_try) (finally-stage (stage_of level))
may-follow-takes kinds.Plain level = refl
may-follow-takes kinds.If level = refl
may-follow-takes kinds.Loop level = refl
may-follow-takes kinds.Try level = refl
may-follow-takes kinds.Match level = refl
may-follow-takes kinds.Case level = refl
may-follow-takes kinds.Def level = refl
may-follow-takes kinds.Class level = refl
may-follow-takes kinds.Decorator level = refl
may-follow-takes kinds.Faulty level = refl
may-follow-takes kinds.Error level = refl

-- what is noted is the stage of the block
pub stage-noted : (before : List Line) (c : ℕ) → stage_at before (stages_of before) c ≡ stage_of (level_before before c)
stage-noted [] c = refl
stage-noted (y ∷ ys) c = go (cases_order y.column c) (stage-noted ys c)
  where
    own : Stage
    own = stage_with (stage_of (level_before ys y.column)) y.kind

    go : ((y.column ≡ c) ⊎ ((y.column < c) ⊎ (c < y.column))) → stage_at ys (stages_of ys) c ≡ stage_of (level_before ys c) → stage_at (y ∷ ys) (stages_of (y ∷ ys)) c ≡ stage_of (level_before (y ∷ ys) c)
    go (inl k) more =
        let l : stage_at (y ∷ ys) (stages_of (y ∷ ys)) c ≡ own = rw (le-ltb c y.column (omega arith), eq-eqb y.column c k) refl in
        l ∙ ap (λ n. stage_with (stage_of (level_before ys n)) y.kind) k ∙ sym (ap stage_of (level-here c y (level_before ys c) k))
    go (inr (inl k)) more =
        let ne : y.column ≡ c → ⊥ = λ e. omega arith in
        let l : stage_at (y ∷ ys) (stages_of (y ∷ ys)) c ≡ stages.Nothing = rw (le-ltb c y.column (omega arith), ne_eqb y.column c ne) refl in
        l ∙ sym (ap stage_of (level-left c y (level_before ys c) k))
    go (inr (inr k)) more =
        let l : stage_at (y ∷ ys) (stages_of (y ∷ ys)) c ≡ stage_at ys (stages_of ys) c = rw (lt-ltb c y.column k) refl in
        l ∙ more ∙ sym (ap stage_of (level-right c y (level_before ys c) k))

pub takes-right : (k : LineKind) (before : List Line) (notes : List Stage) (c : ℕ) → notes ≡ stages_of before → takes (stage_at before notes c) k ≡ may_follow k (level_before before c)
takes-right k before notes c e = ap (λ n. takes (stage_at before n c) k) e ∙ ap (λ s. takes s k) (stage-noted before c) ∙ sym (may-follow-takes k (level_before before c))

-- ---- stages that are noted

pub stages-more : (xs : List Line) (notes more : List Stage) (at : ℕ) (x d : Line) (stage : Stage) → at < length xs → x ≡ get_or xs at d → reverse notes ≡ stages_of (reverse (take at xs)) → stage ≡ stage_with (stage_at (reverse (take at xs)) (reverse notes) x.column) x.kind → more ≡ notes ++ stage ∷ [] → reverse more ≡ stages_of (reverse (take (at + 1) xs))
stages-more xs notes more at x d stage lt e h is m =
    let before = reverse (take at xs) in
    let front : take (at + 1) xs ≡ take at xs ++ x ∷ [] = take_more xs at d lt ∙ ap (λ y. take at xs ++ y ∷ []) (sym e) in
    let back : reverse (take (at + 1) xs) ≡ x ∷ before = ap reverse front ∙ reverse-append (take at xs) (x ∷ []) in
    let own : stage ≡ stage_with (stage_of (level_before before x.column)) x.kind = is ∙ ap (λ n. stage_with (stage_at before n x.column) x.kind) h ∙ ap (λ s. stage_with s x.kind) (stage-noted before x.column) in
    ap reverse m ∙ reverse-append notes (stage ∷ []) ∙ ap (λ s. s ∷ reverse notes) own ∙ ap (λ l. stage_with (stage_of (level_before before x.column)) x.kind ∷ l) h ∙ sym (ap stages_of back)

stages-length : (xs : List Line) → length (stages_of xs) ≡ length xs
stages-length [] = refl
stages-length (x ∷ xs) = ap suc (stages-length xs)

stages-drop : (xs ys : List Line) → drop (length xs) (stages_of (xs ++ ys)) ≡ stages_of ys
stages-drop [] ys = refl
stages-drop (x ∷ xs) ys = stages-drop xs ys

noted-length : (old : List Line) (notes : List Stage) → reverse notes ≡ stages_of (reverse old) → length notes ≡ length old
noted-length old notes h = sym (length-reverse notes) ∙ ap length h ∙ stages-length (reverse old) ∙ length-reverse old

pub stages-kept : (old : List Line) (notes : List Stage) (k : ℕ) → reverse notes ≡ stages_of (reverse old) → k ≤ length old → reverse (take k notes) ≡ stages_of (reverse (take k old))
stages-kept old notes k h le =
    let n = noted-length old notes h in
    let whole : reverse old ≡ reverse (drop k old) ++ reverse (take k old) = ap reverse (sym (take-append-drop k old)) ∙ reverse-append (take k old) (drop k old) in
    let noted : reverse notes ≡ reverse (drop k notes) ++ reverse (take k notes) = ap reverse (sym (take-append-drop k notes)) ∙ reverse-append (take k notes) (drop k notes) in
    let same : length (reverse (drop k old)) ≡ length (reverse (drop k notes)) = length-reverse (drop k old) ∙ length-drop k old ∙ ap (λ m. m - k) (sym n) ∙ sym (length-drop k notes) ∙ sym (length-reverse (drop k notes)) in
    let right = stages-drop (reverse (drop k old)) (reverse (take k old)) in
    let left = drop-append_seam (reverse (drop k notes)) (reverse (take k notes)) in
    sym left ∙ ap (λ l. drop (length (reverse (drop k notes))) l) (sym noted ∙ h ∙ ap stages_of whole) ∙ ap (λ m. drop m (stages_of (reverse (drop k old) ++ reverse (take k old)))) (sym same) ∙ right

take-within : (k : ℕ) (xs : List Line) → length (take k xs) ≡ k → k ≤ length xs
take-within k xs e = let l = length-take k xs in omega arith

pub record MayAdd (standing : List Line) (notes : List Stage) : Type 0 where
  pub within : length notes ≤ length standing
  pub noted : reverse notes ≡ stages_of (reverse (take (length notes) standing))

pub may-add-turned : (old turned new : List Line) (e : Line) (notes kept : List Stage) (k : ℕ) → reverse notes ≡ stages_of (reverse old) → k ≤ length old → take k turned ≡ take k old → new ≡ turned ++ e ∷ [] → kept ≡ take k notes → MayAdd new kept
may-add-turned old turned new e notes kept k h le b n t =
    let m = noted-length old notes h in
    let len : length kept ≡ k = ap length t ∙ length-take-le k notes (omega arith) in
    let tl : length (take k turned) ≡ k = ap length b ∙ length-take-le k old le in
    let within : k ≤ length turned = take-within k turned tl in
    let front : take (length kept) new ≡ take k old = ap (λ i. take i new) len ∙ ap (take k) n ∙ take-append-le k turned (e ∷ []) within ∙ b in
    record {
      within = let ln : length new ≡ length turned + 1 = ap length n ∙ length-append turned (e ∷ []) in omega arith;
      noted = ap reverse t ∙ stages-kept old notes k h le ∙ sym (ap (λ l. stages_of (reverse l)) front);
    }

pub may-add-one : (old new : List Line) (x : Line) (notes : List Stage) → reverse notes ≡ stages_of (reverse old) → new ≡ old ++ x ∷ [] → MayAdd new notes
may-add-one old new x notes h n =
    let m = noted-length old notes h in
    let front : take (length notes) new ≡ old = ap (λ i. take i new) m ∙ ap (take (length old)) n ∙ take-append_seam old (x ∷ []) in
    record {
      within = let ln : length new ≡ length old + 1 = ap length n ∙ length-append old (x ∷ []) in omega arith;
      noted = h ∙ sym (ap (λ l. stages_of (reverse l)) front);
    }
