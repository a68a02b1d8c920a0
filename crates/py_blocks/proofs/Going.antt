-- The pass, line by line.
use Rattle.std.proofs.Common.{◌≡◌, ℕ, suc, ◌+◌, ◌<◌, ◌≤◌, ◌==◌, nat_lt, Bool, true, false, not, ◌&&◌, Option, Some, None, List, [], ◌∷◌, ◌++◌, length, reverse, drop, refl, sym, ◌∙◌, ap, subst, arith, get_or, append_assoc, append-nil}
use Rattle.std.proofs.Math.Seq.{drop-cons}
use Rattle.std.proofs.lemmas.List.{reverse-append, reverse-reverse, drop_all}
use Rattle.std.proofs.lemmas.Bool.{eqb-true, le-ltb, not-false, or_parts, and_parts}
use Rattle.py_blocks.specs.declared.line.Line.{Line}
use Rattle.py_blocks.specs.Lines.{is_error, block_column, error_line}
use Rattle.py_blocks.specs.declared.setting.Setting.{Setting}
use Rattle.py_blocks.specs.Rules.{is_decorator, is_decorated, is_faulty, opens_nothing, decorates_nothing}
use Rattle.py_blocks.specs.Settings.{setting_around, settings_of, around_by}
use Rattle.py_blocks.specs.declared.stage.Stage.{Stage}
use Rattle.py_blocks.specs.Stages.{stages_of}
use Rattle.py_blocks.specs.Settling.{onto, Settles}
use Rattle.py_blocks.specs.OnePass.{undecorated, is_taken, settled_from}
use Rattle.py_blocks.specs.Passing.{Aligned, IsPut}
use Rattle.py_blocks.proofs.Keeping.{fine-parts}
use Rattle.py_blocks.proofs.Matching.{error-more, error-noted, around-right}
use Rattle.py_blocks.proofs.Passing.{pass}

-- what is known before the line at a place
pub record IsPassing (lines : List Line) (at : ℕ) (standing : List Line) (notes : List Setting) (stages : List Stage) (taken : Option ℕ) : Type 0 where
  pub same : settled_from (reverse standing) taken (drop at lines) ≡ settled_from [] None lines
  pub aligned : Aligned (reverse standing)
  pub noted : reverse notes ≡ settings_of (reverse standing)
  pub staged : reverse stages ≡ stages_of (reverse standing)

-- ---- a faulty line

put-now : (old turned new : List Line) (x e : Line) → e ≡ error_line (reverse old) x → reverse turned ≡ undecorated (reverse old) → new ≡ turned ++ e ∷ [] → reverse new ≡ error_line (reverse old) x ∷ undecorated (reverse old)
put-now old turned new x e err t n =
    ap reverse n ∙ reverse-append turned (e ∷ []) ∙ ap (λ l. e ∷ l) t ∙ ap (λ y. y ∷ undecorated (reverse old)) err

pub put-faulty : (old turned new behind : List Line) (x e : Line) → Aligned (reverse old) → is_faulty (reverse old) x behind ≡ true → e ≡ error_line (reverse old) x → reverse turned ≡ undecorated (reverse old) → new ≡ turned ++ e ∷ [] → IsPut (reverse old) x behind (reverse new) (Some e.column)
put-faulty old turned new behind x e h f err t n =
    let now = put-now old turned new x e err t n in
    let column : Some e.column ≡ Some (block_column (reverse old) x) = ap (λ y. Some y.column) err in
    record {
      aligned = subst Aligned (sym now) (error-more (reverse old) x h);
      lines = rw f now;
      takes = rw f column;
    }

pub faulty-noted : (old turned new : List Line) (notes more : List Setting) (x e : Line) (note : Setting) → Aligned (reverse old) → reverse notes ≡ settings_of (reverse old) → e ≡ error_line (reverse old) x → reverse turned ≡ undecorated (reverse old) → new ≡ turned ++ e ∷ [] → note ≡ around_by (reverse old) (reverse notes) e → more ≡ notes ++ note ∷ [] → reverse more ≡ settings_of (reverse new)
faulty-noted old turned new notes more x e note h k err t n is m =
    let ys = reverse old in
    let now = put-now old turned new x e err t n in
    let one : note ≡ around_by ys (settings_of ys) (error_line ys x) = is ∙ ap (λ l. around_by ys l e) k ∙ ap (around_by ys (settings_of ys)) err in
    let left : reverse more ≡ around_by ys (settings_of ys) (error_line ys x) ∷ settings_of ys = ap reverse m ∙ reverse-append notes (note ∷ []) ∙ ap (λ b. b ∷ reverse notes) one ∙ ap (λ l. around_by ys (settings_of ys) (error_line ys x) ∷ l) k in
    left ∙ sym (ap settings_of now ∙ error-noted ys x h)

-- ---- a line that isn't

decorator-closed : (before : List Line) (x : Line) (behind : List Line) → is_faulty before x behind ≡ false → is_error x.kind ≡ false → is_decorator x.kind ≡ true → x.opens ≡ false
decorator-closed before x behind f r d = go behind (fine-parts before x behind f r).opens (fine-parts before x behind f r).decorates
  where
    go : (behind : List Line) → opens_nothing x behind ≡ false → decorates_nothing x behind ≡ false → x.opens ≡ false
    go [] o k = o
    go (y ∷ ys) o k =
        let p : not (is_decorated y.kind && y.column == x.column) ≡ false = rw d at k in
        let q = eqb-true y.column x.column (and_parts (is_decorated y.kind) (y.column == x.column) (not-false _ p)).1 in
        let n : nat_lt x.column y.column ≡ false = le-ltb x.column y.column (omega arith) in
        closed x.opens (rw n at o)
      where
        closed : (b : Bool) → (b && true) ≡ false → b ≡ false
        closed true e = e
        closed false e = e

fine-aligned : (before : List Line) (x : Line) (behind : List Line) → is_faulty before x behind ≡ false → is_error x.kind ≡ false → block_column before x ≡ x.column
fine-aligned before x behind f r =
    let s : not (block_column before x == x.column) ≡ false = (or_parts _ _ (fine-parts before x behind f r).placed).0 in
    eqb-true (block_column before x) x.column (not-false _ s)

pub put-fine : (old new behind : List Line) (x : Line) → Aligned (reverse old) → is_error x.kind ≡ false → is_faulty (reverse old) x behind ≡ false → new ≡ old ++ x ∷ [] → IsPut (reverse old) x behind (reverse new) None
put-fine old new behind x h r f n =
    let now : reverse new ≡ x ∷ reverse old = ap reverse n ∙ reverse-append old (x ∷ []) in
    record {
      aligned = subst Aligned (sym now) (fine-aligned (reverse old) x behind f r, decorator-closed (reverse old) x behind f r, h);
      lines = rw f now;
      takes = rw f refl;
    }

pub fine-noted : (old new behind : List Line) (notes more : List Setting) (x : Line) (note : Setting) → is_error x.kind ≡ false → is_faulty (reverse old) x behind ≡ false → reverse notes ≡ settings_of (reverse old) → new ≡ old ++ x ∷ [] → note ≡ around_by (reverse old) (reverse notes) x → more ≡ notes ++ note ∷ [] → reverse more ≡ settings_of (reverse new)
fine-noted old new behind notes more x note r f k n is m =
    let ys = reverse old in
    let now : reverse new ≡ x ∷ ys = ap reverse n ∙ reverse-append old (x ∷ []) in
    let one : note ≡ setting_around ys x.column = is ∙ ap (λ l. around_by ys l x) k ∙ around-right ys x (fine-aligned ys x behind f r) in
    let left : reverse more ≡ setting_around ys x.column ∷ settings_of ys = ap reverse m ∙ reverse-append notes (note ∷ []) ∙ ap (λ b. b ∷ reverse notes) one ∙ ap (λ l. setting_around ys x.column ∷ l) k in
    left ∙ sym (ap settings_of now)

-- ---- the pass

pub passing-start : (lines : List Line) (standing : List Line) (notes : List Setting) (stages : List Stage) → standing ≡ [] → notes ≡ [] → stages ≡ [] → IsPassing lines 0 standing notes stages None
passing-start lines standing notes stages s n g =
    let e : reverse standing ≡ [] = ap reverse s in
    let m : reverse notes ≡ [] = ap reverse n in
    record {
      same = ap (λ l. settled_from l None lines) e;
      aligned = subst Aligned (sym e) tt;
      noted = m ∙ sym (ap settings_of e);
      staged = ap reverse g ∙ sym (ap stages_of e);
    }

here-of : (lines : List Line) (at : ℕ) (x d : Line) → at < length lines → x ≡ get_or lines at d → drop at lines ≡ x ∷ drop (at + 1) lines
here-of lines at x d lt e = let n : suc at ≡ at + 1 = omega arith in drop-cons lines at d lt ∙ ap (λ y. y ∷ drop (suc at) lines) (sym e) ∙ ap (λ k. x ∷ drop k lines) n

pub passing-taken : (lines : List Line) (at : ℕ) (standing : List Line) (notes : List Setting) (stages : List Stage) (taken : Option ℕ) (x d : Line) → at < length lines → x ≡ get_or lines at d → is_taken taken x ≡ true → IsPassing lines at standing notes stages taken → IsPassing lines (at + 1) standing notes stages taken
passing-taken lines at standing notes stages taken x d lt e t h =
    let step : settled_from (reverse standing) taken (x ∷ drop (at + 1) lines) ≡ settled_from (reverse standing) taken (drop (at + 1) lines) = rw t refl in
    record {
      same = sym step ∙ ap (settled_from (reverse standing) taken) (sym (here-of lines at x d lt e)) ∙ h.same;
      aligned = h.aligned;
      noted = h.noted;
      staged = h.staged;
    }

pub passing-put : (lines : List Line) (at : ℕ) (standing new : List Line) (notes more : List Setting) (stages now : List Stage) (taken next : Option ℕ) (x d : Line) (behind : List Line) → at < length lines → x ≡ get_or lines at d → is_taken taken x ≡ false → behind ≡ drop (at + 1) lines → IsPut (reverse standing) x behind (reverse new) next → reverse more ≡ settings_of (reverse new) → reverse now ≡ stages_of (reverse new) → IsPassing lines at standing notes stages taken → IsPassing lines (at + 1) new more now next
passing-put lines at standing new notes more stages now taken next x d behind lt e t b put m g h =
    let step = steps (is_faulty (reverse standing) x behind) refl in
    record {
      same = sym step ∙ ap (λ l. settled_from (reverse standing) taken (x ∷ l)) b ∙ ap (settled_from (reverse standing) taken) (sym (here-of lines at x d lt e)) ∙ h.same;
      aligned = put.aligned;
      noted = m;
      staged = g;
    }
  where
    steps : (f : Bool) → is_faulty (reverse standing) x behind ≡ f → settled_from (reverse standing) taken (x ∷ behind) ≡ settled_from (reverse new) next (drop (at + 1) lines)
    steps true f =
        let l : reverse new ≡ error_line (reverse standing) x ∷ undecorated (reverse standing) = rw f at put.lines in
        let n : next ≡ Some (block_column (reverse standing) x) = rw f at put.takes in
        let one : settled_from (reverse standing) taken (x ∷ behind) ≡ settled_from (error_line (reverse standing) x ∷ undecorated (reverse standing)) (Some (block_column (reverse standing) x)) behind = rw (t, f) refl in
        one ∙ ap (λ o. settled_from (error_line (reverse standing) x ∷ undecorated (reverse standing)) o behind) (sym n) ∙ ap (λ s. settled_from s next behind) (sym l) ∙ ap (settled_from (reverse new) next) b
    steps false f =
        let l : reverse new ≡ x ∷ reverse standing = rw f at put.lines in
        let n : next ≡ None = rw f at put.takes in
        let one : settled_from (reverse standing) taken (x ∷ behind) ≡ settled_from (x ∷ reverse standing) None behind = rw (t, f) refl in
        one ∙ ap (λ o. settled_from (x ∷ reverse standing) o behind) (sym n) ∙ ap (λ s. settled_from s next behind) (sym l) ∙ ap (settled_from (reverse new) next) b

onto-reverse : (xs ys : List Line) → onto xs ys ≡ reverse xs ++ ys
onto-reverse [] ys = refl
onto-reverse (x ∷ xs) ys = onto-reverse xs (x ∷ ys) ∙ sym (append_assoc (reverse xs) (x ∷ []) ys) ∙ ap (λ l. l ++ ys) (sym (reverse-append (x ∷ []) xs))

pub passing-end : (lines : List Line) (at : ℕ) (standing : List Line) (notes : List Setting) (stages : List Stage) (taken : Option ℕ) → length lines ≤ at → IsPassing lines at standing notes stages taken → Settles lines standing
passing-end lines at standing notes stages taken le h =
    let none : drop at lines ≡ [] = drop_all at lines le in
    let back : onto (reverse standing) [] ≡ standing = onto-reverse (reverse standing) [] ∙ append-nil (reverse (reverse standing)) ∙ reverse-reverse standing in
    let same : settled_from [] None lines ≡ standing = sym h.same ∙ ap (settled_from (reverse standing) taken) none ∙ back in
    subst (Settles lines) same (pass lines)
