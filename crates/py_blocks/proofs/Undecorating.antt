-- Decorators at the end of lines become error lines in their places.
use Rattle.std.proofs.Common.{◌≡◌, ℕ, zero, suc, ◌+◌, ◌<◌, ◌≤◌, ◌-◌, true, false, get_or, append_assoc, List, [], ◌∷◌, ◌++◌, length, reverse, take, drop, refl, sym, ◌∙◌, ap, arith}
use Rattle.std.proofs.Math.ListN.{set, length-set}
use Rattle.std.proofs.lemmas.List.{take_more, take-append-drop, reverse-append, drop-set, take-set}
use Rattle.py_blocks.specs.declared.line.Line.{Line}
use Rattle.py_blocks.specs.Lines.{error_line}
use Rattle.py_blocks.specs.Rules.{is_decorator}
use Rattle.py_blocks.specs.OnePass.{undecorated}

-- from a place on the lines are done
pub record AreTurned (old items : List Line) (at : ℕ) : Type 0 where
  pub within : at ≤ length items
  pub len : length items ≡ length old
  pub before : take at items ≡ take at old
  pub same : undecorated (reverse old) ≡ reverse (drop at items) ++ undecorated (reverse (take at items))

pub shorter : (xs ys : List Line) (i n : ℕ) → i ≤ n → take n xs ≡ take n ys → take i xs ≡ take i ys
shorter xs ys zero n le e = refl
shorter xs ys (suc i) zero le e = absurd (omega arith)
shorter [] [] (suc i) (suc n) le e = refl
shorter [] (y ∷ ys) (suc i) (suc n) le e = cc
shorter (x ∷ xs) [] (suc i) (suc n) le e = cc
shorter (x ∷ xs) (y ∷ ys) (suc i) (suc n) le e =
    let a : x ≡ y = cc in
    let b : take n xs ≡ take n ys = cc in
    ap (λ z. z ∷ take i xs) a ∙ ap (λ l. y ∷ l) (shorter xs ys i n (omega arith) b)

last-of : (items : List Line) (at : ℕ) (y d : Line) → 0 < at → at ≤ length items → y ≡ get_or items (at - 1) d → reverse (take at items) ≡ y ∷ reverse (take (at - 1) items)
last-of items at y d p w e =
    let i = at - 1 in
    let lt : i < length items = omega arith in
    let n : i + 1 ≡ at = omega arith in
    let front : take at items ≡ take i items ++ y ∷ [] = ap (λ k. take k items) (sym n) ∙ take_more items i d lt ∙ ap (λ x. take i items ++ x ∷ []) (sym e) in
    ap reverse front ∙ reverse-append (take i items) (y ∷ [])

pub turned-stop : (old items : List Line) (at : ℕ) (y d : Line) → 0 < at → y ≡ get_or items (at - 1) d → is_decorator y.kind ≡ false → AreTurned old items at → reverse items ≡ undecorated (reverse old)
turned-stop old items at y d p e k h =
    let last = last-of items at y d p h.within e in
    let stays : undecorated (y ∷ reverse (take (at - 1) items)) ≡ y ∷ reverse (take (at - 1) items) = rw k refl in
    let same : undecorated (reverse (take at items)) ≡ reverse (take at items) = ap undecorated last ∙ stays ∙ sym last in
    sym (h.same ∙ ap (λ l. reverse (drop at items) ++ l) same ∙ sym (reverse-append (take at items) (drop at items)) ∙ ap reverse (take-append-drop at items))

pub turned-next : (old items : List Line) (at : ℕ) (y d e : Line) → 0 < at → y ≡ get_or items (at - 1) d → is_decorator y.kind ≡ true → e ≡ error_line (reverse (take (at - 1) items)) y → AreTurned old items at → AreTurned old (set items (at - 1) e) (at - 1)
turned-next old items at y d e p is k err h =
    let i = at - 1 in
    let within = h.within in
    let lt : i < length items = omega arith in
    let n : i + 1 ≡ at = omega arith in
    let last = last-of items at y d p h.within is in
    let turns : undecorated (y ∷ reverse (take i items)) ≡ e ∷ undecorated (reverse (take i items)) = rw (k, err) refl in
    let back : drop i (set items i e) ≡ e ∷ drop at items = drop-set items i e lt ∙ ap (λ m. e ∷ drop m items) n in
    let rev : reverse (drop i (set items i e)) ≡ reverse (drop at items) ++ e ∷ [] = ap reverse back ∙ reverse-append (e ∷ []) (drop at items) in
    let u = undecorated (reverse (take i items)) in
    let whole : undecorated (reverse old) ≡ reverse (drop i (set items i e)) ++ u = h.same ∙ ap (λ l. reverse (drop at items) ++ undecorated l) last ∙ ap (λ l. reverse (drop at items) ++ l) turns ∙ sym (append_assoc (reverse (drop at items)) (e ∷ []) u) ∙ ap (λ l. l ++ u) (sym rev) in
    record {
      within = let len = length-set items i e in omega arith;
      len = length-set items i e ∙ h.len;
      before = take-set items i e ∙ shorter items old i at (omega arith) h.before;
      same = whole ∙ ap (λ l. reverse (drop i (set items i e)) ++ undecorated (reverse l)) (sym (take-set items i e));
    }
