-- A cut goes on by a piece; no text has two cuts; and the pieces of a cut, joined, are the text.
use Rattle.std.proofs.Common.{inl, inr, ◌≡◌, ℕ, ◌<◌, ◌≤◌, Bool, true, false, ◌∷◌, [], List, ◌++◌, length, take, drop, refl, sym, ◌∙◌, ap, subst, arith, Option, append_assoc, take-append-drop, ◌+◌, ◌-◌, sum_by, length-drop}
use Rattle.std.proofs.lemmas.List.Sums.{sum_by_push}
use Rattle.std.proofs.lemmas.Bool.{both_ways, cases_order, and_parts}
use Rattle.std.proofs.lemmas.Option.{none-some, same_Some}
use Rattle.py_tokens.specs.Fronts.{IsLongest, HasNone}
use Rattle.py_tokens.specs.Rows.{Fits, row_kind, row_at, fault_row, shape}
use Rattle.py_tokens.specs.Opens.{here, after, is_number}
use Rattle.py_tokens.specs.Cut.{is_done, Cut, flat_texts}
use Rattle.py_tokens.specs.declared.kinds.Piece.{Piece}
use Rattle.py_tokens.specs.declared.rows.Here.{Here}
use Rattle.py_tokens.specs.Nesting.{Nesting, none_open}

pub cut_step : (opens next : Nesting) (number after_number : Bool) (start text left front : List ℕ) (place : Here) (p : Piece) (out more ps : List Piece) → ((qs : List Piece) → Cut opens number text qs → Cut none_open false start (out ++ qs)) → is_done opens text ≡ false → place ≡ here opens number → Fits place text p → next ≡ after opens p.kind front → front ≡ take p.len text → after_number ≡ is_number p.kind → left ≡ drop p.len text → more ≡ out ++ (p ∷ []) → Cut next after_number left ps → Cut none_open false start (more ++ ps)
cut_step opens next number after_number start text left front place p out more ps completes d e f a t n l m cut =
    let rest = subst (λ (o : Nesting). Cut o (is_number p.kind) (drop p.len text) ps) (a ∙ ap (λ x. after opens p.kind x) t)
    (subst (λ (b : Bool). Cut next b (drop p.len text) ps) n (subst (λ (x : List ℕ). Cut next after_number x ps) l cut)) in
    let whole : more ++ ps ≡ out ++ (p ∷ ps) = ap (λ o. o ++ ps) m ∙ append_assoc out (p ∷ []) ps in
    subst (λ (qs : List Piece). Cut none_open false start qs) (sym whole) (completes (p ∷ ps) (d, (subst (λ (x : Here). Fits x text p) e f, rest)))

-- ---- what stands at a place is determined

module _ {K : Type 0} (table : List ℕ → List ℕ → Option K) (text : List ℕ) where
  not_shorter : (r s : ℕ × K) → IsLongest table text r → IsLongest table text s → r.0 < s.0 → ⊥
  not_shorter r s a b h = none-some _ (sym (a.longest s.0 h b.within) ∙ b.fits)

  one_longest : (r s : ℕ × K) → IsLongest table text r → IsLongest table text s → r ≡ s
  one_longest r s a b = elim (cases_order r.0 s.0) [
    | inl e ↦ let k : r.1 ≡ s.1 = same_Some _ _ (sym a.fits ∙ ap (λ i. table (take i text) (drop i text)) e ∙ b.fits) in λ i. (e i, k i)
    | inr d ↦ elim d [ inl h ↦ absurd (not_shorter r s a b h) | inr h ↦ absurd (not_shorter s r b a h) ]
  ]

  none_longest : (r : ℕ × K) → HasNone table text → IsLongest table text r → ⊥
  none_longest r none a = none-some _ (sym (none r.0 a.within) ∙ a.fits)

same_shape : (place : Here) (text : List ℕ) (p q : Piece) → Fits place text p → Fits place text q → shape p ≡ shape q
same_shape place text p q (inl a) (inl b) = one_longest (row_kind (row_at place text)) text (shape p) (shape q) a b
same_shape place text p q (inl a) (inr b) = absurd (none_longest (row_kind (row_at place text)) text (shape p) b.0 a)
same_shape place text p q (inr a) (inl b) = absurd (none_longest (row_kind (row_at place text)) text (shape q) a.0 b)
same_shape place text p q (inr a) (inr b) = one_longest (row_kind (fault_row place text)) text (shape p) (shape q) a.1 b.1

same_piece : (place : Here) (text : List ℕ) (p q : Piece) → Fits place text p → Fits place text q → p ≡ q
same_piece place text p q a b = let e = same_shape place text p q a b in λ i. record { kind = (e i).1; len = (e i).0 }

pub unique : (opens : Nesting) (number : Bool) (text : List ℕ) (ps qs : List Piece) → Cut opens number text ps → Cut opens number text qs → ps ≡ qs
unique opens number text [] [] a b = refl
unique opens number text [] (q ∷ qs) a b = absurd (both_ways _ b.0 a)
unique opens number text (p ∷ ps) [] a b = absurd (both_ways _ a.0 b)
unique opens number text (p ∷ ps) (q ∷ qs) a b =
    let head : p ≡ q = same_piece (here opens number) text p q a.1.0 b.1.0 in
    let tail = unique (after opens p.kind (take p.len text)) (is_number p.kind) (drop p.len text) ps qs a.1.1
    (subst (λ (x : Piece). Cut (after opens x.kind (take x.len text)) (is_number x.kind) (drop x.len text) qs) (sym head) b.1.1) in
    λ i. head i ∷ tail i

end_of_text : (opens : Nesting) (text : List ℕ) → is_done opens text ≡ true → text ≡ []
end_of_text opens [] e = refl
end_of_text opens (c ∷ cs) e = absurd (both_ways _ refl (and_parts _ _ e).1)

pub joins : (opens : Nesting) (number : Bool) (text : List ℕ) (ps : List Piece) → Cut opens number text ps → flat_texts ps text ≡ text
joins opens number text [] c = sym (end_of_text opens text c)
joins opens number text (p ∷ ps) c = ap (λ t. take p.len text ++ t) (joins (after opens p.kind (take p.len text)) (is_number p.kind) (drop p.len text) ps c.1.1) ∙ take-append-drop p.len text

-- the pieces so far and the rest are as long as the text
pub whole_step : (out more : List Piece) (p : Piece) (text left : List ℕ) (n : ℕ) → sum_by (λ (q : Piece). q.len) out + length text ≡ n → p.len ≤ length text → left ≡ drop p.len text → more ≡ out ++ (p ∷ []) → sum_by (λ (q : Piece). q.len) more + length left ≡ n
whole_step out more p text left n w h l m =
    let s : sum_by (λ (q : Piece). q.len) more ≡ sum_by (λ (q : Piece). q.len) out + p.len = ap (sum_by (λ (q : Piece). q.len)) m ∙ sum_by_push (λ (q : Piece). q.len) out p in
    let d : length left ≡ length text - p.len = ap length l ∙ length-drop p.len text in
    omega arith
