-- The longest text of a row, and that a fault always has one.
use Rattle.std.proofs.Common.{◌≡◌, ℕ, zero, suc, ◌+◌, ◌-◌, ◌<◌, ◌≤◌, Bool, true, false, ◌∷◌, [], List, length, take, drop, refl, sym, ◌∙◌, ap, arith, Option, Some, None, cond, ◌&&◌, not, eq-eqb, ne_eqb, length-take-le}
use Rattle.std.proofs.lemmas.Bool.{cond-true, cond-false, and_from, and_left, and_right}
use Rattle.std.proofs.lemmas.Option.{none-some}
use Rattle.py_tokens.specs.Chars.{every, has}
use Rattle.py_tokens.specs.Fronts.{IsLongest, HasNone, IsLongestBy}
use Rattle.py_tokens.specs.Rows.{row_kind, fault_row, fault_in, code_fault, unclosed_or, run_kind, not_empty}
use Rattle.py_tokens.specs.Words.{is_glued}
use Rattle.py_tokens.specs.States.{when}
use Rattle.py_tokens.specs.Strings.{string_opening}
use Rattle.py_tokens.specs.declared.kinds.Kind.{Kind}
use Rattle.py_tokens.specs.declared.kinds.Kind.TheVariants.{Fault}
use Rattle.py_tokens.specs.declared.kinds.TokenFault.{TokenFault}
use Rattle.py_tokens.specs.declared.kinds.TokenFault.TheVariants.{BadCharacter, NestingLimit, UnclosedString}
use Rattle.py_tokens.specs.declared.chars.Class.{Class}
use Rattle.py_tokens.specs.declared.chars.Class.TheVariants.{InLine}
use Rattle.py_tokens.specs.declared.strings.Opening.{Opening}
use Rattle.py_tokens.specs.declared.rows.Mode.{Mode}
use Rattle.py_tokens.specs.declared.rows.Mode.TheVariants.{Code, Text}
use Rattle.py_tokens.specs.declared.rows.Here.{Here}
use Rattle.py_tokens.specs.declared.rows.Row.TheVariants.{Exactly, Run, Skipped, Stop, Nothing}

-- a front of some length is not empty
front_some : (n : ℕ) (text : List ℕ) → 0 < n → n ≤ length text → not_empty (take n text) ≡ true
front_some zero text z l = absurd (omega arith)
front_some (suc n) [] z l = absurd (omega arith)
front_some (suc n) (c ∷ cs) z l = refl

-- ---- the texts of one length

pub exact_longest : (n : ℕ) (k : Kind) (text : List ℕ) → 0 < n → n ≤ length text → IsLongest (row_kind (Exactly n k)) text (n, k)
exact_longest n k text z l = record {
  within = l;
  fits = cond-true _ _ _ (and_from _ _ (front_some n text z l) (eq-eqb _ _ (length-take-le n text l)));
  longest = λ m a b. cond-false _ _ _ (and_right (not_empty (take m text)) _ (ne_eqb _ _ (λ e. let same = length-take-le m text b in absurd (omega arith))));
}

pub exact_none : (n : ℕ) (k : Kind) (text : List ℕ) → (0 < n → n ≤ length text → ⊥) → HasNone (row_kind (Exactly n k)) text
exact_none n k text never zero l = refl
exact_none n k text never (suc m) l =
    cond-false _ _ _ (and_right (not_empty (take (suc m) text)) _ (ne_eqb _ _ (λ e. let same = length-take-le (suc m) text l in absurd (never (omega arith) (omega arith)))))

-- ---- runs

pub run_longest : (class : Class) (n : ℕ) (text : List ℕ) (k : Kind) → 0 < n → IsLongestBy (every (has class)) n text → k ≡ run_kind class (take n text) → IsLongest (row_kind (Run class)) text (n, k)
run_longest class n text k z by e = record {
  within = by.within;
  fits = cond-true _ _ _ (and_from _ _ by.passes (front_some n text z by.within)) ∙ ap Some (sym e);
  longest = λ m a b. cond-false _ _ _ (and_left _ _ (by.longest m a b));
}

pub run_none : (class : Class) (text : List ℕ) → IsLongestBy (every (has class)) 0 text → HasNone (row_kind (Run class)) text
run_none class text by zero l = refl
run_none class text by (suc m) l = cond-false _ _ _ (and_left _ _ (by.longest (suc m) (omega arith) l))

-- ---- what a fault takes along

pub skip_longest : (fault : TokenFault) (c : ℕ) (rest : List ℕ) (n : ℕ) → IsLongestBy (every (has InLine)) n rest → IsLongest (row_kind (Skipped fault)) (c ∷ rest) (n + 1, Fault fault)
skip_longest fault c rest n by = record {
  within = let w = by.within in omega arith;
  fits = ap (λ k. row_kind (Skipped fault) (take k (c ∷ rest)) (drop k (c ∷ rest))) (let e : n + 1 ≡ suc n = omega arith in e) ∙ cond-true _ _ _ by.passes;
  longest = λ m a b. ap (λ k. row_kind (Skipped fault) (take k (c ∷ rest)) (drop k (c ∷ rest))) (let e : m ≡ suc (m - 1) = omega arith in e) ∙ cond-false _ _ _ (by.longest (m - 1) (omega arith) (omega arith));
}

pub skip_none : (fault : TokenFault) → HasNone (row_kind (Skipped fault)) []
skip_none fault zero l = refl
skip_none fault (suc m) l = refl

pub stop_longest : (fault : TokenFault) (text : List ℕ) → IsLongest (row_kind (Stop fault)) text (0, Fault fault)
stop_longest fault text = record {
  within = omega arith;
  fits = refl;
  longest = λ m a b. ap (λ (x : Bool). when (not x) (Fault fault)) (front_some m text a b);
}

pub nothing_none : (text : List ℕ) → HasNone (row_kind Nothing) text
nothing_none text m l = refl

-- a fault always takes something along, if only the empty text
code_fits : (glued : Bool) (opening : Option Opening) (deep : Bool) (c : ℕ) (cs : List ℕ) → HasNone (row_kind (cond glued (Skipped BadCharacter) (unclosed_or opening (cond deep (Skipped NestingLimit) (Skipped BadCharacter))))) (c ∷ cs) → ⊥
code_fits true opening deep c cs nothing = none-some _ (sym (nothing 1 (omega arith)))
code_fits false None true c cs nothing = none-some _ (sym (nothing 1 (omega arith)))
code_fits false None false c cs nothing = none-some _ (sym (nothing 1 (omega arith)))
code_fits false (Some o) deep c cs nothing = none-some _ (sym (nothing 1 (omega arith)))

text_fits : (opens closes ends : Bool) (c : ℕ) (cs : List ℕ) → HasNone (row_kind (cond opens (Skipped NestingLimit) (cond closes (Skipped BadCharacter) (cond ends (Stop UnclosedString) (Skipped UnclosedString))))) (c ∷ cs) → ⊥
text_fits true closes ends c cs nothing = none-some _ (sym (nothing 1 (omega arith)))
text_fits false true ends c cs nothing = none-some _ (sym (nothing 1 (omega arith)))
text_fits false false true c cs nothing = none-some _ (sym (nothing 0 (omega arith)))
text_fits false false false c cs nothing = none-some _ (sym (nothing 1 (omega arith)))

fault_in_none : (mode : Mode) (here : Here) (text : List ℕ) → HasNone (row_kind (fault_in mode here text)) text → ⊥
unfolding code_fault
fault_in_none mode here [] nothing = none-some _ (sym (nothing 0 (omega arith)))
fault_in_none (Code in_field) here (c ∷ cs) nothing = code_fits (here.after_number && is_glued (c ∷ cs)) (string_opening (c ∷ cs)) _ c cs nothing
fault_in_none (Text in_format quotes) here (c ∷ cs) nothing = text_fits _ _ _ c cs nothing

pub fault_none : (here : Here) (text : List ℕ) → HasNone (row_kind (fault_row here text)) text → ⊥
fault_none here text nothing = fault_in_none here.mode here text nothing
