-- Plain steps over lists of parameters and of members.
use Rattle.std.proofs.Common.{◌≡◌, ℕ, zero, suc, ◌+◌, ◌-◌, ◌<◌, ◌==◌, List, [], ◌∷◌, ◌++◌, length, get_or, drop, Bool, true, false, not, ◌&&◌, refl, sym, ap, ◌∙◌, append_assoc, arith}
use Rattle.std.specs.List.{filter, list_all}
use Rattle.std.proofs.lemmas.List.{drop_more}
use Rattle.py_base.specs.declared.ids.ClassId.{ClassId}
use Rattle.py_base.specs.declared.ids.FuncId.{FuncId}
use Rattle.type_terms.specs.declared.literal.Literal.TheVariants as literal
use Rattle.type_terms.specs.declared.atom.Atom.{Atom}
use Rattle.type_terms.specs.declared.atom.Atom.TheVariants as atom
use Rattle.type_terms.specs.Facts.{FactTable}
use Rattle.type_terms.specs.Widen.{members_from}
use Rattle.type_terms.proofs.OutOf.{out-Func, out-Bound}
use Rattle.assign_rules.specs.Takes.{takes, func_takes, bound_takes, level_takes}

and_true : (b : Bool) → (b && true) ≡ b
and_true true = refl
and_true false = refl

pub one_func : (facts : FactTable) (count : ℕ) (func : FuncId) → list_all (takes facts count) (atom.Func func ∷ []) ≡ func_takes facts func count
unfolding takes
one_func facts count func = and_true (takes facts count (atom.Func func)) ∙ ap (level_takes facts count) (out-Func func)

pub one_bound : (facts : FactTable) (count : ℕ) (func : FuncId) → list_all (takes facts count) (atom.Bound func ∷ []) ≡ bound_takes facts func count
unfolding takes
one_bound facts count func = and_true (takes facts count (atom.Bound func)) ∙ ap (level_takes facts count) (out-Bound func)

module _ {X : Type 0} (p d : X → Bool) where
  filled : (left : ℕ) (next : ℕ) (x : X) (xs : List X) → p x ≡ true → next ≡ left - 1 → ((left == 0) && not (d x)) ≡ false → list_all d (drop left (filter p (x ∷ xs))) ≡ list_all d (drop next (filter p xs))
  filled zero next x xs is e full =
      let has : d x ≡ true = elim (d x) as (λ b. d x ≡ b → (true && not b) ≡ false → d x ≡ true) [ true ↦ λ e f. e | false ↦ λ e f. let no : ⊥ = cc in absurd no ] refl full in
      let none : next ≡ 0 = omega arith in
      rw (is, none) (ap (λ b. b && list_all d (filter p xs)) has)
  filled (suc left) next x xs is e full =
      let less : next ≡ left = omega arith in
      rw (is, less) refl

  pub next_default : (xs : List X) (i : ℕ) (x : X) (left next : ℕ) (whole : Bool) → i < length xs → x ≡ get_or xs i x → p x ≡ true → next ≡ left - 1 → ((left == 0) && not (d x)) ≡ false
      → list_all d (drop left (filter p (drop i xs))) ≡ whole → list_all d (drop next (filter p (drop (i + 1) xs))) ≡ whole
  next_default xs i x left next whole within at is e full so =
      sym (filled left next x (drop (i + 1) xs) is e full) ∙ ap (λ ys. list_all d (drop left (filter p ys))) (sym (drop_more xs i x within ∙ ap (λ y. y ∷ drop (i + 1) xs) (sym at))) ∙ so

pub members_more : (class : ClassId) (place count : ℕ) (so_far now whole : List Atom) → place < count
    → so_far ++ members_from class place (count - place) ≡ whole → now ≡ so_far ++ atom.Lit (literal.Member class place) ∷ []
    → now ++ members_from class (place + 1) (count - (place + 1)) ≡ whole
members_more class place count so_far now whole within e pushed =
    let left : count - place ≡ suc (count - (place + 1)) = omega arith in
    rw pushed (append_assoc so_far _ _ ∙ (rw left at e))
