-- On the symbols that lists of members have for names.
use Rattle.std.proofs.Common.{◌≡◌, ◌==◌, ◌<◌, ◌+◌, ℕ, Bool, true, false, cond, List, [], ◌∷◌, ◌++◌, length, take, get_or, refl, ⊎_elim, sym, ap, ◌∙◌}
use Rattle.std.specs.Prelude.{Option, Some, None, is_some}
use Rattle.std.specs.Option.{option_or}
use Rattle.std.specs.Map.{lookup}
use Rattle.std.proofs.lemmas.List.{take_more}
use Rattle.std.proofs.lemmas.Bool.{cases_Bool, eqb-true, false≢true}
use Rattle.py_base.specs.declared.ids.NameId.{NameId}
use Rattle.py_base.specs.declared.ids.SymId.{SymId}
use Rattle.class_rows.specs.Rows.{symbol_in}

or_cond : (b : Bool) (x : SymId) (o p : Option SymId) → cond b (Some x) (option_or o p) ≡ option_or (cond b (Some x) o) p
or_cond true x o p = refl
or_cond false x o p = refl

symbol_in-push : (n : NameId) (ms : List (NameId × SymId)) (name : NameId) (s : SymId) → symbol_in n (ms ++ (name, s) ∷ []) ≡ option_or (symbol_in n ms) (cond (name.0 == n.0) (Some s) None)
symbol_in-push n [] name s = refl
symbol_in-push n (m ∷ ms) name s =
    ap (λ o. cond (m.0.0 == n.0) (Some m.1) o) (symbol_in-push n ms name s) ∙ or_cond (m.0.0 == n.0) m.1 (symbol_in n ms) (cond (name.0 == n.0) (Some s) None)

or_some : (o p : Option SymId) → is_some o ≡ true → option_or o p ≡ o
or_some (Some x) p e = refl
or_some None p e = absurd (false≢true e)

or_none : (o : Option SymId) → option_or o None ≡ o
or_none (Some x) = refl
or_none None = refl

none_or : (o p : Option SymId) → is_some o ≡ false → option_or o p ≡ p
none_or (Some x) p e = absurd (false≢true (sym e))
none_or None p e = refl

same_name : (n name : NameId) (ms : List (NameId × SymId)) → (name.0 == n.0) ≡ true → symbol_in name ms ≡ symbol_in n ms
same_name n name ms e = ap (λ k. lookup (λ (x : NameId). x.0 == k) ms) (eqb-true name.0 n.0 e)

-- a name that has a symbol keeps it
pub added_present : (n name : NameId) (s : SymId) (ms : List (NameId × SymId)) → is_some (symbol_in name ms) ≡ true → symbol_in n ms ≡ symbol_in n (ms ++ (name, s) ∷ [])
added_present n name s ms e =
    ⊎_elim
    (λ same. sym (or_some (symbol_in n ms) (cond (name.0 == n.0) (Some s) None) (ap is_some (sym (same_name n name ms same)) ∙ e)))
    (λ other. sym (ap (λ b. option_or (symbol_in n ms) (cond b (Some s) None)) other ∙ or_none (symbol_in n ms)))
    (cases_Bool (name.0 == n.0))
    ∙ sym (symbol_in-push n ms name s)

-- a name that has none gets one
pub added_absent : (n name : NameId) (s : SymId) (ms new : List (NameId × SymId)) → is_some (symbol_in name ms) ≡ false → symbol_in n new ≡ cond (name.0 == n.0) (Some s) (symbol_in n ms) → symbol_in n new ≡ symbol_in n (ms ++ (name, s) ∷ [])
added_absent n name s ms new e f =
    f ∙ ⊎_elim
    (λ same. ap (λ b. cond b (Some s) (symbol_in n ms)) same ∙ sym (none_or (symbol_in n ms) (cond (name.0 == n.0) (Some s) None) (ap is_some (sym (same_name n name ms same)) ∙ e) ∙ ap (λ b. cond b (Some s) None) same))
    (λ other. ap (λ b. cond b (Some s) (symbol_in n ms)) other ∙ sym (ap (λ b. option_or (symbol_in n ms) (cond b (Some s) None)) other ∙ or_none (symbol_in n ms)))
    (cases_Bool (name.0 == n.0))
    ∙ sym (symbol_in-push n ms name s)

-- one member further on
pub symbols_more : (n name : NameId) (s : SymId) (members now next : List (NameId × SymId)) (i : ℕ) → i < length members → (name, s) ≡ get_or members i (name, s)
    → symbol_in n next ≡ symbol_in n (now ++ (name, s) ∷ []) → symbol_in n now ≡ symbol_in n (take i members) → symbol_in n next ≡ symbol_in n (take (i + 1) members)
symbols_more n name s members now next i within e f g =
    f ∙ symbol_in-push n now name s ∙ ap (λ o. option_or o (cond (name.0 == n.0) (Some s) None)) g ∙ sym (symbol_in-push n (take i members) name s)
    ∙ ap (λ m. symbol_in n (take i members ++ m ∷ [])) e ∙ ap (symbol_in n) (sym (take_more members i (name, s) within))
