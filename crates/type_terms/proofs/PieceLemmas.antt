-- Lists of pieces, one more and what is left.
use Rattle.std.proofs.Common.{◌≡◌, ℕ, suc, ◌+◌, ◌-◌, ◌<◌, ◌≤◌, false, List, [], ◌∷◌, ◌++◌, length, get_or, drop, drop-cons, add-one, append_assoc, refl, ◌∙◌, eqb, arith}
use Rattle.std.proofs.lemmas.Bool.{ne_eqb}
use Rattle.py_base.specs.declared.ids.FuncId.{FuncId}
use Rattle.py_base.specs.declared.ids.SiteId.{SiteId}
use Rattle.py_base.specs.declared.key.Key.TheVariants.{Elem}
use Rattle.type_terms.specs.declared.facts.Param.{Param}
use Rattle.type_terms.specs.declared.piece.Piece.{Piece}
use Rattle.type_terms.specs.declared.piece.Piece.TheVariants.{Word, OfKey, OfParam}
use Rattle.type_terms.specs.Pieces.{comma, site_slots_pieces, param_word, param_pieces}
use Rattle.type_terms.specs.View.{Meaning}

-- two more, and what is left behind them
two_more : (ps rest : List Piece) (a b : Piece) → ((ps ++ a ∷ []) ++ b ∷ []) ++ rest ≡ ps ++ a ∷ b ∷ rest
two_more ps rest a b = append_assoc (ps ++ a ∷ []) (b ∷ []) rest ∙ append_assoc ps (a ∷ []) (b ∷ rest)

pub site_more : (ps qs whole : List Piece) (site : SiteId) (place count : ℕ) → place < count
    → ps ++ site_slots_pieces site (eqb place 0) place (count - place) ≡ whole
    → qs ≡ (ps ++ Word (comma (eqb place 0)) ∷ []) ++ OfKey (Elem site place) ∷ []
    → qs ++ site_slots_pieces site (eqb (place + 1) 0) (place + 1) (count - (place + 1)) ≡ whole
site_more ps qs whole site place count within so_far pushed =
    let left : count - place ≡ suc (count - (place + 1)) = omega arith in
    let later : eqb (place + 1) 0 ≡ false = ne_eqb (place + 1) 0 (omega arith) in
    rw (pushed, later) (two_more ps _ _ _ ∙ (rw left at so_far))

pub params_more : (m : Meaning) (func : FuncId) (params : List Param) (taken : ℕ) (ps qs whole : List Piece) (place : ℕ) (p : Param) → taken ≤ place → place < length params → p ≡ get_or params place p
    → ps ++ param_pieces m func (eqb place taken) place (drop place params) ≡ whole
    → qs ≡ (ps ++ Word (param_word m (eqb place taken) p) ∷ []) ++ OfParam func place ∷ []
    → qs ++ param_pieces m func (eqb (place + 1) taken) (place + 1) (drop (place + 1) params) ≡ whole
params_more m func params taken ps qs whole place p behind within is so_far pushed =
    let left : drop place params ≡ p ∷ drop (place + 1) params = rw (drop-cons params place p, ← is, add-one place) refl in
    let later : eqb (place + 1) taken ≡ false = ne_eqb (place + 1) taken (omega arith) in
    rw (pushed, later) (two_more ps _ _ _ ∙ (rw left at so_far))
