-- What the text of a type is made of.
use Rattle.std.proofs.Common.{◌≡◌, ◌≢◌, ℕ, zero, suc, ◌+◌, ◌-◌, ◌<◌, ◌≤◌, Bool, true, false, cond, not, ◌&&◌, ◌||◌, List, [], ◌∷◌, ◌++◌, length, get_or, take, min, drop, Option, Some, None, refl, sym, ap, ◌∙◌, eqb, arith, inl, inr}
use Rattle.std.proofs.lemmas.List.{append-nil, length-drop, length-take, drop_all}
use Rattle.std.proofs.lemmas.List.Elements.{filter-append}
use Rattle.std.proofs.lemmas.Map.Views.{any-filter_same}
use Rattle.std.proofs.lemmas.Slice.Eq.{bytes_eq-Decides}
use Rattle.std.specs.Cmp.{both_ways}
use Rattle.std.specs.List.{AllByRecursion, filter, list_any}
use Rattle.std.proofs.lemmas.Bool.{cases_lt}
use Rattle.std.specs.Str.{bytes_eq}
use Rattle.py_base.specs.declared.ids.ClassId.{ClassId}
use Rattle.py_base.specs.declared.ids.FuncId.{FuncId}
use Rattle.py_base.specs.declared.ids.SiteId.{SiteId}
use Rattle.type_terms.specs.declared.atom.Slots.{Slots}
use Rattle.type_terms.specs.declared.atom.Slots.TheVariants.{Each, Endless, AnyArguments, Arguments}
use Rattle.type_terms.specs.declared.atom.Atom.{Atom, out-Atom}
use Rattle.type_terms.specs.declared.atom.Atom.TheOpen.{Atom-F}
use Rattle.type_terms.specs.declared.facts.Param.{Param}
use Rattle.type_terms.specs.declared.facts.SiteSlots.{SiteSlots}
use Rattle.type_terms.specs.declared.facts.SiteSlots.TheVariants.{Filled, Repeated}
use Rattle.type_terms.specs.declared.piece.Piece.{Piece}
use Rattle.type_terms.specs.declared.show.Shown.{Shown}
use Rattle.type_terms.specs.declared.show.Shown.TheVariants.{Dropped, Whole, Itself}
use Rattle.type_terms.specs.Pieces.{dots, types_pieces, first_types, or_brackets, slots_pieces, generic_pieces, site_slots_pieces, made_pieces, site_pieces, param_pieces, written_result, typed_or_returned, function_pieces, level_pieces, atom_pieces}
use Rattle.type_terms.specs.Text.{IsAskable, params_limit, shown, shown_pieces, member_pieces, distinct, put_last, members_text, members_keys, text, text_keys}
use Rattle.type_terms.specs.View.{Meaning}
use Rattle.type_terms.proofs.SetLaws.{all_append}

bytes_same : (t u : List ℕ) → bytes_eq t u ≡ bytes_eq u t
bytes_same t u = both_ways _ _
    (λ e. (bytes_eq-Decides u t).1 (sym ((bytes_eq-Decides t u).0 e)))
    (λ e. (bytes_eq-Decides t u).1 (sym ((bytes_eq-Decides u t).0 e)))

abbrev unlike : List ℕ → List ℕ → Bool
unlike t u = not (bytes_eq t u)

among_rest : (t u : List ℕ) (ts : List (List ℕ)) → list_any (bytes_eq u) (filter (unlike t) ts) ≡ (unlike t u && list_any (bytes_eq u) ts)
among_rest t u ts = any-filter_same (bytes_eq u) (unlike t) (unlike t u) (λ k e. ap (unlike t) (sym ((bytes_eq-Decides u k).0 e))) ts

last_case : (t u : List ℕ) (ts : List (List ℕ)) (x y : Bool) → bytes_eq t u ≡ x
    → t ∷ filter (unlike t) (cond y ts (ts ++ u ∷ [])) ≡ cond (x || (not x && y)) (t ∷ filter (unlike t) ts) ((t ∷ filter (unlike t) ts) ++ u ∷ [])
last_case t u ts true true e = refl
last_case t u ts true false e = ap (λ r. t ∷ r) (filter-append (unlike t) ts (u ∷ []) ∙ ap (λ b. filter (unlike t) ts ++ cond (not b) (u ∷ []) []) e ∙ append-nil (filter (unlike t) ts))
last_case t u ts false true e = refl
last_case t u ts false false e = ap (λ r. t ∷ r) (filter-append (unlike t) ts (u ∷ []) ∙ ap (λ b. filter (unlike t) ts ++ cond (not b) (u ∷ []) []) e)

-- one more text, at the end
pub distinct_push : (ts : List (List ℕ)) (u : List ℕ) → distinct (ts ++ u ∷ []) ≡ put_last (distinct ts) u
distinct_push [] u = refl
distinct_push (t ∷ ts) u =
    ap (λ r. t ∷ filter (unlike t) r) (distinct_push ts u)
    ∙ last_case t u (distinct ts) (bytes_eq t u) (list_any (bytes_eq u) (distinct ts)) refl
    ∙ ap (λ b. cond b (t ∷ filter (unlike t) (distinct ts)) ((t ∷ filter (unlike t) (distinct ts)) ++ u ∷ []))
    (ap (λ b. b || (unlike t u && list_any (bytes_eq u) (distinct ts))) (bytes_same t u) ∙ ap (λ b. bytes_eq u t || b) (sym (among_rest t u (distinct ts))))

pub text-deep : (m : Meaning) (levels : ℕ) (type : List Atom) → levels ≢ 0 → text m levels type ≡ members_text m (levels - 1) (text m (levels - 1)) type
text-deep m zero type deep = absurd (deep refl)
text-deep m (suc n) type deep = let e : suc n - 1 ≡ n = omega arith in rw e refl

pub text_keys-deep : (m : Meaning) (levels : ℕ) (type : List Atom) → levels ≢ 0 → text_keys m levels type ≡ members_keys m (levels - 1) (text_keys m (levels - 1)) type
text_keys-deep m zero type deep = absurd (deep refl)
text_keys-deep m (suc n) type deep = let e : suc n - 1 ≡ n = omega arith in rw e refl

-- the parameters in a text are parameters of their functions
module _ (m : Meaning) where
  abbrev Askable : List Piece → Type 0
  Askable = AllByRecursion (IsAskable m)

  types_askable : (first : Bool) (ts : List (List Atom)) → Askable (types_pieces first ts)
  types_askable first [] = tt
  types_askable first (t ∷ ts) = (tt, (tt, types_askable false ts))

  brackets_askable : (none : Bool) (ps : List Piece) → Askable ps → Askable (or_brackets none ps)
  brackets_askable true ps h = (tt, tt)
  brackets_askable false ps h = h

  dots_askable : (more : Bool) → Askable (dots more)
  dots_askable true = (tt, tt)
  dots_askable false = tt

  first_types_askable : (most : ℕ) (ts : List (List Atom)) → Askable (first_types most ts)
  first_types_askable most ts = all_append (IsAskable m) (types_pieces true (take most ts)) _ (types_askable true (take most ts)) (dots_askable _)

  slots_askable : (most : ℕ) (slots : Slots (List Atom)) → Askable (slots_pieces most slots)
  slots_askable most (Each types) = brackets_askable (eqb (length types) 0) _ (first_types_askable 16 types)
  slots_askable most (Endless type) = (tt, (tt, tt))
  slots_askable most (AnyArguments type) = (tt, (tt, tt))
  slots_askable most (Arguments types type) = (tt, all_append (IsAskable m) (first_types most types) _ (first_types_askable most types) (tt, (tt, tt)))

  generic_askable : (class : ClassId) (ps : List Piece) → Askable ps → Askable (generic_pieces m class ps)
  generic_askable class ps h = (tt, all_append (IsAskable m) ps _ h (tt, tt))

  site_slots_askable : (site : SiteId) (first : Bool) (place more : ℕ) → Askable (site_slots_pieces site first place more)
  site_slots_askable site first place zero = tt
  site_slots_askable site first place (suc more) = (tt, (tt, site_slots_askable site false (place + 1) more))

  made_askable : (site : SiteId) (slots : SiteSlots) → Askable (made_pieces site slots)
  made_askable site (Filled count) =
      brackets_askable (eqb count 0) _ (all_append (IsAskable m) (site_slots_pieces site true 0 (min count 16)) _ (site_slots_askable site true 0 (min count 16)) (dots_askable _))
  made_askable site Repeated = (tt, (tt, tt))

  params_askable : (func : FuncId) (first : Bool) (place : ℕ) (ps : List Param) → place + length ps ≤ length (m.facts.func func).params → Askable (param_pieces m func first place ps)
  params_askable func first place [] h = tt
  params_askable func first place (p ∷ ps) h = (tt, (omega arith, params_askable func false (place + 1) ps (omega arith)))

  taken_askable : (func : FuncId) (taken end : ℕ) → Askable (param_pieces m func true taken (drop taken (take end (m.facts.func func).params)))
  taken_askable func taken end =
      let params = take end (m.facts.func func).params in
      let few = length-take end (m.facts.func func).params in
      elim (cases_lt (length params) taken) [
        | inl beyond ↦ rw (drop_all taken params (omega arith)) tt
        | inr within ↦ params_askable func true taken _ (omega (arith, length-drop taken params, few))
      ]

  result_askable : (func : FuncId) (written : Option (List Atom)) → Askable (typed_or_returned func written ∷ [])
  result_askable func None = (tt, tt)
  result_askable func (Some type) = (tt, tt)

  function_askable : (most : ℕ) (func : FuncId) (taken : ℕ) → Askable (function_pieces m most func taken)
  function_askable most func taken =
      let params = all_append (IsAskable m) _ _ (taken_askable func taken (taken + most)) (dots_askable _) in
      (tt, all_append (IsAskable m) _ _ params (tt, result_askable func (written_result (m.facts.func func))))

  site_askable : (most : ℕ) (site : SiteId) (func : Option FuncId) → Askable (site_pieces m most site func)
  site_askable most site (Some func) = function_askable most func 0
  site_askable most site None = generic_askable site.class _ (made_askable site (m.facts.site_slots site))

  level_askable : (most : ℕ) (x : Atom-F Atom) → Askable (level_pieces m most x)
  level_askable most (Atom-F.Gen class slots) = generic_askable class (slots_pieces most slots) (slots_askable most slots)
  level_askable most (Atom-F.Site site) = site_askable most site (m.facts.func_at site.node)
  level_askable most (Atom-F.Func func) = function_askable most func 0
  level_askable most (Atom-F.Bound func) = function_askable most func 1
  level_askable most _ = (tt, tt)

  atom_askable : (most : ℕ) (a : Atom) → Askable (atom_pieces m most a)
  unfolding atom_pieces
  atom_askable most a = level_askable most (out-Atom a)

  shown_askable : (levels : ℕ) (a : Atom) (s : Shown) → Askable (shown_pieces m levels a s)
  shown_askable levels a Dropped = tt
  shown_askable levels a (Whole class) = (tt, tt)
  shown_askable levels a Itself = atom_askable (params_limit levels) a

  pub member_askable : (levels : ℕ) (type : List Atom) (a : Atom) → Askable (member_pieces m levels type a)
  member_askable levels type a = shown_askable levels a (shown m type a)

pub all_at : {X : Type 0} (P : X → Type 0) (xs : List X) (i : ℕ) (d : X) → AllByRecursion P xs → i < length xs → P (get_or xs i d)
all_at P [] i d h within = absurd (omega arith)
all_at P (x ∷ xs) zero d h within = h.0
all_at P (x ∷ xs) (suc i) d h within = all_at P xs i d h.1 (omega arith)
