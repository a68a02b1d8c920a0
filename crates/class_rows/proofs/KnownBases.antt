-- On the bases of classes.
use Rattle.std.proofs.Common.{◌≡◌, ◌<◌, ◌≤◌, ◌+◌, ℕ, zero, suc, List, [], ◌∷◌, ◌++◌, length, take, get_or, append-nil, refl, subst, sym, ap, ◌∙◌, arith}
use Rattle.std.proofs.lemmas.List.{take_more, take_all}
use Rattle.class_rows.specs.declared.head.Base.{Base}
use Rattle.class_rows.specs.declared.head.Base.TheVariants.{Known, Unknown}
use Rattle.std.proofs.lemmas.List.Elements.{All-cons, All-nil, All-head, All-tail, All-push}
use Rattle.py_base.specs.declared.ids.ClassId.{ClassId}
use Rattle.py_base.specs.declared.builtin.Builtin.TheVariants as class
use Rattle.py_base.specs.Builtins.{id_of}
use Rattle.class_rows.specs.Classes.{known, or_object}
use Rattle.class_rows.specs.Waits.{AreBelow}

known_push : (bases : List Base) (b : Base) → known (bases ++ b ∷ []) ≡ known bases ++ known (b ∷ [])
known_push [] b = refl
known_push (Known c ∷ bases) b = ap (λ cs. c ∷ cs) (known_push bases b)
known_push (Unknown ∷ bases) b = known_push bases b

-- one base further on
pub known_more : (bases : List Base) (i : ℕ) (d b : Base) → i < length bases → get_or bases i d ≡ b → known (take (i + 1) bases) ≡ known (take i bases) ++ known (b ∷ [])
known_more bases i d b within e =
    ap known (take_more bases i d within) ∙ known_push (take i bases) (get_or bases i d) ∙ ap (λ x. known (take i bases) ++ known (x ∷ [])) e

-- bases below a number stay below it with `object` in place of none
pub or_object_below : (n : ℕ) (list : List ClassId) → 0 < n → AreBelow n list → AreBelow n (or_object list)
or_object_below n [] some below = All-cons (λ c. c.0 < n) (id_of class.Object) [] some (All-nil (λ (c : ClassId). c.0 < n))
or_object_below n (c ∷ list) some below = below

-- a Known base is one of those that count
pub known_at : (n : ℕ) (bases : List Base) (i : ℕ) (d : Base) (c : ClassId) → AreBelow n (known bases) → i < length bases → get_or bases i d ≡ Known c → c.0 < n
known_at n [] i d c below within e = absurd (omega (arith, within))
known_at n (Known b ∷ bases) zero d c below within e =
    let same : b ≡ c = cc in
    let P : ClassId → Type 0 = λ x. x.0 < n in
    subst P same (All-head (λ (x : ClassId). x.0 < n) b (known bases) below)
known_at n (Unknown ∷ bases) zero d c below within e = absurd (cc)
known_at n (Known b ∷ bases) (suc i) d c below within e = known_at n bases i d c (All-tail (λ (x : ClassId). x.0 < n) b (known bases) below) (omega (arith, within)) e
known_at n (Unknown ∷ bases) (suc i) d c below within e = known_at n bases i d c below (omega (arith, within)) e

-- one base further on, all that came lie below the number
pub below_known : (n : ℕ) (bases : List Base) (i : ℕ) (d : Base) (c : ClassId) → i < length bases → get_or bases i d ≡ Known c → c.0 < n → AreBelow n (known (take i bases)) → AreBelow n (known (take (i + 1) bases))
below_known n bases i d c within e less below =
    let P : List ClassId → Type 0 = AreBelow n in
    subst P (sym (known_more bases i d (Known c) within e)) (All-push (λ (x : ClassId). x.0 < n) (known (take i bases)) c below less)

pub below_unknown : (n : ℕ) (bases : List Base) (i : ℕ) (d : Base) → i < length bases → get_or bases i d ≡ Unknown → AreBelow n (known (take i bases)) → AreBelow n (known (take (i + 1) bases))
below_unknown n bases i d within e below =
    let P : List ClassId → Type 0 = AreBelow n in
    subst P (sym (known_more bases i d Unknown within e ∙ append-nil (known (take i bases)))) below

-- at the end all lie below it
pub below_all : (n : ℕ) (bases : List Base) (i : ℕ) → length bases ≤ i → AreBelow n (known (take i bases)) → AreBelow n (known bases)
below_all n bases i more below =
    let P : List Base → Type 0 = λ bs. AreBelow n (known bs) in
    subst P (take_all i bases more) below
