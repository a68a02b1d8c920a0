-- Atoms with the same key are the same, so the order of atoms tells them apart.
use Rattle.std.proofs.Common.{◌≡◌, ℕ, Bool, true, false, List, [], ◌∷◌, map, refl, sym, ap, ◌∙◌, arith, eqb}
use Rattle.std.specs.Prelude.{ℤ, pos, negsuc}
use Rattle.py_base.specs.declared.ids.ClassId.{ClassId}
use Rattle.py_base.specs.declared.ids.InnerTuple.{InnerTuple}
use Rattle.py_base.specs.declared.ids.InnerTuple.TheVariants as inner
use Rattle.type_terms.specs.declared.literal.Literal.{Literal}
use Rattle.type_terms.specs.declared.literal.Literal.TheVariants as literal
use Rattle.type_terms.specs.declared.atom.Slots.{Slots}
use Rattle.type_terms.specs.declared.atom.Slots.TheVariants.{Each, Endless, AnyArguments, Arguments}
use Rattle.type_terms.specs.declared.atom.Atom.{Atom, map-Atom, out-Atom, roll-Atom, roll-out-Atom, ind-Atom}
use Rattle.type_terms.specs.declared.atom.Atom.TheOpen.{Atom-F}
use Rattle.type_terms.specs.SortKey.{SortKey, end, part, bit, bytes_key, listed}
use Rattle.type_terms.specs.Order.{key, key_step, keyed, kind_in, class_in, rest_in, literal_class, literal_key, slots_key, inner_number}
use Rattle.type_terms.proofs.KeyOf.{key-roll, keyed-is}

-- what can be read from a key
abbrev first_in : SortKey → ℕ
first_in end = 0
first_in (part (pos n) inner next) = n
first_in (part (negsuc n) inner next) = 0

abbrev int_in : SortKey → ℤ
int_in end = pos 0
int_in (part z inner next) = z

abbrev inner_in : SortKey → SortKey
inner_in end = end
inner_in (part z inner next) = inner

abbrev next_in : SortKey → SortKey
next_in end = end
next_in (part z inner next) = next

abbrev place_in : SortKey → ℕ
place_in k = first_in (next_in (next_in k))

abbrev tuple_in : SortKey → ℕ
tuple_in k = first_in (next_in (next_in (next_in k)))

inner_same : (a b : InnerTuple) → inner_number a ≡ inner_number b → a ≡ b
inner_same inner.None inner.None e = refl
inner_same inner.None inner.Pair e = absurd (omega (arith, e))
inner_same inner.None (inner.Zip n) e = absurd (omega (arith, e))
inner_same inner.Pair inner.None e = absurd (omega (arith, e))
inner_same inner.Pair inner.Pair e = refl
inner_same inner.Pair (inner.Zip n) e = absurd (omega (arith, e))
inner_same (inner.Zip m) inner.None e = absurd (omega (arith, e))
inner_same (inner.Zip m) inner.Pair e = absurd (omega (arith, e))
inner_same (inner.Zip m) (inner.Zip n) e = let same : m ≡ n = omega (arith, e) in ap inner.Zip same

bit-back : (b : Bool) → eqb (bit b) 1 ≡ b
bit-back true = refl
bit-back false = refl

bytes_same : (xs ys : List ℕ) → bytes_key xs ≡ bytes_key ys → xs ≡ ys
bytes_same [] [] e = refl
bytes_same [] (y ∷ ys) e = cc
bytes_same (x ∷ xs) [] e = cc
bytes_same (x ∷ xs) (y ∷ ys) e = let rest = bytes_same xs ys (ap next_in e) in let first = ap first_in e in cc

literal_same : (a b : Literal) → literal_class a ≡ literal_class b → literal_key a ≡ literal_key b → a ≡ b
literal_same (literal.Int x) (literal.Int y) c e = ap (λ k. literal.Int (int_in (next_in k))) e
literal_same (literal.Bool x) (literal.Bool y) c e = ap literal.Bool (sym (bit-back x) ∙ ap (λ k. eqb (first_in (next_in k)) 1) e ∙ bit-back y)
literal_same (literal.Str x) (literal.Str y) c e = ap literal.Str (bytes_same x y (ap next_in e))
literal_same (literal.Bytes x) (literal.Bytes y) c e = ap literal.Bytes (bytes_same x y (ap next_in e))
literal_same (literal.Member x k) (literal.Member y l) c e = let p = ap (λ k. first_in (next_in k)) e in cc
literal_same (literal.Int x) _ c e = absurd (omega (arith, ap first_in e))
literal_same (literal.Bool x) _ c e = absurd (omega (arith, ap first_in e))
literal_same (literal.Str x) _ c e = absurd (omega (arith, ap first_in e))
literal_same (literal.Bytes x) _ c e = absurd (omega (arith, ap first_in e))
literal_same (literal.Member x k) _ c e = absurd (omega (arith, ap first_in e))

-- an atom that its key tells from every other
abbrev Told : Atom → Type 0
Told a = (b : Atom) → key a ≡ key b → a ≡ b

abbrev Known : Type 0
Known = (a : Atom) × Told a

abbrev atoms : List Known → List Atom
atoms = map (λ e. e.0)

members_same : (xs : List Known) (ys : List Atom) → listed (map key (atoms xs)) ≡ listed (map key ys) → atoms xs ≡ ys
members_same [] [] e = refl
members_same [] (y ∷ ys) e = cc
members_same (x ∷ xs) [] e = cc
members_same (x ∷ xs) (y ∷ ys) e = let first = x.1 y (ap inner_in e) in let rest = members_same xs ys (ap next_in e) in cc

types_same : (xs : List (List Known)) (ys : List (List Atom)) → listed (map listed (map (map key) (map atoms xs))) ≡ listed (map listed (map (map key) ys)) → map atoms xs ≡ ys
types_same [] [] e = refl
types_same [] (y ∷ ys) e = cc
types_same (x ∷ xs) [] e = cc
types_same (x ∷ xs) (y ∷ ys) e = let first = members_same x y (ap inner_in e) in let rest = types_same xs ys (ap next_in e) in cc

abbrev known_slots : Slots (List Known) → Slots (List Atom)
known_slots (Each types) = Each (map atoms types)
known_slots (Endless type) = Endless (atoms type)
known_slots (AnyArguments type) = AnyArguments (atoms type)
known_slots (Arguments types type) = Arguments (map atoms types) (atoms type)

slots_same : (a : Slots (List Known)) (b : Slots (List Atom)) → slots_key (keyed (known_slots a)) ≡ slots_key (keyed b) → known_slots a ≡ b
slots_same (Each x) (Each y) e = ap Each (types_same x y (ap next_in e))
slots_same (Endless x) (Endless y) e = ap Endless (members_same x y (ap next_in e))
slots_same (AnyArguments x) (AnyArguments y) e = ap AnyArguments (members_same x y (ap next_in e))
slots_same (Arguments x r) (Arguments y s) e =
    let types = types_same x y (ap (λ k. inner_in (next_in k)) e) in let result = members_same r s (ap (λ k. next_in (next_in k)) e) in cc
slots_same (Each x) _ e = absurd (omega (arith, ap first_in e))
slots_same (Endless x) _ e = absurd (omega (arith, ap first_in e))
slots_same (AnyArguments x) _ e = absurd (omega (arith, ap first_in e))
slots_same (Arguments x r) _ e = absurd (omega (arith, ap first_in e))

-- one level whose atoms are told from every other
abbrev below : Atom-F Known → Atom-F Atom
below = map-Atom Known Atom (λ e. e.0)

abbrev level_key : Atom-F Atom → SortKey
level_key x = key_step (map-Atom Atom SortKey key x)

slots_below : (class : ClassId) (slots : Slots (List Known)) → below (Atom-F.Gen class slots) ≡ Atom-F.Gen class (known_slots slots)
slots_below class (Each types) = refl
slots_below class (Endless type) = refl
slots_below class (AnyArguments type) = refl
slots_below class (Arguments types type) = refl

Gen_same : (c d : ClassId) (a : Slots (List Known)) (b : Slots (List Atom)) → level_key (below (Atom-F.Gen c a)) ≡ level_key (Atom-F.Gen d b) → below (Atom-F.Gen c a) ≡ Atom-F.Gen d b
Gen_same c d a b e =
    let keys = sym (ap level_key (slots_below c a) ∙ keyed-is c (known_slots a)) ∙ e ∙ keyed-is d b in
    let slots = slots_same a b (ap rest_in keys) in
    let classes : c ≡ d = ap (λ k. record { 0 = class_in k }) keys in
    slots_below c a ∙ cc

level_same : (x : Atom-F Known) (y : Atom-F Atom) → level_key (below x) ≡ level_key y → below x ≡ y
level_same (Atom-F.Lit a) (Atom-F.Lit b) e = ap Atom-F.Lit (literal_same a b (ap (λ k. record { 0 = class_in k }) e) (ap rest_in e))
level_same (Atom-F.Gen c a) (Atom-F.Gen d b) e = Gen_same c d a b e
level_same (Atom-F.Site a) (Atom-F.Site b) e =
    let inner = inner_same a.inner b.inner (ap tuple_in e) in
    let node : a.node ≡ b.node = ap (λ k. record { 0 = place_in k }) e in
    let class : a.class ≡ b.class = ap (λ k. record { 0 = class_in k }) e in
    λ i. Atom-F.Site (record { node = node i; class = class i; inner = inner i })
level_same (Atom-F.BuiltMethod row a) (Atom-F.BuiltMethod other b) e =
    let receiver = a.1 b (ap (λ k. inner_in (rest_in k)) e) in let rows = ap (λ k. first_in (next_in (rest_in k))) e in cc
level_same (Atom-F.BuiltFunc a) (Atom-F.BuiltFunc b) e = ap (λ k. Atom-F.BuiltFunc (place_in k)) e
level_same (Atom-F.Inst a) (Atom-F.Inst b) e = ap (λ k. Atom-F.Inst (record { 0 = class_in k })) e
level_same (Atom-F.Class a) (Atom-F.Class b) e = ap (λ k. Atom-F.Class (record { 0 = class_in k })) e
level_same (Atom-F.Func a) (Atom-F.Func b) e = ap (λ k. Atom-F.Func (record { 0 = place_in k })) e
level_same (Atom-F.Bound a) (Atom-F.Bound b) e = ap (λ k. Atom-F.Bound (record { 0 = place_in k })) e
level_same (Atom-F.Super a) (Atom-F.Super b) e = ap (λ k. Atom-F.Super (record { 0 = class_in k })) e
level_same (Atom-F.Mod a) (Atom-F.Mod b) e = ap (λ k. Atom-F.Mod (record { 0 = place_in k })) e
level_same (Atom-F.Special a) (Atom-F.Special b) e = ap (λ k. Atom-F.Special (record { 0 = place_in k })) e
level_same Atom-F.Unknown Atom-F.Unknown e = refl
level_same Atom-F.None Atom-F.None e = refl
level_same Atom-F.Unbound Atom-F.Unbound e = refl
level_same Atom-F.Open Atom-F.Open e = refl
level_same Atom-F.Here Atom-F.Here e = refl
level_same (Atom-F.Lit a) _ e = absurd (omega (arith, ap kind_in e))
level_same (Atom-F.Gen a b) _ e = absurd (omega (arith, ap kind_in e))
level_same (Atom-F.Site a) _ e = absurd (omega (arith, ap kind_in e))
level_same (Atom-F.BuiltMethod a b) _ e = absurd (omega (arith, ap kind_in e))
level_same (Atom-F.BuiltFunc a) _ e = absurd (omega (arith, ap kind_in e))
level_same (Atom-F.Inst a) _ e = absurd (omega (arith, ap kind_in e))
level_same (Atom-F.Class a) _ e = absurd (omega (arith, ap kind_in e))
level_same (Atom-F.Func a) _ e = absurd (omega (arith, ap kind_in e))
level_same (Atom-F.Bound a) _ e = absurd (omega (arith, ap kind_in e))
level_same (Atom-F.Super a) _ e = absurd (omega (arith, ap kind_in e))
level_same (Atom-F.Mod a) _ e = absurd (omega (arith, ap kind_in e))
level_same (Atom-F.Special a) _ e = absurd (omega (arith, ap kind_in e))
level_same Atom-F.Unknown _ e = absurd (omega (arith, ap kind_in e))
level_same Atom-F.None _ e = absurd (omega (arith, ap kind_in e))
level_same Atom-F.Unbound _ e = absurd (omega (arith, ap kind_in e))
level_same Atom-F.Open _ e = absurd (omega (arith, ap kind_in e))
level_same Atom-F.Here _ e = absurd (omega (arith, ap kind_in e))

pub key_same : (a b : Atom) → key a ≡ key b → a ≡ b
key_same = ind-Atom Told (λ x y below_is b e.
    let keys = ap level_key below_is ∙ sym (key-roll x) ∙ e ∙ ap key (sym (roll-out-Atom b)) ∙ key-roll (out-Atom b) in
    ap roll-Atom (sym below_is ∙ level_same y (out-Atom b) keys) ∙ roll-out-Atom b)
