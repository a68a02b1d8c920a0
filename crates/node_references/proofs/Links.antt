-- Numbers of references: a number keeps its reference, and no two numbers have one.
use Rattle.std.proofs.Common.{◌≡◌, ℕ, zero, suc, ◌<◌, Bool, true, false, ◌||◌, List, [], ◌∷◌, ◌++◌, length, refl, ap, sym, ◌∙◌, subst, ◌⊎◌, inl, inr, Option, None, Some, slice_get, if◌then◌else◌, map, rules, true≢false, arith, length-append}
use Rattle.std.specs.List.{list_any}
use Rattle.std.specs.Option.{option_map}
use Rattle.std.proofs.lemmas.Option.{slice_get-map}
use Rattle.indexmap.specs.IndexSet.{insert_key}
use Rattle.py_base.specs.declared.ids.NameId.{NameId}
use Rattle.py_base.specs.declared.ids.RefId.{RefId}
use Rattle.node_references.specs.declared.reference.Root.{Root}
use Rattle.node_references.specs.Reference.{Reference}
use Rattle.node_references.specs.declared.numbering.Link.{Link}
use Rattle.node_references.specs.declared.numbering.Link.TheVariants as links
use Rattle.node_references.specs.contracts.numbering.LinkPartialEq.TheImpl.{eq-value}
use Rattle.node_references.specs.Numbers.{AreApart, IsNumberOf, IsPrefixOf, flat}
use Rattle.node_references.specs.Numbering.{Keeps, GrowsBy, IsOf, AreLinked, IsBelow, prefix_of}

pub get_append : {A : Type 0} (xs ys : List A) (i : ℕ) (x : A) → slice_get xs i ≡ Some x → slice_get (xs ++ ys) i ≡ Some x
get_append [] ys i x h = absurd (cc h)
get_append (y ∷ xs) ys zero x h = h
get_append (y ∷ xs) ys (suc i) x h = get_append xs ys i x h

-- an older place, or the new one
pub get_snoc : {A : Type 0} (xs : List A) (y : A) (i : ℕ) (x : A) → slice_get (xs ++ y ∷ []) i ≡ Some x → (slice_get xs i ≡ Some x) ⊎ ((i ≡ length xs) × (y ≡ x))
get_snoc [] y zero x h = inr (refl, cc h)
get_snoc [] y (suc i) x h = absurd (cc h)
get_snoc (z ∷ xs) y zero x h = inl h
get_snoc (z ∷ xs) y (suc i) x h = elim (get_snoc xs y i x h) [ inl a ↦ inl a | inr b ↦ inr (ap suc b.0, b.1) ]

pub get_last : {A : Type 0} (xs : List A) (y : A) → slice_get (xs ++ y ∷ []) (length xs) ≡ Some y
get_last [] y = refl
get_last (x ∷ xs) y = get_last xs y

not_empty : {A : Type 0} (xs : List A) (x : A) → [] ≡ xs ++ x ∷ [] → ⊥
not_empty [] x h = cc h
not_empty (y ∷ xs) x h = cc h

pub snoc_same : {A : Type 0} (xs ys : List A) (x y : A) → xs ++ x ∷ [] ≡ ys ++ y ∷ [] → (xs ≡ ys) × (x ≡ y)
snoc_same [] [] x y h = (refl, cc h)
snoc_same [] (b ∷ ys) x y h = absurd (not_empty ys y (cc h))
snoc_same (a ∷ xs) [] x y h = absurd (not_empty xs x (sym (cc h)))
snoc_same (a ∷ xs) (b ∷ ys) x y h =
    let r = snoc_same xs ys x y (cc h) in
    let same : a ≡ b = cc h in
    (ap (λ l. a ∷ l) r.0 ∙ ap (λ c. c ∷ ys) same, r.1)

pub keeps_self : (list : List Reference) → Keeps list list
keeps_self list i r h = h

pub keeps_both : (a b c : List Reference) → Keeps a b → Keeps b c → Keeps a c
keeps_both a b c f g i r h = g i r (f i r h)

pub keeps_snoc : (list new : List Reference) (r : Reference) → new ≡ list ++ r ∷ [] → Keeps list new
keeps_snoc list new r e i q h = subst (λ (l : List Reference). slice_get l i ≡ Some q) (sym e) (get_append list (r ∷ []) i q h)

pub number_kept : (old new : List Reference) (x : Option RefId) (r : Option Reference) → Keeps old new → IsNumberOf old x r → IsNumberOf new x r
number_kept old new None None k h = h
number_kept old new None (Some r) k h = h
number_kept old new (Some id) None k h = h
number_kept old new (Some id) (Some r) k h = k id.0 r h

within : {A : Type 0} (xs : List A) (i : ℕ) (x : A) → slice_get xs i ≡ Some x → i < length xs
within [] i x h = absurd (cc h)
within (y ∷ xs) zero x h = omega arith
within (y ∷ xs) (suc i) x h = let r = within xs i x h in omega arith

pub number_below : (list : List Reference) (x : Option RefId) (r : Option Reference) → IsNumberOf list x r → IsBelow (length list) x
number_below list None r h = tt
number_below list (Some id) None h = absurd h
number_below list (Some id) (Some r) h = within list id.0 r h

pub got : {A : Type 0} (xs : List A) (i : ℕ) → i < length xs → (x : A) × (slice_get xs i ≡ Some x)
got [] i h = absurd (omega arith)
got (y ∷ xs) zero h = (y, refl)
got (y ∷ xs) (suc i) h = got xs i (omega arith)

abbrev made : Root → List NameId → Reference
made root names = record { root = root; names = names }

ref_same : (q p : Reference) → q.root ≡ p.root → q.names ≡ p.names → q ≡ p
ref_same q p e f = ap (λ (x : Root). made x q.names) e ∙ ap (λ (l : List NameId). made p.root l) f

abbrev numbered : ℕ → RefId
numbered n = record { 0 = n }

id_same : (p q : RefId) → p.0 ≡ q.0 → p ≡ q
id_same p q e = ap numbered e

-- a reference has one link
link_same : (list : List Reference) (k l : Link) (r : Reference) → AreApart list → IsOf list k r → IsOf list l r → k ≡ l
link_same list (links.Root b) (links.Root c) r apart h g = ap links.Root (ap (λ (x : Reference). x.root) (sym h ∙ g))
link_same list (links.Root b) (links.Member p m) r apart h (q, at, e) = absurd (not_empty q.names m (ap (λ (x : Reference). x.names) (sym h ∙ e)))
link_same list (links.Member p m) (links.Root c) r apart (q, at, e) g = absurd (not_empty q.names m (ap (λ (x : Reference). x.names) (sym g ∙ e)))
link_same list (links.Member p m) (links.Member p2 m2) r apart (q, at, e) (q2, at2, e2) =
    let names = snoc_same q.names q2.names m m2 (ap (λ (x : Reference). x.names) (sym e ∙ e2)) in
    let root : q.root ≡ q2.root = ap (λ (x : Reference). x.root) (sym e ∙ e2) in
    let one : q ≡ q2 = ref_same q q2 root names.0 in
    let place : p.0 ≡ p2.0 = apart p.0 p2.0 q at (at2 ∙ ap Some (sym one)) in
    let same : p ≡ p2 = id_same p p2 place in
    ap (λ (x : RefId). links.Member x m) same ∙ ap (λ (x : NameId). links.Member p2 x) names.1

pub same_true : (p q : Link) → eq-value.it p q ≡ true → p ≡ q
same_true p q h = search (h, rules)

pub same_self : (p : Link) → eq-value.it p p ≡ true
same_self p = search rules

any_at : (keys : List Link) (k : Link) (i : ℕ) → slice_get keys i ≡ Some k → list_any (eq-value.it k) keys ≡ true
any_at [] k i h = absurd (cc h)
any_at (x ∷ keys) k zero h =
    let same : x ≡ k = cc h in
    ap (λ b. b || list_any (eq-value.it k) keys) (subst (λ (y : Link). eq-value.it k y ≡ true) (sym same) (same_self k))
any_at (x ∷ keys) k (suc i) h = go (eq-value.it k x) (any_at keys k i h)
  where
    go : (b : Bool) → list_any (eq-value.it k) keys ≡ true → (b || list_any (eq-value.it k) keys) ≡ true
    go true e = refl
    go false e = e

of_kept : (list : List Reference) (new : Reference) (k : Link) (r : Reference) → IsOf list k r → IsOf (list ++ new ∷ []) k r
of_kept list new (links.Root b) r h = h
of_kept list new (links.Member p m) r (q, at, e) = (q, get_append list (new ∷ []) p.0 q at, e)

-- a link that is new has a reference that is new
not_there : (keys : List Link) (list : List Reference) (k : Link) (r : Reference) → AreLinked keys list → list_any (eq-value.it k) keys ≡ false → IsOf list k r
    → (i : ℕ) → slice_get list i ≡ Some r → ⊥
not_there keys list k r w off of i at =
    let inside : i < length list = within list i r at in
    let (l, there) = got keys i (rw (← w.long) inside) in
    let (q, at2, of2) = w.each i l there in
    let one : q ≡ r = cc (at, at2) in
    let same : k ≡ l = link_same list k l r w.apart of (subst (λ (x : Reference). IsOf list l x) one of2) in
    true≢false (sym (any_at keys k i (there ∙ ap Some (sym same))) ∙ off)

apart_more : (keys : List Link) (list : List Reference) (k : Link) (r : Reference) → AreLinked keys list → list_any (eq-value.it k) keys ≡ false → IsOf list k r
    → AreApart (list ++ r ∷ [])
apart_more keys list k r w off of i j x hi hj =
    elim (get_snoc list r i x hi) [
      | inl a ↦ elim (get_snoc list r j x hj) [
        | inl b ↦ w.apart i j x a b
        | inr b ↦ absurd (not_there keys list k r w off of i (a ∙ ap Some (sym b.1)))
      ]
      | inr a ↦ elim (get_snoc list r j x hj) [
        | inl b ↦ absurd (not_there keys list k r w off of j (b ∙ ap Some (sym a.1)))
        | inr b ↦ a.0 ∙ sym b.0
      ]
    ]

pub linked_more : (keys new_keys : List Link) (list new : List Reference) (k : Link) (r : Reference) → AreLinked keys list → list_any (eq-value.it k) keys ≡ false
    → IsOf list k r → new_keys ≡ keys ++ k ∷ [] → new ≡ list ++ r ∷ [] → AreLinked new_keys new
linked_more keys new_keys list new k r w off of e f = rw (e, f) (record {
  long = rw (length-append keys (k ∷ []), length-append list (r ∷ []), w.long) refl;
  each = λ i l h. elim (get_snoc keys k i l h) [
    | inl a ↦ let (q, at, o) = w.each i l a in (q, get_append list (r ∷ []) i q at, of_kept list r l q o)
    | inr b ↦ (r, rw (b.0, ← w.long) (get_last list r), of_kept list r l r (subst (λ (x : Link). IsOf list x r) b.1 of))
  ];
  apart = apart_more keys list k r w off of;
})

grown : (keys new_keys : List Link) (k : Link) → new_keys ≡ insert_key eq-value.it keys k → list_any (eq-value.it k) keys ≡ false → new_keys ≡ keys ++ k ∷ []
grown keys new_keys k e off = e ∙ ap (λ b. if b then keys else keys ++ k ∷ []) off

pub new_linked : (keys new_keys : List Link) (list new : List Reference) (k : Link) (r : Reference) → AreLinked keys list → list_any (eq-value.it k) keys ≡ false
    → IsOf list k r → new_keys ≡ insert_key eq-value.it keys k → new ≡ list ++ r ∷ [] → AreLinked new_keys new
new_linked keys new_keys list new k r w off of e f = linked_more keys new_keys list new k r w off of (grown keys new_keys k e off) f

-- the new link has the new number
pub new_at : (keys new_keys : List Link) (list new : List Reference) (k : Link) (r : Reference) (at : ℕ) → AreLinked keys list → list_any (eq-value.it k) keys ≡ false
    → new_keys ≡ insert_key eq-value.it keys k → new ≡ list ++ r ∷ [] → (l : Link) × (slice_get new_keys at ≡ Some l) × (eq-value.it k l ≡ true)
    → slice_get new at ≡ Some r
new_at keys new_keys list new k r at w off e f (l, there, same) =
    let one : k ≡ l = same_true k l same in
    let here : slice_get (keys ++ k ∷ []) at ≡ Some k = sym (ap (λ (x : List Link). slice_get x at) (grown keys new_keys k e off)) ∙ there ∙ ap Some (sym one) in
    elim (get_snoc keys k at k here) [
      | inl a ↦ absurd (true≢false (sym (any_at keys k at a) ∙ off))
      | inr b ↦ rw (f, b.0, ← w.long) (get_last list r)
    ]

-- the reference that came is that of the number
pub grows_by : (list new : List Reference) (r : Reference) (id : RefId) → new ≡ list ++ r ∷ [] → slice_get new id.0 ≡ Some r → GrowsBy list new (Some id)
grows_by list new r id pushed at i q h = elim (get_snoc list r i q (sym (ap (λ (l : List Reference). slice_get l i) pushed) ∙ h)) [
  | inl old ↦ inl old
  | inr last ↦ inr (at ∙ ap Some last.1)
]

-- the prefix that a link tells of its reference
link_prefix : (list : List Reference) (link : Link) (r : Reference) → IsOf list link r → IsPrefixOf list (prefix_of link) r
link_prefix list (links.Root root) r h = ap (λ (x : Reference). x.names) h
link_prefix list (links.Member id name) r h = h

pub prefixes_right : (keys : List Link) (list : List Reference) (prefixes : List (Option (RefId × NameId))) → AreLinked keys list → prefixes ≡ map prefix_of keys
    → (i : ℕ) (r : Reference) → slice_get list i ≡ Some r → IsPrefixOf list (flat (slice_get prefixes i)) r
prefixes_right keys list prefixes linked is i r at =
    let (link, e) = got keys i (rw (← linked.long) (within list i r at)) in
    let (one, there, of) = linked.each i link e in
    let same : one ≡ r = cc (sym there ∙ at) in
    let prefix : flat (slice_get prefixes i) ≡ prefix_of link =
    ap (λ (l : List (Option (RefId × NameId))). flat (slice_get l i)) is ∙ ap flat (slice_get-map prefix_of keys i ∙ ap (option_map prefix_of) e) in
    subst (λ (x : Option (RefId × NameId)). IsPrefixOf list x r) (sym prefix) (link_prefix list link r (subst (λ (x : Reference). IsOf list link x) same of))
