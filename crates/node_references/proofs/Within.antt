-- The reference of a node by those of its parts, which are older.
use Rattle.std.proofs.Common.{◌≡◌, ℕ, zero, suc, ◌+◌, ◌<◌, ◌≤◌, List, [], ◌∷◌, ◌++◌, length, refl, ap, sym, ◌∙◌, subst, Option, None, Some, slice_get, arith, ◌⊎◌, inl, inr}
use Rattle.std.proofs.lemmas.Bool.{cases_lt}
use Rattle.py_base.specs.declared.ids.NodeId.{NodeId}
use Rattle.py_base.specs.declared.ids.RefId.{RefId}
use Rattle.py_base.specs.declared.node.Node.{Node}
use Rattle.py_base.specs.Tree.{Arena, AreOlder, IsLinked}
use Rattle.py_base.specs.TreeLaws.{AreLinked-at, AreOlder-later}
use Rattle.py_scopes.specs.declared.owner.Owner.{Owner}
use Rattle.py_scopes.specs.Occurrences.{name_of}
use Rattle.py_base.specs.Nodes.{kind_at, parts_at, parts_or_none}
use Rattle.node_references.specs.Reference.{Reference}
use Rattle.node_references.specs.declared.shape.Shape.{Shape}
use Rattle.node_references.specs.declared.shape.Shape.TheVariants as shapes
use Rattle.node_references.specs.References.{Sort, a_name, an_attribute, in_brackets, a_match, another, sort, shaped, shape_at, of_attribute, by_shape, within, reference_of}
use Rattle.node_references.specs.Numbers.{flat, IsNumberOf}
use Rattle.node_references.specs.Numbering.{Keeps, GrowsBy, AreOfNodes, AreNumbersOf, IsPartBelow, AreKnownBelow, AreKnown}
use Rattle.node_references.proofs.Links.{number_kept, number_below, get_last}

-- the part of a shape is an older node
abbrev IsOlder : ℕ → Shape → Type 0
IsOlder n shapes.Name = Unit {0}
IsOlder n (shapes.Attribute p) = p.0 < n
IsOlder n (shapes.Group p) = p.0 < n
IsOlder n shapes.Match = Unit {0}
IsOlder n shapes.Other = Unit {0}

shaped_older : (n : ℕ) (s : Sort) (parts : List NodeId) → AreOlder n parts → IsOlder n (shaped s parts)
shaped_older n a_name parts h = tt
shaped_older n an_attribute [] h = tt
shaped_older n an_attribute (p ∷ more) h = h.0
shaped_older n in_brackets [] h = tt
shaped_older n in_brackets (p ∷ []) h = h.0
shaped_older n in_brackets (p ∷ q ∷ more) h = tt
shaped_older n a_match parts h = tt
shaped_older n another parts h = tt

parts_older : (a : Arena) (n : NodeId) → IsLinked a → AreOlder n.0 (parts_at a.nodes n)
parts_older a n linked = go (slice_get a.nodes n.0) refl
  where
    go : (found : Option Node) → slice_get a.nodes n.0 ≡ found → AreOlder n.0 (parts_or_none found)
    go None e = tt
    go (Some node) e = AreOlder-later (0 + n.0) n.0 node.parts (omega arith) (AreLinked-at (length a.names) 0 n.0 a.nodes node linked e).0

pub shape_older : (a : Arena) (n : NodeId) → IsLinked a → IsOlder n.0 (shape_at a n)
shape_older a n linked = shaped_older n.0 (sort (kind_at a.nodes n)) (parts_at a.nodes n) (parts_older a n linked)

shape_same : (f g : NodeId → Option Reference) (a : Arena) (os : List Owner) (n : NodeId) (s : Shape) → IsOlder n.0 s
    → ((p : NodeId) → p.0 < n.0 → f p ≡ g p) → by_shape f a os n s ≡ by_shape g a os n s
shape_same f g a os n shapes.Name h same = refl
shape_same f g a os n (shapes.Attribute p) h same = ap (λ (r : Option Reference). of_attribute r (name_of a n)) (same p h)
shape_same f g a os n (shapes.Group p) h same = same p h
shape_same f g a os n shapes.Match h same = refl
shape_same f g a os n shapes.Other h same = refl

-- a depth that is enough gives no more than another
within_same : (j k : ℕ) (a : Arena) (os : List Owner) (n : NodeId) → IsLinked a → n.0 < j → n.0 < k → within j a os n ≡ within k a os n
within_same zero k a os n linked h g = absurd (omega arith)
within_same (suc j) zero a os n linked h g = absurd (omega arith)
within_same (suc j) (suc k) a os n linked h g =
    shape_same (within j a os) (within k a os) a os n (shape_at a n) (shape_older a n linked)
    (λ p lt. within_same j k a os p linked (omega arith) (omega arith))

pub reference_step : (a : Arena) (os : List Owner) (n : NodeId) → IsLinked a → reference_of a os n ≡ by_shape (reference_of a os) a os n (shape_at a n)
unfolding reference_of
reference_step a os n linked =
    shape_same (within n.0 a os) (reference_of a os) a os n (shape_at a n) (shape_older a n linked)
    (λ p lt. within_same n.0 (suc p.0) a os p linked lt (omega arith))

-- the numbers of the parts of a shape
pub parts_known : (a : Arena) (os : List Owner) (list : List Reference) (table : List (Option RefId)) (n : ℕ) (s : Shape) → IsOlder n s
    → AreKnownBelow a os list table n → AreNumbersOf list table s (reference_of a os)
parts_known a os list table n shapes.Name h known = tt
parts_known a os list table n (shapes.Attribute p) h known = known p h
parts_known a os list table n (shapes.Group p) h known = known p h
parts_known a os list table n shapes.Match h known = tt
parts_known a os list table n shapes.Other h known = tt

pub parts_below : (a : Arena) (os : List Owner) (list : List Reference) (table : List (Option RefId)) (n : ℕ) (s : Shape) → IsOlder n s
    → AreKnownBelow a os list table n → IsPartBelow (length list) table s
parts_below a os list table n shapes.Name h known = tt
parts_below a os list table n (shapes.Attribute p) h known = number_below list (flat (slice_get table p.0)) (reference_of a os p) (known p h)
parts_below a os list table n (shapes.Group p) h known = number_below list (flat (slice_get table p.0)) (reference_of a os p) (known p h)
parts_below a os list table n shapes.Match h known = tt
parts_below a os list table n shapes.Other h known = tt

pub lt_suc : (i n : ℕ) → i < n + 1 → (i < n) ⊎ (i ≡ n)
lt_suc i n h = elim (cases_lt i n) [ inl a ↦ inl a | inr b ↦ inr (omega arith) ]

pub get_old : {A : Type 0} (xs : List A) (y : A) (i : ℕ) → i < length xs → slice_get (xs ++ y ∷ []) i ≡ slice_get xs i
get_old [] y i h = absurd (omega arith)
get_old (x ∷ xs) y zero h = refl
get_old (x ∷ xs) y (suc i) h = get_old xs y i (omega arith)

pub get_none : {A : Type 0} (xs : List A) (i : ℕ) → length xs ≤ i → slice_get xs i ≡ None
get_none [] i h = refl
get_none (x ∷ xs) zero h = absurd (omega arith)
get_none (x ∷ xs) (suc i) h = get_none xs i (omega arith)

abbrev node : ℕ → NodeId
node n = record { 0 = n }

node_same : (m n : NodeId) → m.0 ≡ n.0 → m ≡ n
node_same m n e = ap node e

known_here : (a : Arena) (os : List Owner) (new : List Reference) (table more : List (Option RefId)) (n : NodeId) (x : Option RefId) → IsLinked a
    → length table ≡ n.0 → IsNumberOf new x (by_shape (reference_of a os) a os n (shape_at a n)) → more ≡ table ++ x ∷ []
    → IsNumberOf new (flat (slice_get more n.0)) (reference_of a os n)
known_here a os new table more n x linked long is pushed =
    let found : flat (slice_get more n.0) ≡ x = ap (λ (l : List (Option RefId)). flat (slice_get l n.0)) pushed
    ∙ ap (λ (k : ℕ). flat (slice_get (table ++ x ∷ []) k)) (sym long) ∙ ap flat (get_last table x) in
    subst (λ (y : Option RefId). IsNumberOf new y (reference_of a os n)) (sym found)
    (subst (λ (r : Option Reference). IsNumberOf new x r) (sym (reference_step a os n linked)) is)

-- the references of one more node
number_one : (list : List Reference) (x : Option RefId) (q : Reference) (r : Option Reference) → IsNumberOf list x (Some q) → IsNumberOf list x r → r ≡ Some q
number_one list None q r h g = absurd h
number_one list (Some id) q None h g = absurd g
number_one list (Some id) q (Some r) h g = sym g ∙ h

pub of_nodes_more : (a : Arena) (os : List Owner) (list new : List Reference) (n : NodeId) (x : Option RefId) → AreOfNodes a os list n.0
    → GrowsBy list new x → IsNumberOf new x (reference_of a os n) → AreOfNodes a os new (n.0 + 1)
of_nodes_more a os list new n x each grows is i r at = elim (grows i r at) [
  | inl old ↦ let (m, lt, of) = each i r old in (m, omega arith, of)
  | inr last ↦ (n, omega arith, number_one new x r (reference_of a os n) last is)
]

-- the number of one more node, by those of its parts
pub number_here : (a : Arena) (os : List Owner) (list new : List Reference) (table : List (Option RefId)) (n : NodeId) (x : Option RefId) → IsLinked a
    → AreKnownBelow a os list table n.0
    → ((inner : NodeId → Option Reference) → AreNumbersOf list table (shape_at a n) inner → IsNumberOf new x (by_shape inner a os n (shape_at a n)))
    → IsNumberOf new x (reference_of a os n)
number_here a os list new table n x linked known numbered =
    subst (λ (r : Option Reference). IsNumberOf new x r) (sym (reference_step a os n linked))
    (numbered (reference_of a os) (parts_known a os list table n.0 (shape_at a n) (shape_older a n linked) known))

-- one more node
pub known_more : (a : Arena) (os : List Owner) (list new : List Reference) (table more : List (Option RefId)) (n : NodeId) (x : Option RefId) → IsLinked a
    → length table ≡ n.0 → AreKnownBelow a os list table n.0 → Keeps list new
    → ((inner : NodeId → Option Reference) → AreNumbersOf list table (shape_at a n) inner → IsNumberOf new x (by_shape inner a os n (shape_at a n)))
    → more ≡ table ++ x ∷ [] → AreKnownBelow a os new more (n.0 + 1)
known_more a os list new table more n x linked long known keeps numbered pushed m lt =
    let is = numbered (reference_of a os) (parts_known a os list table n.0 (shape_at a n) (shape_older a n linked) known) in
    elim (lt_suc m.0 n.0 lt) [
      | inl old ↦ rw (pushed, get_old table x m.0 (rw long old)) (number_kept list new (flat (slice_get table m.0)) (reference_of a os m) keeps (known m old))
      | inr here ↦ subst (λ (k : NodeId). IsNumberOf new (flat (slice_get more k.0)) (reference_of a os k)) (sym (node_same m n here))
          (known_here a os new table more n x linked long is pushed)
    ]

reference_none : (a : Arena) (os : List Owner) (n : NodeId) → slice_get a.nodes n.0 ≡ None → reference_of a os n ≡ None
unfolding reference_of
reference_none a os n e = rw e refl

-- what no node is stands for nothing
pub known_all : (a : Arena) (os : List Owner) (list : List Reference) (table : List (Option RefId)) → length table ≡ length a.nodes
    → AreKnownBelow a os list table (length a.nodes) → AreKnown a os list table
known_all a os list table long known n = elim (cases_lt n.0 (length a.nodes)) [
  | inl lt ↦ known n lt
  | inr ge ↦ rw (get_none table n.0 (rw long ge), reference_none a os n (get_none a.nodes n.0 ge)) tt
]
