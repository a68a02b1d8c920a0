-- The tree of a node is a node over the trees of its parts, whichever nodes come behind; and the parts behind a place.
use Rattle.std.proofs.Common.{◌≡◌, ℕ, zero, suc, ◌+◌, ◌<◌, ◌≤◌, nat_eq, List, [], ◌∷◌, ◌++◌, length, drop, get_or, Some, refl, sym, ◌∙◌, ap, subst, arith, slice_get, append_assoc, append-nil, length-append, length-drop, drop-cons, eq-eqb}
use Rattle.py_base.specs.declared.ids.NodeId.{NodeId}
use Rattle.py_base.specs.declared.node.Node.{Node}
use Rattle.py_base.specs.Tree.{SyntaxTree, node, no_parts, with_part, Arena, said, tree_at, parts_at, trees, tree_of, AreOlder, IsNamed, AreLinked, IsLinked, Grows}
use Rattle.py_base.specs.TreeLaws.{AreOlder-later, AreLinked-at, IsLinked-add, tree_of-later, tree_of-new, parts_at-later}
use Rattle.py_blocks.specs.Roles.{is_none}
use Rattle.std.proofs.lemmas.Bool.{ne_eqb}
use Rattle.std.proofs.Math.ListN.{drop_of_length-le}

parted : (ns : List Node) (i : ℕ) (n : Node) → slice_get ns i ≡ Some n → (front : List Node) × (behind : List Node) × (ns ≡ front ++ n ∷ behind) × (length front ≡ i)
parted [] i n e = cc
parted (x ∷ ns) zero n e = let same : x ≡ n = cc in ([], ns, ap (λ m. m ∷ ns) same, refl)
parted (x ∷ ns) (suc i) n e =
    let (front, behind, whole, len) = parted ns i n e in (x ∷ front, behind, ap (λ ms. x ∷ ms) whole, ap (λ k. suc k) len)

AreLinked-front : (names at : ℕ) (xs ys : List Node) → AreLinked names at (xs ++ ys) → AreLinked names at xs
AreLinked-front names at [] ys h = tt
AreLinked-front names at (x ∷ xs) ys (p, q, r) = (p, q, AreLinked-front names (suc at) xs ys r)

-- THE TREE OF A NODE
pub tree_of-node : (a : Arena) (id : NodeId) (n : Node) → IsLinked a → slice_get a.nodes id.0 ≡ Some n → tree_of a id ≡ node n.kind n.span (said a.names n.word) (parts_at (trees a) n.parts)
tree_of-node a id n h e =
    let (front, behind, whole, len) = parted a.nodes id.0 n e in
    let old : Arena = record { names = a.names; nodes = front } in
    let mid : Arena = record { names = a.names; nodes = front ++ n ∷ [] } in
    let linked : AreLinked (length a.names) 0 (front ++ n ∷ behind) = subst (λ (ns : List Node). AreLinked (length a.names) 0 ns) whole h in
    let (older, named) = AreLinked-at (length a.names) 0 id.0 a.nodes n h e in
    let h_old : IsLinked old = AreLinked-front (length a.names) 0 front (n ∷ behind) linked in
    let below : AreOlder (length front) n.parts = AreOlder-later (0 + id.0) (length front) n.parts (omega arith) older in
    let h_mid : IsLinked mid = IsLinked-add old n h_old below named in
    let g_mid : Grows mid a = record { more_names = []; names = sym (append-nil a.names); more_nodes = behind; nodes = whole ∙ sym (append_assoc front (n ∷ []) behind) } in
    let g_old : Grows old a = record { more_names = []; names = sym (append-nil a.names); more_nodes = n ∷ behind; nodes = whole } in
    let lt : id.0 < length (front ++ n ∷ []) = omega (arith, length-append front (n ∷ [])) in
    tree_of-later mid a id h_mid g_mid lt ∙ (tree_of-new old n id (sym len) ∙ ap (λ ts. node n.kind n.span (said a.names n.word) ts) (sym (parts_at-later old a n.parts h_old g_old below)))

pub named-at : (a : Arena) (id : NodeId) (n : Node) → IsLinked a → slice_get a.nodes id.0 ≡ Some n → IsNamed (length a.names) n.word
named-at a id n h e = (AreLinked-at (length a.names) 0 id.0 a.nodes n h e).1

-- each of older nodes is older
pub older-at : (n : ℕ) (ids : List NodeId) (i : ℕ) (d : NodeId) → AreOlder n ids → i < length ids → (get_or ids i d).0 < n
older-at n [] i d h lt = absurd (omega arith)
older-at n (x ∷ ids) zero d (h, k) lt = h
older-at n (x ∷ ids) (suc i) d (h, k) lt = older-at n ids i d k (omega arith)

-- the trees of the ids from a place on
pub parts_at-drop : (ts : List SyntaxTree) (ids : List NodeId) (i : ℕ) (d : NodeId) → i < length ids → parts_at ts (drop i ids) ≡ with_part (tree_at ts (get_or ids i d)) (parts_at ts (drop (i + 1) ids))
parts_at-drop ts ids i d lt =
    let split : drop i ids ≡ get_or ids i d ∷ drop (suc i) ids = drop-cons ids i d lt in
    let one : i + 1 ≡ suc i = omega arith in
    rw (split, one) refl

pub parts_at-end : (ts : List SyntaxTree) (ids : List NodeId) (i : ℕ) → length ids ≤ i → parts_at ts (drop i ids) ≡ no_parts
parts_at-end ts ids i le = ap (parts_at ts) (drop_of_length-le ids le)

is_none-of : (ts : List SyntaxTree) (xs : List NodeId) (m n : ℕ) → length xs + m ≡ n → nat_eq m n ≡ is_none (parts_at ts xs)
is_none-of ts [] m n e = eq-eqb m n (omega arith)
is_none-of ts (x ∷ xs) m n e = ne_eqb m n (λ h. omega arith)

-- whether nothing stands behind a place
pub is_none-drop : (ts : List SyntaxTree) (ids : List NodeId) (i : ℕ) → i < length ids → nat_eq (i + 1) (length ids) ≡ is_none (parts_at ts (drop (i + 1) ids))
is_none-drop ts ids i lt = is_none-of ts (drop (i + 1) ids) (i + 1) (length ids) (omega (arith, length-drop (i + 1) ids))

-- one more before older nodes
pub older-drop : (n : ℕ) (ids : List NodeId) (i : ℕ) (d : NodeId) → i < length ids → (get_or ids i d).0 < n → AreOlder n (drop (i + 1) ids) → AreOlder n (drop i ids)
older-drop n ids i d lt below h =
    let one : i + 1 ≡ suc i = omega arith in
    let split : drop i ids ≡ get_or ids i d ∷ drop (i + 1) ids = rw one (drop-cons ids i d lt) in
    rw split (below, h)
