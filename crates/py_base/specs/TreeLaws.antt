-- Laws of trees in an arena: what a node stands for stays as nodes and names come behind, and each new node stands for a node over
-- the trees of its parts.
use Rattle.std.proofs.Common.{◌≡◌, ℕ, zero, suc, ◌+◌, ◌<◌, ◌≤◌, List, [], ◌∷◌, ◌++◌, length, Some, refl, sym, ◌∙◌, ap, arith, append_assoc, append-nil, length-append, zero-add, slice_get}
use Rattle.std.proofs.lemmas.List.{get_or_append_left}
use Rattle.std.proofs.Math.Seq.{get_or-append_seam}
use Rattle.py_base.specs.declared.ids.NodeId.{NodeId}
use Rattle.py_base.specs.declared.node.Word.{Word}
use Rattle.py_base.specs.declared.node.Word.TheVariants as words
use Rattle.py_base.specs.declared.node.Node.{Node}
use Rattle.py_base.specs.Tree.{SyntaxTree, Arena, said, no_tree, parts_at, node_tree, trees_from, trees, tree_of, AreOlder, IsNamed, AreLinked, IsLinked, Grows}

pub AreOlder-later : (m n : ℕ) (ids : List NodeId) → m ≤ n → AreOlder m ids → AreOlder n ids
AreOlder-later m n [] le h = tt
AreOlder-later m n (id ∷ ids) le (h, k) = (omega arith, AreOlder-later m n ids le k)

pub AreOlder-append : (n : ℕ) (xs ys : List NodeId) → AreOlder n xs → AreOlder n ys → AreOlder n (xs ++ ys)
AreOlder-append n [] ys h k = k
AreOlder-append n (id ∷ xs) ys h k = (h.0, AreOlder-append n xs ys h.1 k)

pub IsNamed-later : (m n : ℕ) (w : Word) → m ≤ n → IsNamed m w → IsNamed n w
IsNamed-later m n words.Nothing le h = tt
IsNamed-later m n (words.Name id) le h = omega arith
IsNamed-later m n (words.Int i) le h = tt
IsNamed-later m n (words.Chars t) le h = tt
IsNamed-later m n (words.Bytes b) le h = tt
IsNamed-later m n (words.Op o) le h = tt

pub AreLinked-later : (m n at : ℕ) (ns : List Node) → m ≤ n → AreLinked m at ns → AreLinked n at ns
AreLinked-later m n at [] le h = tt
AreLinked-later m n at (x ∷ ns) le (a, b, c) = (a, IsNamed-later m n x.word le b, AreLinked-later m n (suc at) ns le c)

pub AreLinked-add : (names at : ℕ) (ns : List Node) (x : Node) → AreLinked names at ns → AreOlder (at + length ns) x.parts → IsNamed names x.word → AreLinked names at (ns ++ x ∷ [])
AreLinked-add names at [] x h a b = (AreOlder-later (at + 0) at x.parts (omega arith) a, b, tt)
AreLinked-add names at (y ∷ ns) x (p, q, r) a b =
    (p, q, AreLinked-add names (suc at) ns x r (AreOlder-later (at + length (y ∷ ns)) (suc at + length ns) x.parts (omega arith) a) b)

pub AreLinked-at : (names at i : ℕ) (ns : List Node) (x : Node) → AreLinked names at ns → slice_get ns i ≡ Some x → AreOlder (at + i) x.parts × IsNamed names x.word
AreLinked-at names at i [] x h e = cc
AreLinked-at names at zero (y ∷ ns) x (p, q, r) e = let same : y ≡ x = cc in rw (← same) (AreOlder-later at (at + 0) y.parts (omega arith) p, q)
AreLinked-at names at (suc i) (y ∷ ns) x (p, q, r) e =
    let (a, b) = AreLinked-at names (suc at) i ns x r e in (AreOlder-later (suc at + i) (at + suc i) x.parts (omega arith) a, b)

-- what a word says stays as names come behind
pub said-later : (names more : List (List ℕ)) (w : Word) → IsNamed (length names) w → said (names ++ more) w ≡ said names w
said-later names more words.Nothing h = refl
said-later names more (words.Name id) h = rw (get_or_append_left names more [] id.0 h) refl
said-later names more (words.Int i) h = refl
said-later names more (words.Chars t) h = refl
said-later names more (words.Bytes b) h = refl
said-later names more (words.Op o) h = refl

node_tree-later : (names more : List (List ℕ)) (ts : List SyntaxTree) (x : Node) → IsNamed (length names) x.word → node_tree (names ++ more) ts x ≡ node_tree names ts x
node_tree-later names more ts x h = rw (said-later names more x.word h) refl

trees_from-later : (names more : List (List ℕ)) (ts : List SyntaxTree) (at : ℕ) (ns : List Node) → AreLinked (length names) at ns → trees_from (names ++ more) ts ns ≡ trees_from names ts ns
trees_from-later names more ts at [] h = refl
trees_from-later names more ts at (x ∷ ns) (a, b, c) =
    rw (node_tree-later names more ts x b) (trees_from-later names more (ts ++ node_tree names ts x ∷ []) (suc at) ns c)

trees_from-append : (names : List (List ℕ)) (ts : List SyntaxTree) (ns : List Node) (x : Node) → trees_from names ts (ns ++ x ∷ []) ≡ trees_from names ts ns ++ node_tree names (trees_from names ts ns) x ∷ []
trees_from-append names ts [] x = refl
trees_from-append names ts (y ∷ ns) x = trees_from-append names (ts ++ node_tree names ts y ∷ []) ns x

length-trees_from : (names : List (List ℕ)) (ts : List SyntaxTree) (ns : List Node) → length (trees_from names ts ns) ≡ length ts + length ns
length-trees_from names ts [] = omega arith
length-trees_from names ts (x ∷ ns) = let e = length-trees_from names (ts ++ node_tree names ts x ∷ []) ns in omega (arith, length-append ts (node_tree names ts x ∷ []))

added : (names : List (List ℕ)) (ts : List SyntaxTree) (ns : List Node) → (more : List SyntaxTree) × (trees_from names ts ns ≡ ts ++ more)
added names ts [] = ([], sym (append-nil ts))
added names ts (x ∷ ns) =
    let (more, e) = added names (ts ++ node_tree names ts x ∷ []) ns in
    (node_tree names ts x ∷ more, e ∙ append_assoc ts (node_tree names ts x ∷ []) more)

trees_from-join : (names : List (List ℕ)) (ts : List SyntaxTree) (ns ms : List Node) → trees_from names ts (ns ++ ms) ≡ trees_from names (trees_from names ts ns) ms
trees_from-join names ts [] ms = refl
trees_from-join names ts (x ∷ ns) ms = trees_from-join names (ts ++ node_tree names ts x ∷ []) ns ms

pub length-trees : (a : Arena) → length (trees a) ≡ length a.nodes
length-trees a = length-trees_from a.names [] a.nodes ∙ zero-add (length a.nodes)

pub trees-grow : (old new : Arena) → IsLinked old → Grows old new → (more : List SyntaxTree) × (trees new ≡ trees old ++ more)
trees-grow old new h g =
    let (extra, e) = added new.names (trees old) g.more_nodes in
    let same : trees_from new.names [] old.nodes ≡ trees old = rw g.names (trees_from-later old.names g.more_names [] 0 old.nodes h) in
    let whole : trees new ≡ trees_from new.names (trees_from new.names [] old.nodes) g.more_nodes = rw g.nodes (trees_from-join new.names [] old.nodes g.more_nodes) in
    (extra, whole ∙ ap (λ ts. trees_from new.names ts g.more_nodes) same ∙ e)

-- OLDER NODES STAND FOR WHAT THEY STOOD FOR
pub tree_of-later : (old new : Arena) (id : NodeId) → IsLinked old → Grows old new → id.0 < length old.nodes → tree_of new id ≡ tree_of old id
tree_of-later old new id h g lt =
    let (more, e) = trees-grow old new h g in
    let below : id.0 < length (trees old) = rw (length-trees old) lt in
    rw e (get_or_append_left (trees old) more no_tree id.0 below)

parts_at-append : (ts more : List SyntaxTree) (ids : List NodeId) → AreOlder (length ts) ids → parts_at (ts ++ more) ids ≡ parts_at ts ids
parts_at-append ts more [] h = refl
parts_at-append ts more (id ∷ ids) (h, k) = rw (get_or_append_left ts more no_tree id.0 h, parts_at-append ts more ids k) refl

pub parts_at-later : (old new : Arena) (ids : List NodeId) → IsLinked old → Grows old new → AreOlder (length old.nodes) ids → parts_at (trees new) ids ≡ parts_at (trees old) ids
parts_at-later old new ids h g lt =
    let (more, e) = trees-grow old new h g in
    let below : AreOlder (length (trees old)) ids = rw (length-trees old) lt in
    rw e (parts_at-append (trees old) more ids below)

-- THE TREE OF THE NEWEST NODE
pub tree_of-new : (old : Arena) (x : Node) (id : NodeId) → id.0 ≡ length old.nodes → tree_of (record old { nodes = old.nodes ++ x ∷ [] }) id ≡ node_tree old.names (trees old) x
tree_of-new old x id e =
    let at : id.0 ≡ length (trees old) = rw (length-trees old) e in
    rw (trees_from-append old.names [] old.nodes x, at) (get_or-append_seam (trees old) (node_tree old.names (trees old) x) [] no_tree)

pub IsLinked-add : (old : Arena) (x : Node) → IsLinked old → AreOlder (length old.nodes) x.parts → IsNamed (length old.names) x.word → IsLinked (record old { nodes = old.nodes ++ x ∷ [] })
IsLinked-add old x h a b = AreLinked-add (length old.names) 0 old.nodes x h (AreOlder-later (length old.nodes) (0 + length old.nodes) x.parts (omega arith) a) b

pub Grows-refl : (a : Arena) → Grows a a
Grows-refl a = record { more_names = []; names = sym (append-nil a.names); more_nodes = []; nodes = sym (append-nil a.nodes) }

pub Grows-trans : (a b c : Arena) → Grows a b → Grows b c → Grows a c
Grows-trans a b c g h = record {
  more_names = g.more_names ++ h.more_names;
  names = h.names ∙ rw g.names (append_assoc a.names g.more_names h.more_names);
  more_nodes = g.more_nodes ++ h.more_nodes;
  nodes = h.nodes ∙ rw g.nodes (append_assoc a.nodes g.more_nodes h.more_nodes);
}

pub Grows-nodes : (a b : Arena) → Grows a b → length a.nodes ≤ length b.nodes
Grows-nodes a b g = rw g.nodes (omega (arith, length-append a.nodes g.more_nodes))

pub Grows-names : (a b : Arena) → Grows a b → length a.names ≤ length b.names
Grows-names a b g = rw g.names (omega (arith, length-append a.names g.more_names))

pub Grows-add : (a : Arena) (x : Node) → Grows a (record a { nodes = a.nodes ++ x ∷ [] })
Grows-add a x = record { more_names = []; names = sym (append-nil a.names); more_nodes = x ∷ []; nodes = refl }
