-- How often nodes are parts, as nodes come over others.
use Rattle.std.proofs.Common.{◌≡◌, ℕ, zero, suc, ◌+◌, ◌<◌, ◌≤◌, ◌==◌, nat_lt, Bool, true, false, List, [], ◌∷◌, ◌++◌, length, take, drop, refl, sym, ◌∙◌, ap, arith, ◌⊎◌, inl, inr, append-nil, append_assoc, length-append}
use Rattle.std.proofs.lemmas.Bool.{ltb-true, ltb-false}
use Rattle.std.proofs.lemmas.Bool.Decides.{eqb_tells}
use Rattle.std.proofs.lemmas.List.{map-append, take-append-drop}
use Rattle.py_base.specs.declared.ids.NodeId.{NodeId}
use Rattle.py_base.specs.declared.node.Node.{Node}
use Rattle.py_base.specs.Tree.{Arena, AreOlder, AreLinked, IsLinked}
use Rattle.py_base.specs.TreeLaws.{Grows-nodes, AreOlder-later}
use Rattle.py_base.specs.OneTree.{times, all_parts, AddsOneTree}
use Rattle.py_base.specs.OneTreeLaws.{times-append, all_parts-append}
use Rattle.std.specs.Borrow.{Bor}
use Rattle.py_tokens.specs.declared.lines.Token.{Token}
use Rattle.py_grammar.specs.declared.found.Found.{Found}
use Rattle.py_grammar.specs.declared.found.Item.{Item}
use Rattle.py_grammar.specs.declared.found.Item.TheVariants as items
use Rattle.py_grammar.proofs.KnownLemmas.{known-take, known-drop}
use Rattle.py_grammar.specs.Found.{AllKnown, AreKnown, Extends, item_ids, found_ids, uses, Keeps, IsNewest}

times-other : (n : ℕ) (id : NodeId) (ids : List NodeId) → id.0 < n → times n (id ∷ ids) ≡ times n ids
times-other n id ids lt = go (eqb_tells id.0 n)
  where
    go : ((id.0 == n) ≡ true) × (id.0 ≡ n) ⊎ ((id.0 == n) ≡ false) × (id.0 ≡ n → ⊥) → times n (id ∷ ids) ≡ times n ids
    go (inl (e, same)) = absurd (omega arith)
    go (inr (e, other)) = rw e refl

times-before : (n : ℕ) (id : NodeId) (ids : List NodeId) → n < id.0 → times n (id ∷ ids) ≡ times n ids
times-before n id ids lt = go (eqb_tells id.0 n)
  where
    go : ((id.0 == n) ≡ true) × (id.0 ≡ n) ⊎ ((id.0 == n) ≡ false) × (id.0 ≡ n → ⊥) → times n (id ∷ ids) ≡ times n ids
    go (inl (e, same)) = absurd (omega arith)
    go (inr (e, other)) = rw e refl

times-self : (n : ℕ) (id : NodeId) → id.0 ≡ n → times n (id ∷ []) ≡ 1
times-self n id same = go (eqb_tells id.0 n)
  where
    go : ((id.0 == n) ≡ true) × (id.0 ≡ n) ⊎ ((id.0 == n) ≡ false) × (id.0 ≡ n → ⊥) → times n (id ∷ []) ≡ 1
    go (inl (e, _)) = rw e refl
    go (inr (e, other)) = absurd (other same)

-- ids of older nodes have no newer one among them
pub times-older : (n m : ℕ) (ids : List NodeId) → AreOlder m ids → m ≤ n → times n ids ≡ 0
times-older n m [] h le = refl
times-older n m (id ∷ ids) (h, k) le =
    let lt : id.0 < n = omega arith in
    times-other n id ids lt ∙ times-older n m ids k le

parts-older : (names at n : ℕ) (ns : List Node) → AreLinked names at ns → at + length ns ≤ n → times n (all_parts ns) ≡ 0
parts-older names at n [] h le = refl
parts-older names at n (x ∷ ns) (a, b, c) le =
    let first = times-older n at x.parts a (omega arith) in
    let rest = parts-older names (suc at) n ns c (omega arith) in
    omega (arith, first, rest, times-append n x.parts (all_parts ns))

pub older-items : (a : Arena) (xs : List Item) → AreKnown a xs → AreOlder (length a.nodes) (item_ids xs)
older-items a [] h = tt
older-items a (items.Word w ∷ xs) h = older-items a xs h
older-items a (items.Part x ∷ xs) h = (h.0.inside, older-items a xs h.1)

pub older-found : (a : Arena) (xs : List Found) → AllKnown a xs → AreOlder (length a.nodes) (found_ids xs)
older-found a [] h = tt
older-found a (x ∷ xs) h = (h.0.inside, older-found a xs h.1)

pub item_ids-append : (xs ys : List Item) → item_ids (xs ++ ys) ≡ item_ids xs ++ item_ids ys
item_ids-append [] ys = refl
item_ids-append (items.Word w ∷ xs) ys = item_ids-append xs ys
item_ids-append (items.Part x ∷ xs) ys = ap (λ ids. x.id ∷ ids) (item_ids-append xs ys)

-- where no node comes, all stays
pub Keeps-same : (a b : Arena) (xs : List NodeId) → b.nodes ≡ a.nodes → Keeps a xs b xs
Keeps-same a b xs e = record {
  once = λ n le lt. absurd (omega (arith, ap length e));
  apart = λ n lt. rw e refl;
}

pub Keeps-trans : (a b c : Arena) (xs ys zs : List NodeId) → length a.nodes ≤ length b.nodes → Keeps a xs b ys → Keeps b ys c zs → Keeps a xs c zs
Keeps-trans a b c xs ys zs more g h = record {
  once = λ n le lt. go n le lt (nat_lt n (length b.nodes)) refl;
  apart = λ n lt. h.apart n (omega arith) ∙ g.apart n lt;
}
  where
    go : (n : ℕ) → length a.nodes ≤ n → n < length c.nodes → (known : Bool) → nat_lt n (length b.nodes) ≡ known → uses n c zs ≡ 1
    go n le lt true e = h.apart n (ltb-true n (length b.nodes) e) ∙ g.once n le (ltb-true n (length b.nodes) e)
    go n le lt false e = h.once n (ltb-false n (length b.nodes) e) lt

-- further nodes that are no part yet
pub Keeps-before : (a b : Arena) (zs xs ys : List NodeId) → AreOlder (length a.nodes) zs → Keeps a xs b ys → Keeps a (zs ++ xs) b (zs ++ ys)
Keeps-before a b zs xs ys older h = record {
  once = λ n le lt. omega (arith, h.once n le lt, times-older n (length a.nodes) zs older le, times-append n zs ys);
  apart = λ n lt. omega (arith, h.apart n lt, times-append n zs xs, times-append n zs ys);
}

pub Keeps-behind : (a b : Arena) (zs xs ys : List NodeId) → AreOlder (length a.nodes) zs → Keeps a xs b ys → Keeps a (xs ++ zs) b (ys ++ zs)
Keeps-behind a b zs xs ys older h = record {
  once = λ n le lt. omega (arith, h.once n le lt, times-older n (length a.nodes) zs older le, times-append n ys zs);
  apart = λ n lt. omega (arith, h.apart n lt, times-append n xs zs, times-append n ys zs);
}

-- how often a node is a part of those with one more
parts-added : (n : ℕ) (ns : List Node) (x : Node) → times n (all_parts (ns ++ x ∷ [])) ≡ times n (all_parts ns) + times n x.parts
parts-added n ns x = rw (all_parts-append ns (x ∷ [])) (times-append n (all_parts ns) (x.parts ++ []) ∙ ap (λ ids. times n (all_parts ns) + times n ids) (append-nil x.parts))

-- A NEW NODE TAKES ITS PARTS
pub Keeps-node : (old new : Arena) (x : Node) (id : NodeId) (ids : List NodeId) → IsLinked old → AreOlder (length old.nodes) ids → x.parts ≡ ids → new ≡ record old { nodes = old.nodes ++ x ∷ [] } → id.0 ≡ length old.nodes → Keeps old ids new (id ∷ []) × IsNewest old new id
Keeps-node old new x id ids linked older parts e at = (rw e (record { once = λ n le lt. once n le lt; apart = λ n lt. apart n lt }), rw e newest)
  where
    newest : IsNewest old (record old { nodes = old.nodes ++ x ∷ [] }) id
    newest = record { newest = omega (arith, at, length-append old.nodes (x ∷ [])); added = omega (arith, length-append old.nodes (x ∷ [])) }

    once : (n : ℕ) → length old.nodes ≤ n → n < length (old.nodes ++ x ∷ []) → times n (all_parts (old.nodes ++ x ∷ [])) + times n (id ∷ []) ≡ 1
    once n le lt =
        let same : id.0 ≡ n = omega (arith, at, length-append old.nodes (x ∷ [])) in
        let none : times n x.parts ≡ 0 = rw parts (times-older n (length old.nodes) ids older le) in
        omega (arith, parts-added n old.nodes x, parts-older (length old.names) 0 n old.nodes linked (omega arith), none, times-self n id same)

    apart : (n : ℕ) → n < length old.nodes → times n (all_parts (old.nodes ++ x ∷ [])) + times n (id ∷ []) ≡ times n (all_parts old.nodes) + times n ids
    apart n lt =
        let lt2 : n < id.0 = omega (arith, at) in
        let same : times n x.parts ≡ times n ids = rw parts refl in
        omega (arith, parts-added n old.nodes x, times-before n id [] lt2, same)

-- a tree was added where its newest node alone is no part
pub Keeps-tree : (old new : Arena) (id : NodeId) → Keeps old [] new (id ∷ []) → IsNewest old new id → AddsOneTree old new id
Keeps-tree old new id h k = record {
  newest = k.newest;
  added = k.added;
  once = λ n le lt. let lt2 : n < id.0 = omega (arith, k.newest) in omega (arith, h.once n le (omega arith), times-before n id [] lt2);
  apart = λ n lt. let lt2 : n < id.0 = omega (arith, k.newest, k.added) in omega (arith, h.apart n lt, times-before n id [] lt2);
}

-- the items of a form, as more of them are read
pub keeps-word : (old now : Arena) (ids : List NodeId) (xs : List Item) (w : Bor Token) → Keeps old ids now (item_ids xs) → Keeps old ids now (item_ids (xs ++ items.Word w ∷ []))
keeps-word old now ids xs w h = rw (item_ids-append xs (items.Word w ∷ []), append-nil (item_ids xs)) h

pub keeps-part : (old now new : Arena) (ids : List NodeId) (xs : List Item) (x : Found) → Extends old now → AreKnown now xs → Keeps old ids now (item_ids xs) → Keeps now [] new (x.id ∷ []) → Keeps old ids new (item_ids (xs ++ items.Part x ∷ []))
keeps-part old now new ids xs x e k h g =
    let g2 : Keeps now (item_ids xs) new (item_ids xs ++ x.id ∷ []) = rw (append-nil (item_ids xs)) at (Keeps-before now new (item_ids xs) [] (x.id ∷ []) (older-items now xs k) g) in
    rw (item_ids-append xs (items.Part x ∷ [])) (Keeps-trans old now new ids (item_ids xs) (item_ids xs ++ x.id ∷ []) (Grows-nodes old now e.grown) h g2)

newest-later : (old mid new : Arena) (id : NodeId) → Extends old mid → IsNewest mid new id → IsNewest old new id
newest-later old mid new id e k = record { newest = k.newest; added = omega (arith, k.added, Grows-nodes old mid e.grown) }

pub begun-keeps : (old mid new : Arena) (first xs : List Item) (w : Bor Token) (x : Found) → first ≡ items.Word w ∷ [] → Extends old mid → Keeps old (item_ids first) mid (item_ids xs) → Keeps mid (item_ids xs) new (x.id ∷ []) → IsNewest mid new x.id → Keeps old [] new (x.id ∷ []) × IsNewest old new x.id
begun-keeps old mid new first xs w x one e h g k =
    let h2 : Keeps old [] mid (item_ids xs) = rw one at h in
    (Keeps-trans old mid new [] (item_ids xs) (x.id ∷ []) (Grows-nodes old mid e.grown) h2 g, newest-later old mid new x.id e k)

pub joined-keeps : (old now mid new : Arena) (first xs : List Item) (w : Bor Token) (left x : Found) → first ≡ items.Part left ∷ items.Word w ∷ [] → Extends old now → Extends now mid → Keeps old [] now (left.id ∷ []) → Keeps now (item_ids first) mid (item_ids xs) → Keeps mid (item_ids xs) new (x.id ∷ []) → IsNewest mid new x.id → Keeps old [] new (x.id ∷ []) × IsNewest old new x.id
joined-keeps old now mid new first xs w left x two d e f h g k =
    let h2 : Keeps now (left.id ∷ []) mid (item_ids xs) = rw two at h in
    let front = Keeps-trans old now mid [] (left.id ∷ []) (item_ids xs) (Grows-nodes old now d.grown) f h2 in
    let less : length old.nodes ≤ length mid.nodes = omega (arith, Grows-nodes old now d.grown, Grows-nodes now mid e.grown) in
    (Keeps-trans old mid new [] (item_ids xs) (x.id ∷ []) less front g, newest-later old now new x.id d (newest-later now mid new x.id e k))

-- a node over what is kept of items
pub assembled-keeps : (old t1 t2 new : Arena) (ids vs : List NodeId) (id : NodeId) → t1.nodes ≡ old.nodes → Extends t1 t2 → Keeps t1 ids t2 vs → Keeps t2 vs new (id ∷ []) → IsNewest t2 new id → Keeps old ids new (id ∷ []) × IsNewest old new id
assembled-keeps old t1 t2 new ids vs id same e h g k =
    let front = Keeps-trans t1 t2 new ids vs (id ∷ []) (Grows-nodes t1 t2 e.grown) h g in
    let less : length old.nodes ≤ length t1.nodes = omega (arith, ap length same) in
    let later = newest-later t1 t2 new id e k in
    (Keeps-trans old t1 new ids ids (id ∷ []) less (Keeps-same old t1 ids same) front, record { newest = later.newest; added = omega (arith, later.added, ap length same) })

pub leaf-keeps : (old mid new : Arena) (id : NodeId) → mid.nodes ≡ old.nodes → Keeps mid [] new (id ∷ []) → Keeps old [] new (id ∷ [])
leaf-keeps old mid new id same g =
    let less : length old.nodes ≤ length mid.nodes = omega (arith, ap length same) in
    Keeps-trans old mid new [] [] (id ∷ []) less (Keeps-same old mid [] same) g

pub keep_part-keeps : (a : Arena) (ps new : List Found) (item : Item) (x : Found) → item ≡ items.Part x → new ≡ ps ++ x ∷ [] → Keeps a (found_ids ps ++ item_ids (item ∷ [])) a (found_ids new)
keep_part-keeps a ps new item x e n = rw (e, n, map-append (λ (y : Found). y.id) ps (x ∷ [])) (Keeps-same a a (found_ids ps ++ x.id ∷ []) refl)

pub keep_none-keeps : (a : Arena) (ps : List Found) (item : Item) (w : Bor Token) → item ≡ items.Word w → Keeps a (found_ids ps ++ item_ids (item ∷ [])) a (found_ids ps)
keep_none-keeps a ps item w e = rw (e, append-nil (found_ids ps)) (Keeps-same a a (found_ids ps) refl)

pub keep_leaf-keeps : (a a2 : Arena) (ps new : List Found) (item : Item) (w : Bor Token) (x : Found) → item ≡ items.Word w → AllKnown a ps → Keeps a [] a2 (x.id ∷ []) → new ≡ ps ++ x ∷ [] → Keeps a (found_ids ps ++ item_ids (item ∷ [])) a2 (found_ids new)
keep_leaf-keeps a a2 ps new item w x e k g n = rw (e, n, map-append (λ (y : Found). y.id) ps (x ∷ [])) (Keeps-before a a2 (found_ids ps) [] (x.id ∷ []) (older-found a ps k) g)

known-tail : (a : Arena) (item : Item) (behind : List Item) → AreKnown a (item ∷ behind) → AreKnown a behind
known-tail a (items.Word w) behind h = h
known-tail a (items.Part x) behind h = h.1

pub kept-next-keeps : (old mid new : Arena) (xs : List Item) (i : ℕ) (item : Item) (behind : List Item) (ps qs : List Found) → Extends old mid → AreKnown old xs → drop i xs ≡ item ∷ behind → Keeps old (item_ids xs) mid (found_ids ps ++ item_ids (drop i xs)) → Keeps mid (found_ids ps ++ item_ids (item ∷ [])) new (found_ids qs) → Keeps old (item_ids xs) new (found_ids qs ++ item_ids behind)
kept-next-keeps old mid new xs i item behind ps qs e k first so_far next =
    let known : AreKnown old (item ∷ behind) = rw first at (known-drop old i xs k) in
    let older = AreOlder-later (length old.nodes) (length mid.nodes) (item_ids behind) (Grows-nodes old mid e.grown) (older-items old behind (known-tail old item behind known)) in
    let whole : found_ids ps ++ item_ids (drop i xs) ≡ (found_ids ps ++ item_ids (item ∷ [])) ++ item_ids behind = rw first (ap (λ ids. found_ids ps ++ ids) (item_ids-append (item ∷ []) behind) ∙ sym (append_assoc (found_ids ps) (item_ids (item ∷ [])) (item_ids behind))) in
    let so_far2 : Keeps old (item_ids xs) mid ((found_ids ps ++ item_ids (item ∷ [])) ++ item_ids behind) = rw whole at so_far in
    Keeps-trans old mid new (item_ids xs) ((found_ids ps ++ item_ids (item ∷ [])) ++ item_ids behind) (found_ids qs ++ item_ids behind) (Grows-nodes old mid e.grown) so_far2 (Keeps-behind mid new (item_ids behind) (found_ids ps ++ item_ids (item ∷ [])) (found_ids qs) older next)

-- a node over others and a new one, which is over the rest
pub brackets-keep : (old mid new : Arena) (n : ℕ) (xs : List Item) (x y : Found) → AreKnown old xs → Extends old mid → Keeps old (item_ids (drop n xs)) mid (x.id ∷ []) → Keeps mid (item_ids (take n xs ++ items.Part x ∷ [])) new (y.id ∷ []) → IsNewest mid new y.id → Keeps old (item_ids xs) new (y.id ∷ []) × IsNewest old new y.id
brackets-keep old mid new n xs x y k e h g i =
    let front = item_ids (take n xs) in
    let whole : item_ids xs ≡ front ++ item_ids (drop n xs) = ap (λ ys. item_ids ys) (sym (take-append-drop n xs)) ∙ item_ids-append (take n xs) (drop n xs) in
    let h2 : Keeps old (item_ids xs) mid (front ++ x.id ∷ []) = rw whole (Keeps-before old mid front (item_ids (drop n xs)) (x.id ∷ []) (older-items old (take n xs) (known-take old n xs k)) h) in
    let g2 : Keeps mid (front ++ x.id ∷ []) new (y.id ∷ []) = rw (item_ids-append (take n xs) (items.Part x ∷ [])) at g in
    (Keeps-trans old mid new (item_ids xs) (front ++ x.id ∷ []) (y.id ∷ []) (Grows-nodes old mid e.grown) h2 g2, newest-later old mid new y.id e i)
