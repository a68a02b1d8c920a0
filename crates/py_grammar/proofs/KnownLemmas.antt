-- What is known of nodes stays known as the arena grows, and what is known of a new node follows from its parts.
use Rattle.std.proofs.Common.{◌≡◌, ℕ, suc, ◌+◌, ◌<◌, ◌≤◌, min, max, Bool, true, false, cond, List, [], ◌∷◌, ◌++◌, length, map, fold, take, drop, get_or, zero, Option, Some, None, find, refl, sym, ◌∙◌, ap, arith, slice_get, append-nil, append_assoc, length-append}
use Rattle.std.specs.Prelude.{bytes_eq, ◌&&◌}
use Rattle.std.specs.List.{list_all, list_any}
use Rattle.std.specs.Borrow.{Bor}
use Rattle.std.proofs.Math.Seq.{drop-cons}
use Rattle.std.proofs.lemmas.List.{map-append, take-map, drop-map}
use Rattle.std.proofs.lemmas.Option.{get_or_from_slice_get, slice_get_within}
use Rattle.py_base.specs.declared.ids.NameId.{NameId}
use Rattle.py_base.specs.declared.span.Span.{Span}
use Rattle.py_base.specs.declared.node.Node.{Node}
use Rattle.py_base.specs.declared.node.NodeKind.{NodeKind}
use Rattle.py_base.specs.declared.node.Word.{Word}
use Rattle.py_base.specs.declared.node.Word.TheVariants as words
use Rattle.py_base.specs.Tree.{Arena, SyntaxTree, node, with_part, name, said, tree_of, trees, parts_at, height, height_of, AreOlder, IsNamed, IsLinked, Grows, with_name}
use Rattle.py_base.specs.TreeLaws.{tree_of-later, tree_of-new, IsLinked-add, Grows-refl, Grows-trans, Grows-nodes, Grows-names, Grows-add, AreLinked-later, said-later, IsNamed-later}
use Rattle.py_tokens.specs.declared.lines.Token.{Token}
use Rattle.py_grammar.specs.declared.words.Form.{Form}
use Rattle.py_grammar.specs.declared.words.Form.TheVariants as forms
use Rattle.py_grammar.specs.declared.found.Found.{Found}
use Rattle.py_grammar.specs.declared.found.Item.{Item}
use Rattle.py_grammar.specs.declared.found.Item.TheVariants as items
use Rattle.py_grammar.specs.Meaning.{of_word, of_tree, listed, named, words_of, is_tree_next, piece_span, first_from, last_to, kept, kept_one, mark_for, leaf_of, is_name, said_leaf, kind_for, said_for, one_node, assembled, is_clause_piece, has_arguments, called}
use Rattle.py_grammar.specs.declared.words.Terminal.{Terminal}
use Rattle.py_grammar.specs.Terminal.{terminal}
use Rattle.py_grammar.specs.Table.{plain}
use Rattle.py_grammar.specs.declared.order.Binding.{Binding}
use Rattle.py_grammar.specs.declared.order.Binding.TheVariants as bindings
use Rattle.py_grammar.specs.Proper.{parts_proper, are_proper, are_targets, are_assigned, have_colon, are_unreal, begins_unreal, begins_signed, is_faulty, kinds_of, binding}
use Rattle.py_grammar.specs.Found.{capped, IsKnown, AllKnown, AreKnown, piece_at, pieces_at, trees_at, item_words, is_part_next, item_span, items_from, is_clause_item, assigned_over, begins_unreal_over, begins_signed_over, faulty_over, signed_over, unreal_over, parts_proper_over, proper_over, target_over, colon_over, highest, Extends, is_item, word_in}

pub Extends-refl : (a : Arena) → IsLinked a → Extends a a
Extends-refl a h = record { grown = Grows-refl a; linked = h }

pub Extends-same : (old new : Arena) → IsLinked old → new ≡ old → Extends old new
Extends-same old new h e = rw e (Extends-refl old h)

pub Extends-trans : (a b c : Arena) → Extends a b → Extends b c → Extends a c
Extends-trans a b c g h = record { grown = Grows-trans a b c g.grown h.grown; linked = h.linked }

pub IsKnown-later : (old new : Arena) (x : Found) → IsLinked old → Extends old new → IsKnown old x → IsKnown new x
IsKnown-later old new x h g k =
    let same = tree_of-later old new x.id h g.grown k.inside in
    record {
      inside = omega (arith, Grows-nodes old new g.grown, k.inside);
      kind = rw same k.kind;
      span = rw same k.span;
      height = rw same k.height;
      proper = rw same k.proper;
      target = rw same k.target;
      colon = rw same k.colon;
      signed = rw same k.signed;
      unreal = rw same k.unreal;
    }

pub AllKnown-later : (old new : Arena) (xs : List Found) → IsLinked old → Extends old new → AllKnown old xs → AllKnown new xs
AllKnown-later old new [] h g k = tt
AllKnown-later old new (x ∷ xs) h g (a, b) = (IsKnown-later old new x h g a, AllKnown-later old new xs h g b)

pub AllKnown-append : (a : Arena) (xs ys : List Found) → AllKnown a xs → AllKnown a ys → AllKnown a (xs ++ ys)
AllKnown-append a [] ys h k = k
AllKnown-append a (x ∷ xs) ys h k = (h.0, AllKnown-append a xs ys h.1 k)

pub trees_at-later : (old new : Arena) (xs : List Found) → IsLinked old → Extends old new → AllKnown old xs → trees_at new xs ≡ trees_at old xs
trees_at-later old new [] h g k = refl
trees_at-later old new (x ∷ xs) h g (a, b) = rw (tree_of-later old new x.id h g.grown a.inside, trees_at-later old new xs h g b) refl

pub AreKnown-later : (old new : Arena) (xs : List Item) → IsLinked old → Extends old new → AreKnown old xs → AreKnown new xs
AreKnown-later old new [] h g k = tt
AreKnown-later old new (items.Word w ∷ xs) h g k = AreKnown-later old new xs h g k
AreKnown-later old new (items.Part x ∷ xs) h g (a, b) = (IsKnown-later old new x h g a, AreKnown-later old new xs h g b)

pub AreKnown-append : (a : Arena) (xs ys : List Item) → AreKnown a xs → AreKnown a ys → AreKnown a (xs ++ ys)
AreKnown-append a [] ys h k = k
AreKnown-append a (items.Word w ∷ xs) ys h k = AreKnown-append a xs ys h k
AreKnown-append a (items.Part x ∷ xs) ys h k = (h.0, AreKnown-append a xs ys h.1 k)

pub known-take : (a : Arena) (n : ℕ) (xs : List Item) → AreKnown a xs → AreKnown a (take n xs)
known-take a zero xs h = tt
known-take a (suc n) [] h = tt
known-take a (suc n) (items.Word w ∷ xs) h = known-take a n xs h
known-take a (suc n) (items.Part x ∷ xs) h = (h.0, known-take a n xs h.1)

pub known-drop : (a : Arena) (n : ℕ) (xs : List Item) → AreKnown a xs → AreKnown a (drop n xs)
known-drop a zero xs h = h
known-drop a (suc n) [] h = tt
known-drop a (suc n) (items.Word w ∷ xs) h = known-drop a n xs h
known-drop a (suc n) (items.Part x ∷ xs) h = known-drop a n xs h.1

pub pieces_at-later : (old new : Arena) (xs : List Item) → IsLinked old → Extends old new → AreKnown old xs → pieces_at new xs ≡ pieces_at old xs
pieces_at-later old new [] h g k = refl
pieces_at-later old new (items.Word w ∷ xs) h g k = ap (λ ps. of_word w.now ∷ ps) (pieces_at-later old new xs h g k)
pieces_at-later old new (items.Part x ∷ xs) h g (a, b) = rw (tree_of-later old new x.id h g.grown a.inside, pieces_at-later old new xs h g b) refl

-- what the pieces say that items stand for
pub words-at : (a : Arena) (xs : List Item) → words_of (pieces_at a xs) ≡ item_words xs
words-at a [] = refl
words-at a (items.Word w ∷ xs) = ap (λ ws. w.now ∷ ws) (words-at a xs)
words-at a (items.Part x ∷ xs) = words-at a xs

pub next-at : (a : Arena) (xs : List Item) → is_tree_next (pieces_at a xs) ≡ is_part_next xs
next-at a [] = refl
next-at a (items.Word w ∷ xs) = refl
next-at a (items.Part x ∷ xs) = refl

pub from-at : (a : Arena) (xs : List Item) → AreKnown a xs → first_from (pieces_at a xs) ≡ items_from xs
from-at a [] h = refl
from-at a (items.Word w ∷ xs) h = refl
from-at a (items.Part x ∷ xs) h = ap (λ s. s.from) (sym h.0.span)

pub to-at : (a : Arena) (end : ℕ) (xs : List Item) → AreKnown a xs → fold (λ e p. (piece_span p).to) end (pieces_at a xs) ≡ fold (λ e x. (item_span x).to) end xs
to-at a end [] h = refl
to-at a end (items.Word w ∷ xs) h = to-at a w.now.span.to xs h
to-at a end (items.Part x ∷ xs) h = ap (λ s. fold (λ e p. (piece_span p).to) s.to (pieces_at a xs)) (sym h.0.span) ∙ to-at a x.span.to xs h.1

-- the tests of items and of words
pub found_words : (p : Token → Bool) (xs : List Item) → word_in (find (is_item p) xs) ≡ find p (item_words xs)
found_words p [] = refl
found_words p (items.Word w ∷ xs) = go (p w.now) (found_words p xs)
  where
    go : (b : Bool) → word_in (find (is_item p) xs) ≡ find p (item_words xs) → word_in (cond b (Some (items.Word w)) (find (is_item p) xs)) ≡ cond b (Some w.now) (find p (item_words xs))
    go true h = refl
    go false h = h
found_words p (items.Part x ∷ xs) = found_words p xs

-- a name that is interned
grown_names : (names : List (List ℕ)) (text : List ℕ) → (more : List (List ℕ)) × (with_name names text ≡ names ++ more)
grown_names names text = go (list_any (bytes_eq text) names)
  where
    go : (b : Bool) → (more : List (List ℕ)) × (cond b names (names ++ text ∷ []) ≡ names ++ more)
    go true = ([], sym (append-nil names))
    go false = (text ∷ [], refl)

pub Extends-name : (old new : Arena) (text : List ℕ) → IsLinked old → new ≡ record old { names = with_name old.names text } → Extends old new
Extends-name old new text h e =
    let more = grown_names old.names text in
    let less : length old.names ≤ length (with_name old.names text) = rw more.1 (omega (arith, length-append old.names more.0)) in
    rw e (record {
      grown = record { more_names = more.0; names = more.1; more_nodes = []; nodes = sym (append-nil old.nodes) };
      linked = AreLinked-later (length old.names) (length (with_name old.names text)) 0 old.nodes less h;
    })

pub name_said : (new : Arena) (text : List ℕ) (id : NameId) (o : Option Token) (w : Token) → Some w ≡ o → text ≡ w.text → slice_get new.names id.0 ≡ Some text → (said new.names (words.Name id) ≡ named o) × (id.0 < length new.names)
name_said new text id o w e same stored =
    (rw (← e, ← same) (ap (λ t. name t) (get_or_from_slice_get new.names id.0 text [] stored)), slice_get_within new.names id.0 text stored)

-- what is known of parts, over the list of their trees
pub older-ids : (a : Arena) (xs : List Found) → AllKnown a xs → AreOlder (length a.nodes) (map (λ x. x.id) xs)
older-ids a [] h = tt
older-ids a (x ∷ xs) h = (h.0.inside, older-ids a xs h.1)

pub parts_at-listed : (a : Arena) (xs : List Found) → parts_at (trees a) (map (λ x. x.id) xs) ≡ listed (trees_at a xs)
parts_at-listed a [] = refl
parts_at-listed a (x ∷ xs) = ap (λ ts. with_part (tree_of a x.id) ts) (parts_at-listed a xs)

kinds-listed : (a : Arena) (xs : List Found) → AllKnown a xs → kinds_of (listed (trees_at a xs)) ≡ map (λ x. x.kind) xs
kinds-listed a [] h = refl
kinds-listed a (x ∷ xs) h = rw (← h.0.kind, kinds-listed a xs h.1) refl

proper-listed : (a : Arena) (xs : List Found) → AllKnown a xs → are_proper (listed (trees_at a xs)) ≡ list_all (λ x. x.proper) xs
proper-listed a [] h = refl
proper-listed a (x ∷ xs) h = rw (← h.0.proper, proper-listed a xs h.1) refl

targets-listed : (a : Arena) (xs : List Found) → AllKnown a xs → are_targets (listed (trees_at a xs)) ≡ list_all (λ x. x.target) xs
targets-listed a [] h = refl
targets-listed a (x ∷ xs) h = rw (← h.0.target, targets-listed a xs h.1) refl

colons-listed : (a : Arena) (xs : List Found) → AllKnown a xs → have_colon (listed (trees_at a xs)) ≡ list_any (λ x. x.colon) xs
colons-listed a [] h = refl
colons-listed a (x ∷ xs) h = rw (← h.0.colon, colons-listed a xs h.1) refl

unreal-listed : (a : Arena) (xs : List Found) → AllKnown a xs → are_unreal (listed (trees_at a xs)) ≡ list_any (λ x. x.unreal) xs
unreal-listed a [] h = refl
unreal-listed a (x ∷ xs) h = rw (← h.0.unreal, unreal-listed a xs h.1) refl

begins_unreal-listed : (a : Arena) (xs : List Found) → AllKnown a xs → begins_unreal (listed (trees_at a xs)) ≡ begins_unreal_over xs
begins_unreal-listed a [] h = refl
begins_unreal-listed a (x ∷ xs) h = sym h.0.unreal

begins_signed-listed : (a : Arena) (xs : List Found) → AllKnown a xs → begins_signed (listed (trees_at a xs)) ≡ begins_signed_over xs
begins_signed-listed a [] h = refl
begins_signed-listed a (x ∷ xs) h = sym h.0.signed

assigned-listed : (a : Arena) (xs : List Found) → AllKnown a xs → are_assigned (listed (trees_at a xs)) ≡ assigned_over xs
assigned-listed a [] h = refl
assigned-listed a (x ∷ []) h = rw (← h.0.proper, ← h.0.kind) refl
assigned-listed a (x ∷ y ∷ ys) h = rw (← h.0.target, assigned-listed a (y ∷ ys) h.1) refl

parts-listed : (a : Arena) (b : Binding) (xs : List Found) → AllKnown a xs → parts_proper b (listed (trees_at a xs)) ≡ parts_proper_over b xs
parts-listed a b [] h = refl
parts-listed a bindings.Nothing (x ∷ xs) h = rw (← h.0.proper, proper-listed a xs h.1) refl
parts-listed a bindings.First (x ∷ xs) h = rw (← h.0.target, proper-listed a xs h.1) refl
parts-listed a bindings.AllButFirst (x ∷ xs) h = rw (← h.0.proper, targets-listed a xs h.1) refl
parts-listed a bindings.AllButLast (x ∷ xs) h = assigned-listed a (x ∷ xs) h

faulty-listed : (a : Arena) (k : NodeKind) (xs : List Found) → AllKnown a xs → is_faulty k (listed (trees_at a xs)) ≡ faulty_over k xs
faulty-listed a k xs h = rw (colons-listed a xs h, begins_unreal-listed a xs h) refl

capped-max : (a b : ℕ) → max (capped a) (capped b) ≡ capped (max a b)
capped-max a b = omega arith

highest-listed : (a : Arena) (xs : List Found) → AllKnown a xs → highest xs ≡ capped (height_of (listed (trees_at a xs)))
highest-listed a [] h = refl
highest-listed a (x ∷ xs) h = rw (h.0.height, highest-listed a xs h.1) (capped-max (height (tree_of a x.id)) (height_of (listed (trees_at a xs))))

fold-highest : (m : ℕ) (xs : List Found) → fold (λ n x. max n x.height) m xs ≡ max m (highest xs)
fold-highest m [] = omega arith
fold-highest m (x ∷ xs) = fold-highest (max m x.height) xs ∙ omega arith

pub height-over : (a : Arena) (xs : List Found) (h : ℕ) → AllKnown a xs → h ≡ min (min (fold (λ n x. max n x.height) 0 xs) 256 + 1) 257 → h ≡ capped (suc (height_of (listed (trees_at a xs))))
height-over a xs h k e = omega (arith, e, fold-highest 0 xs, highest-listed a xs k)

-- A NEW NODE OVER KNOWN PARTS IS KNOWN
pub node_added : (old new : Arena) (n : Node) (x : Found) (xs : List Found) → IsLinked old → AllKnown old xs → IsNamed (length old.names) n.word → n.parts ≡ map (λ y. y.id) xs → new ≡ record old { nodes = old.nodes ++ n ∷ [] } → x.id.0 ≡ length old.nodes → x.kind ≡ n.kind → x.span ≡ n.span → x.height ≡ min (min (fold (λ m y. max m y.height) 0 xs) 256 + 1) 257 → x.proper ≡ proper_over n.kind xs → x.target ≡ target_over n.kind xs → x.colon ≡ colon_over n.kind xs → x.signed ≡ signed_over n.kind xs → x.unreal ≡ unreal_over n.kind xs → Extends old new × IsKnown new x × (tree_of new x.id ≡ node n.kind n.span (said old.names n.word) (listed (trees_at old xs)))
node_added old new n x xs h k named_ ids e at kind_ span_ height_ proper_ target_ colon_ signed_ unreal_ =
    let older : AreOlder (length old.nodes) n.parts = rw ids (older-ids old xs k) in
    let plain : tree_of (record old { nodes = old.nodes ++ n ∷ [] }) x.id ≡ node n.kind n.span (said old.names n.word) (listed (trees_at old xs)) = tree_of-new old n x.id at ∙ rw (ids, parts_at-listed old xs) refl in
    let tree : tree_of new x.id ≡ node n.kind n.span (said old.names n.word) (listed (trees_at old xs)) = rw e plain in (
      rw e (record { grown = Grows-add old n; linked = IsLinked-add old n h older named_ }),
      record {
        inside = rw (e, at) (omega (arith, length-append old.nodes (n ∷ [])));
        kind = rw tree kind_;
        span = rw tree span_;
        height = rw tree (height-over old xs x.height k height_);
        proper = rw tree (rw (parts-listed old (binding n.kind) xs k, kinds-listed old xs k, faulty-listed old n.kind xs k) proper_);
        target = rw tree (rw (proper-listed old xs k, targets-listed old xs k) target_);
        colon = rw tree (rw (colons-listed old xs k) colon_);
        signed = rw tree (rw (kinds-listed old xs k) signed_);
        unreal = rw tree (rw (begins_signed-listed old xs k, unreal-listed old xs k) unreal_);
      },
      tree,
    )

-- what is kept of one item
pub keep_part : (a : Arena) (ps new : List Found) (item : Item) (f : Form) (x : Found) (b : Bool) → item ≡ items.Part x → AreKnown a (item ∷ []) → AllKnown a ps → new ≡ ps ++ x ∷ [] → AllKnown a new × (trees_at a new ≡ trees_at a ps ++ kept_one f (piece_at a item) b)
keep_part a ps new item f x b e k h n =
    let known : AreKnown a (items.Part x ∷ []) = rw e at k in
    rw (n, e) (AllKnown-append a ps (x ∷ []) h (known.0, tt), map-append (λ (y : Found). tree_of a y.id) ps (x ∷ []))

pub keep_none : (a : Arena) (ps : List Found) (item : Item) (f : Form) (w : Bor Token) (t : Terminal) (b c : Bool) → item ≡ items.Word w → t ≡ plain (terminal w.now) → c ≡ b → None ≡ mark_for f t c → AllKnown a ps → AllKnown a ps × (trees_at a ps ≡ trees_at a ps ++ kept_one f (piece_at a item) b)
keep_none a ps item f w t b c e s d m h =
    let none : mark_for f (plain (terminal w.now)) b ≡ None = rw (s, d) at (sym m) in
    (h, rw (e, none) (sym (append-nil (trees_at a ps))))

pub keep_leaf : (a a2 : Arena) (ps new : List Found) (item : Item) (f : Form) (w : Bor Token) (k : NodeKind) (x : Found) (t : Terminal) (b c : Bool) → item ≡ items.Word w → t ≡ plain (terminal w.now) → c ≡ b → Some k ≡ mark_for f t c → IsLinked a → Extends a a2 → IsKnown a2 x → tree_of a2 x.id ≡ leaf_of k w.now → AllKnown a ps → new ≡ ps ++ x ∷ [] → AllKnown a2 new × (trees_at a2 new ≡ trees_at a ps ++ kept_one f (piece_at a item) b)
keep_leaf a a2 ps new item f w k x t b c e s d m l g known leaf h n =
    let some : mark_for f (plain (terminal w.now)) b ≡ Some k = rw (s, d) at (sym m) in
    let trees_ : trees_at a2 (ps ++ x ∷ []) ≡ trees_at a ps ++ leaf_of k w.now ∷ [] = map-append (λ (y : Found). tree_of a2 y.id) ps (x ∷ []) ∙ ap (λ ts. ts ++ tree_of a2 x.id ∷ []) (trees_at-later a a2 ps l g h) ∙ ap (λ t. trees_at a ps ++ t ∷ []) leaf in
    rw (n, e, some) (AllKnown-append a2 ps (x ∷ []) (AllKnown-later a a2 ps l g h) (known, tt), trees_)

-- the item at a place
pub known-at : (a : Arena) (xs : List Item) (i : ℕ) (d : Item) → AreKnown a xs → i < length xs → AreKnown a (get_or xs i d ∷ [])
known-at a [] i d h lt = absurd (omega arith)
known-at a (items.Word w ∷ xs) zero d h lt = tt
known-at a (items.Part x ∷ xs) zero d h lt = (h.0, tt)
known-at a (items.Word w ∷ xs) (suc i) d h lt = let less : i < length xs = omega arith in known-at a xs i d h less
known-at a (items.Part x ∷ xs) (suc i) d h lt = let less : i < length xs = omega arith in known-at a xs i d h.1 less

pub piece_at-later : (old new : Arena) (item : Item) → IsLinked old → Extends old new → AreKnown old (item ∷ []) → piece_at new item ≡ piece_at old item
piece_at-later old new (items.Word w) h g k = refl
piece_at-later old new (items.Part x) h g k = ap (λ t. of_tree t) (tree_of-later old new x.id h g.grown k.0.inside)

-- one more item is kept
pub kept-next : (old mid new : Arena) (f : Form) (xs : List Item) (i : ℕ) (item : Item) (behind : List Item) (ps qs : List Found) (whole : List SyntaxTree) → IsLinked old → Extends old mid → AreKnown old (item ∷ []) → drop i xs ≡ item ∷ behind → trees_at mid ps ++ kept f (pieces_at old (drop i xs)) ≡ whole → trees_at new qs ≡ trees_at mid ps ++ kept_one f (piece_at mid item) (is_part_next behind) → trees_at new qs ++ kept f (pieces_at old behind) ≡ whole
kept-next old mid new f xs i item behind ps qs whole l g k first so_far next =
    let same = piece_at-later old mid item l g k in
    let next2 : trees_at new qs ≡ trees_at mid ps ++ kept_one f (piece_at old item) (is_part_next behind) = rw same at next in
    let so_far2 : trees_at mid ps ++ (kept_one f (piece_at old item) (is_part_next behind) ++ kept f (pieces_at old behind)) ≡ whole = rw (next-at old behind) at (rw first at so_far) in
    rw next2 (append_assoc (trees_at mid ps) (kept_one f (piece_at old item) (is_part_next behind)) (kept f (pieces_at old behind)) ∙ so_far2)

-- an arena that is cut back to what it was
pub cut_back : (old mid : Arena) → Grows old mid → record { names = take (length old.names) mid.names; nodes = take (length old.nodes) mid.nodes } ≡ old
cut_back old mid g = rw (g.names, g.nodes, take_front old.names g.more_names, take_front old.nodes g.more_nodes) refl
  where
    take_front : {A : Type 0} (xs ys : List A) → take (length xs) (xs ++ ys) ≡ xs
    take_front [] ys = refl
    take_front (x ∷ xs) ys = ap (λ zs. x ∷ zs) (take_front xs ys)

pub drop-item : (xs : List Item) (i : ℕ) (x : Item) → i < length xs → x ≡ get_or xs i x → drop i xs ≡ x ∷ drop (i + 1) xs
drop-item xs i x lt is =
    let one : suc i ≡ i + 1 = omega arith in
    drop-cons xs i x lt ∙ ap (λ y. y ∷ drop (suc i) xs) (sym is) ∙ ap (λ n. x ∷ drop n xs) one

-- the node over items is the one over what they stand for
pub assembled_is : (old t1 t2 : Arena) (f : Form) (xs : List Item) (w : Word) (vs : List Found) (k : NodeKind) (s : Span) → IsLinked old → Extends old t1 → Extends t1 t2 → AreKnown old xs → said t1.names w ≡ said_for f (item_words xs) → IsNamed (length t1.names) w → trees_at t2 vs ≡ kept f (pieces_at t1 xs) → k ≡ kind_for f (item_words xs) → s ≡ record { from = items_from xs; to = fold (λ end x. (item_span x).to) 0 xs } → node k s (said t2.names w) (listed (trees_at t2 vs)) ≡ one_node f (pieces_at old xs)
assembled_is old t1 t2 f xs w vs k s l g1 g2 h said_ named_ kept_ kind_ span_ =
    let later : said t2.names w ≡ said t1.names w = rw g2.grown.names (said-later t1.names g2.grown.more_names w named_) in
    let trees_ : trees_at t2 vs ≡ kept f (pieces_at old xs) = kept_ ∙ ap (λ ps. kept f ps) (pieces_at-later old t1 xs l g1 h) in
    let kinds_ : k ≡ kind_for f (words_of (pieces_at old xs)) = kind_ ∙ ap (λ ws. kind_for f ws) (sym (words-at old xs)) in
    let saids_ : said t2.names w ≡ said_for f (words_of (pieces_at old xs)) = later ∙ said_ ∙ ap (λ ws. said_for f ws) (sym (words-at old xs)) in
    let spans_ : s ≡ record { from = first_from (pieces_at old xs); to = last_to (pieces_at old xs) } = span_ ∙ sym (rw (from-at old xs h, to-at old 0 xs h) refl) in
    rw (trees_, kinds_, saids_, spans_) refl

pub named-later : (t1 t2 : Arena) (w : Word) → Extends t1 t2 → IsNamed (length t1.names) w → IsNamed (length t2.names) w
named-later t1 t2 w g h = IsNamed-later (length t1.names) (length t2.names) w (Grows-names t1 t2 g.grown) h

-- the word of a leaf that is a name
pub leaf_said : (new : Arena) (text : List ℕ) (id : NameId) (k : NodeKind) (w : Token) → true ≡ is_name k → text ≡ w.text → slice_get new.names id.0 ≡ Some text → (said new.names (words.Name id) ≡ said_leaf k w) × (id.0 < length new.names)
leaf_said new text id k w e same stored =
    (rw (← e, ← same) (ap (λ t. name t) (get_or_from_slice_get new.names id.0 text [] stored)), slice_get_within new.names id.0 text stored)

-- a comprehension among arguments
clause-at : (a : Arena) (xs : List Item) → AreKnown a xs → list_any is_clause_piece (pieces_at a xs) ≡ list_any is_clause_item xs
clause-at a [] h = refl
clause-at a (items.Word w ∷ xs) h = clause-at a xs h
clause-at a (items.Part x ∷ xs) h = rw (← h.0.kind, clause-at a xs h.1) refl

pub plainly_is : (f : Form) (a : Arena) (xs : List Item) → AreKnown a xs → false ≡ (has_arguments f && list_any is_clause_item xs) → one_node f (pieces_at a xs) ≡ assembled f (pieces_at a xs)
plainly_is f a xs h e = rw (clause-at a xs h, ← e) refl

pub bracketed_is : (f : Form) (old mid : Arena) (xs : List Item) (x : Found) → IsLinked old → Extends old mid → AreKnown old xs → true ≡ (has_arguments f && list_any is_clause_item xs) → tree_of mid x.id ≡ one_node forms.Round (pieces_at old (drop (called f) xs)) → one_node f (pieces_at mid (take (called f) xs ++ items.Part x ∷ [])) ≡ assembled f (pieces_at old xs)
bracketed_is f old mid xs x l g h e t =
    let n = called f in
    let front : pieces_at mid (take n xs) ≡ take n (pieces_at old xs) = pieces_at-later old mid (take n xs) l g (known-take old n xs h) ∙ sym (take-map (piece_at old) n xs) in
    let behind : tree_of mid x.id ≡ one_node forms.Round (drop n (pieces_at old xs)) = t ∙ ap (λ ps. one_node forms.Round ps) (sym (drop-map (piece_at old) n xs)) in
    let whole : pieces_at mid (take n xs ++ items.Part x ∷ []) ≡ take n (pieces_at old xs) ++ of_tree (one_node forms.Round (drop n (pieces_at old xs))) ∷ [] = map-append (piece_at mid) (take n xs) (items.Part x ∷ []) ∙ rw (front, behind) refl in
    rw (clause-at old xs h, ← e) (ap (λ ps. one_node f ps) whole)

pub any-some : {A : Type 0} (P : A → Bool) (xs : List A) (b : Bool) → true ≡ (b && list_any P xs) → 0 < length xs
any-some P [] true e = cc
any-some P [] false e = cc
any-some P (x ∷ xs) b e = omega arith
