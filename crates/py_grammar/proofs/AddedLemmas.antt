-- How much is added, as forms are read and put together.
use Rattle.std.proofs.Common.{◌≡◌, ℕ, suc, ◌+◌, ◌*◌, ◌<◌, ◌≤◌, Bool, true, false, List, [], ◌∷◌, ◌++◌, length, take, drop, Some, refl, sym, ◌∙◌, ap, arith, length-append}
use Rattle.std.proofs.lemmas.List.{take-append-drop}
use Rattle.std.specs.Prelude.{not, ◌&&◌}
use Rattle.std.specs.Borrow.{Bor}
use Rattle.py_base.specs.declared.node.Node.{Node}
use Rattle.py_base.specs.declared.node.NodeKind.{NodeKind}
use Rattle.py_base.specs.declared.node.NodeKind.TheVariants as kinds
use Rattle.py_base.specs.Tree.{Arena}
use Rattle.py_tokens.specs.declared.lines.Token.{Token}
use Rattle.py_grammar.specs.declared.words.Form.{Form}
use Rattle.py_grammar.specs.declared.words.Terminal.{Terminal}
use Rattle.py_grammar.specs.declared.words.Terminal.TheVariants as terminals
use Rattle.py_grammar.specs.declared.found.Found.{Found}
use Rattle.py_grammar.specs.declared.found.Item.{Item}
use Rattle.py_grammar.specs.declared.found.Item.TheVariants as items
use Rattle.py_grammar.specs.Meaning.{mark_for, only_if, holds_name, takes_name, is_name, is_slice, is_relative, has_arguments}
use Rattle.py_grammar.specs.Found.{item_words}
use Rattle.py_grammar.specs.Added.{AddsAtMost, ArePaid, one_if, unless}
use Rattle.py_grammar.proofs.Finite.{every, all_forms, each_form, implies, implied}

-- ---- nothing, and one node

pub adds-none : (m n : ℕ) (a : Arena) → AddsAtMost m n a a
adds-none m n a = (omega arith, omega arith)

pub adds-node : (old new : Arena) (x : Node) → new ≡ record old { nodes = old.nodes ++ x ∷ [] } → AddsAtMost 1 0 old new
adds-node old new x e = rw e (omega (arith, length-append old.nodes (x ∷ [])), omega arith)

-- ---- a form that takes a name holds no name

some : {A : Type 0} (x y : A) → Some x ≡ Some y → x ≡ y
some x y e = cc

only-other : (b : Bool) (l k : NodeKind) → is_name l ≡ false → only_if b l ≡ Some k → is_name k ≡ false
only-other true l k n e = let same : l ≡ k = some l k e in rw same at n
only-other false l k n e = cc

marked-other : (f : Form) (t : Terminal) (b : Bool) (k : NodeKind) → holds_name f ≡ false → mark_for f t b ≡ Some k → is_name k ≡ false
marked-other f terminals.Comma b k h e = only-other _ kinds.LastComma k refl e
marked-other f terminals.Colon b k h e = only-other (is_slice f) kinds.Colon k refl e
marked-other f terminals.Dot b k h e = only-other (is_relative f) kinds.Dot k refl e
marked-other f terminals.Ellipsis b k h e = only-other (is_relative f) kinds.Ellipsis k refl e
marked-other f terminals.Name b k h e = let none : only_if false kinds.Name ≡ Some k = rw h at e in cc
marked-other f _ b k h e = cc

named-forms : every (λ f. implies (takes_name f) (not (holds_name f))) all_forms ≡ true
named-forms = refl

not-held : (b : Bool) → not b ≡ true → b ≡ false
not-held true e = cc
not-held false e = refl

leaf-name : (f : Form) (t : Terminal) (b : Bool) (k : NodeKind) → Some k ≡ mark_for f t b → one_if (is_name k) ≤ unless (takes_name f) 1
leaf-name f t b k e = go (takes_name f) refl
  where
    one : (c : Bool) → one_if c ≤ 1
    one true = omega arith
    one false = omega arith

    go : (c : Bool) → takes_name f ≡ c → one_if (is_name k) ≤ unless c 1
    go true h =
        let held = not-held (holds_name f) (implied _ _ (each_form (λ g. implies (takes_name g) (not (holds_name g))) f named-forms) h) in
        rw (marked-other f t b k held (sym e)) (omega arith)
    go false h = one (is_name k)

-- ---- what is kept of items

pub keep_leaf-adds : (f : Form) (old new : Arena) (item : Item) (w : Bor Token) (t : Terminal) (b : Bool) (k : NodeKind) → item ≡ items.Word w → Some k ≡ mark_for f t b → AddsAtMost 1 (one_if (is_name k)) old new → AddsAtMost (length (item_words (item ∷ []))) (unless (takes_name f) (length (item_words (item ∷ [])))) old new
keep_leaf-adds f old new item w t b k e m h = rw e (h.0, omega (arith, h.1, leaf-name f t b k m))

words-first : (item : Item) (xs : List Item) → length (item_words (item ∷ xs)) ≡ length (item_words (item ∷ [])) + length (item_words xs)
words-first (items.Word w) xs = omega arith
words-first (items.Part x) xs = omega arith

-- what the words of items pay for, while some of the items are left
pub record IsWithin (b : Bool) (old : Arena) (all : ℕ) (new : Arena) (left : ℕ) : Type 0 where
  pub nodes : length new.nodes + left ≤ length old.nodes + all
  pub names : length new.names + unless b left ≤ length old.names + unless b all

pub within-start : (b : Bool) (a : Arena) (n : ℕ) → IsWithin b a n a n
within-start b a n = record { nodes = omega arith; names = omega arith }

within-sum : (b : Bool) (old mid new : Arena) (all left m n : ℕ) → left ≡ m + n → IsWithin b old all mid left → AddsAtMost m (unless b m) mid new → IsWithin b old all new n
within-sum true old mid new all left m n e h g = record { nodes = omega (arith, e, h.nodes, g.0); names = omega (arith, h.names, g.1) }
within-sum false old mid new all left m n e h g = record { nodes = omega (arith, e, h.nodes, g.0); names = omega (arith, e, h.names, g.1) }

pub within-next : (b : Bool) (old mid new : Arena) (xs : List Item) (i all : ℕ) (item : Item) (behind : List Item) → drop i xs ≡ item ∷ behind → IsWithin b old all mid (length (item_words (drop i xs))) → AddsAtMost (length (item_words (item ∷ []))) (unless b (length (item_words (item ∷ [])))) mid new → IsWithin b old all new (length (item_words behind))
within-next b old mid new xs i all item behind first h g =
    let h2 : IsWithin b old all mid (length (item_words (item ∷ behind))) = rw first at h in
    within-sum b old mid new all _ _ _ (words-first item behind) h2 g

pub within-all : (b : Bool) (old new : Arena) (all left : ℕ) → IsWithin b old all new left → AddsAtMost all (unless b all) old new
within-all b old new all left h = (omega (arith, h.nodes), omega (arith, h.names))

-- a node with a word of its own over its items
pub assembled-adds : (b : Bool) (old t1 t2 new : Arena) (n : ℕ) → AddsAtMost 0 (one_if b) old t1 → AddsAtMost n (unless b n) t1 t2 → AddsAtMost 1 0 t2 new → AddsAtMost (n + 1) (one_if b + unless b n) old new
assembled-adds b old t1 t2 new n f g h = (omega (arith, f.0, g.0, h.0), omega (arith, f.1, g.1, h.1))

words-append : (xs ys : List Item) → length (item_words (xs ++ ys)) ≡ length (item_words xs) + length (item_words ys)
words-append [] ys = omega arith
words-append (items.Word w ∷ xs) ys = let rest = words-append xs ys in omega (arith, rest)
words-append (items.Part x ∷ xs) ys = words-append xs ys

-- a form alone
pub form-adds : (b : Bool) (old new : Arena) (n : ℕ) → AddsAtMost (n + 1) (one_if b + unless b n) old new → 0 < n → AddsAtMost (3 * n) n old new
form-adds true old new n h some_ = (omega (arith, h.0), omega (arith, h.1))
form-adds false old new n h some_ = (omega (arith, h.0), omega (arith, h.1))

arguments-unnamed : (f : Form) → has_arguments f ≡ true → takes_name f ≡ false
arguments-unnamed f h = not-held _ (implied _ _ (each_form (λ g. implies (has_arguments g) (not (takes_name g))) f refl) h)

pub arguments-true : (b c : Bool) → true ≡ (b && c) → b ≡ true
arguments-true true c e = refl
arguments-true false c e = cc

-- a comprehension in brackets, and the form over what stands before them and over it
pub brackets-add : (f : Form) (old mid new : Arena) (xs : List Item) (n : ℕ) (x : Found) → has_arguments f ≡ true → AddsAtMost (length (item_words (drop n xs)) + 1) (length (item_words (drop n xs))) old mid → AddsAtMost (length (item_words (take n xs ++ items.Part x ∷ [])) + 1) (one_if (takes_name f) + unless (takes_name f) (length (item_words (take n xs ++ items.Part x ∷ [])))) mid new → 0 < length (item_words xs) → AddsAtMost (3 * length (item_words xs)) (length (item_words xs)) old new
brackets-add f old mid new xs n x h g k some_ =
    let k2 = rw (arguments-unnamed f h) at k in
    let front = words-append (take n xs) (items.Part x ∷ []) in
    let whole : length (item_words xs) ≡ length (item_words (take n xs)) + length (item_words (drop n xs)) = ap (λ ys. length (item_words ys)) (sym (take-append-drop n xs)) ∙ words-append (take n xs) (drop n xs) in
    (omega (arith, g.0, k2.0, front, whole), omega (arith, g.1, k2.1, front, whole))

-- ---- what tokens pay for

pub paid-none : (a : Arena) (n : ℕ) → ArePaid a n a n
paid-none a n = record { nodes = omega arith; names = omega arith }

-- a word that comes to the items pays later
pub paid-word : (old now : Arena) (all least : ℕ) (xs : List Item) (w : Bor Token) (rest others : List Token) → rest ≡ w.now ∷ others → least ≤ length (item_words xs) → ArePaid old all now (length (item_words xs) + length rest) → (least ≤ length (item_words (xs ++ items.Word w ∷ []))) × ArePaid old all now (length (item_words (xs ++ items.Word w ∷ [])) + length others)
paid-word old now all least xs w rest others e le h =
    let more = words-append xs (items.Word w ∷ []) in
    let one : length rest ≡ suc (length others) = rw e refl in
    (omega (arith, more, le), record { nodes = omega (arith, more, one, h.nodes); names = omega (arith, more, one, h.names) })

-- a part that comes to them has paid
pub paid-part : (old now new : Arena) (all least before left : ℕ) (xs : List Item) (x : Found) → least ≤ length (item_words xs) → ArePaid old all now (length (item_words xs) + before) → ArePaid now before new left → (least ≤ length (item_words (xs ++ items.Part x ∷ []))) × ArePaid old all new (length (item_words (xs ++ items.Part x ∷ [])) + left)
paid-part old now new all least before left xs x le h g =
    let same = words-append xs (items.Part x ∷ []) in
    (omega (arith, same, le), record { nodes = omega (arith, same, h.nodes, g.nodes); names = omega (arith, same, h.names, g.names) })

-- the words of a form pay for its node
paid-form : (old now mid new : Arena) (all first before words left : ℕ) → first ≡ 1 → ArePaid old all now (suc before) → first ≤ words → ArePaid now (first + before) mid (words + left) → (0 < words → AddsAtMost (3 * words) words mid new) → ArePaid old all new left
paid-form old now mid new all first before words left one h le p g =
    let some_ : 0 < words = omega (arith, one, le) in
    let a = g some_ in
    record { nodes = omega (arith, one, h.nodes, p.nodes, a.0); names = omega (arith, one, h.names, p.names, a.1) }

pub begun-pays : (old mid new : Arena) (first xs : List Item) (w : Bor Token) (tokens others : List Token) (left : ℕ) → first ≡ items.Word w ∷ [] → tokens ≡ w.now ∷ others → (length (item_words first) ≤ length (item_words xs)) × ArePaid old (length (item_words first) + length others) mid (length (item_words xs) + left) → (0 < length (item_words xs) → AddsAtMost (3 * length (item_words xs)) (length (item_words xs)) mid new) → ArePaid old (length tokens) new left
begun-pays old mid new first xs w tokens others left one e p g =
    let single : length (item_words first) ≡ 1 = rw one refl in
    rw e (paid-form old old mid new (suc (length others)) _ (length others) _ left single (paid-none old (suc (length others))) p.0 p.1 g)

pub joined-pays : (old now mid new : Arena) (all : ℕ) (first xs : List Item) (x : Found) (w : Bor Token) (tokens others : List Token) (left : ℕ) → first ≡ items.Part x ∷ items.Word w ∷ [] → tokens ≡ w.now ∷ others → ArePaid old all now (length tokens) → (length (item_words first) ≤ length (item_words xs)) × ArePaid now (length (item_words first) + length others) mid (length (item_words xs) + left) → (0 < length (item_words xs) → AddsAtMost (3 * length (item_words xs)) (length (item_words xs)) mid new) → ArePaid old all new left
joined-pays old now mid new all first xs x w tokens others left two e h p g =
    let single : length (item_words first) ≡ 1 = rw two refl in
    let h2 : ArePaid old all now (suc (length others)) = rw e at h in
    paid-form old now mid new all _ (length others) _ left single h2 p.0 p.1 g

-- ---- what is added in all

pub paid-all : (old new : Arena) (all left : ℕ) → ArePaid old all new left → AddsAtMost (3 * all) all old new
paid-all old new all left h = (omega (arith, h.nodes), omega (arith, h.names))
