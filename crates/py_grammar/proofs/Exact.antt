-- The whole of the tokens is one tree, or there is none.
use Rattle.std.proofs.Common.{◌&&◌, ◌==◌, nat_le, take, drop, cond, ◌≡◌, ℕ, zero, suc, ◌≤◌, max, Bool, true, false, List, [], ◌∷◌, ◌++◌, length, Option, Some, None, refl, sym, ◌∙◌, ap, subst, arith, append-nil}
use Rattle.std.proofs.lemmas.Bool.{and_parts, eqb-true, leb-true, le-leb}
use Rattle.py_base.specs.Tree.{Arena, SyntaxTree, height, height_of, tree_of, IsLinked, Grows}
use Rattle.py_base.specs.TreeLaws.{Grows-refl}
use Rattle.py_grammar.proofs.KnownLemmas.{cut_back}
use Rattle.py_tokens.specs.declared.lines.Token.{Token}
use Rattle.py_grammar.specs.declared.words.Terminal.TheVariants as terminals
use Rattle.py_grammar.specs.declared.words.Form.{Form}
use Rattle.py_grammar.specs.declared.words.Form.TheVariants as forms
use Rattle.py_grammar.specs.declared.words.Need.{Need}
use Rattle.py_grammar.specs.declared.found.Found.{Found}
use Rattle.py_grammar.specs.Table.{plain}
use Rattle.py_grammar.specs.Terminal.{terminal}
use Rattle.py_grammar.specs.Reading.{Reading, opened, joined, Parts, no_more, word, part, depth, depth_parts, spell, IsWellFormed, Meets}
use Rattle.py_grammar.specs.Meaning.{Piece, of_word, of_tree, kept, marked, mark_for, is_tree_next, listed, one_node, called, is_comprehension, bracketed, assembled, tree_of_reading, pieces}
use Rattle.py_grammar.specs.Parse.{read_tree, read}
use Rattle.py_grammar.specs.Levelled.{IsTreeOf}
use Rattle.py_grammar.specs.Found.{IsFoundTree}
use Rattle.py_grammar.proofs.Finite.{each_need}
use Rattle.py_grammar.proofs.Quiet.{stops}
use Rattle.py_grammar.proofs.Complete.{complete}
use Rattle.py_grammar.proofs.Sound.{sound}

-- the highest tree among pieces
abbrev pub highest_piece : List Piece → ℕ
highest_piece [] = 0
highest_piece (of_word w ∷ xs) = highest_piece xs
highest_piece (of_tree t ∷ xs) = max (height t) (highest_piece xs)

height-append : (xs ys : List SyntaxTree) → height_of (listed ys) ≤ height_of (listed (xs ++ ys))
height-append [] ys = omega arith
height-append (x ∷ xs) ys = let h = height-append xs ys in omega arith

height-kept : (f : Form) (xs : List Piece) → highest_piece xs ≤ height_of (listed (kept f xs))
height-kept f [] = omega arith
height-kept f (of_word w ∷ xs) =
    let h = height-kept f xs in
    let k = height-append (marked (mark_for f (plain (terminal w)) (is_tree_next xs)) w) (kept f xs) in
    omega arith
height-kept f (of_tree t ∷ xs) = let h = height-kept f xs in omega arith

height-node : (f : Form) (xs : List Piece) → suc (highest_piece xs) ≤ height (one_node f xs)
height-node f xs = let h = height-kept f xs in omega arith

-- a tree in place of what is in it is no lower
height-assembled : (f : Form) (xs : List Piece) → suc (highest_piece xs) ≤ height (assembled f xs)
height-assembled f xs = go (is_comprehension f xs)
  where
    split : (n : ℕ) (ys : List Piece) → highest_piece ys ≤ highest_piece (take n ys ++ of_tree (one_node forms.Round (drop n ys)) ∷ [])
    split zero ys = let h = height-node forms.Round ys in omega arith
    split (suc n) [] = omega arith
    split (suc n) (of_word w ∷ ys) = split n ys
    split (suc n) (of_tree t ∷ ys) = let h = split n ys in omega arith

    go : (b : Bool) → suc (highest_piece xs) ≤ height (one_node f (cond b (bracketed f xs) xs))
    go true = let h = split (called f) xs in let k = height-node f (bracketed f xs) in omega arith
    go false = height-node f xs

mutual
  depth-height : (t : Reading) → depth t ≤ height (tree_of_reading t)
  depth-height (opened f w ps) =
      let h = depth-highest ps in
      let k = height-assembled f (of_word w ∷ pieces ps) in
      omega arith
  depth-height (joined f t w ps) =
      let g = depth-height t in
      let h = depth-highest ps in
      let k = height-assembled f (of_tree (tree_of_reading t) ∷ of_word w ∷ pieces ps) in
      omega arith

  depth-highest : (ps : Parts) → depth_parts ps ≤ highest_piece (pieces ps)
  depth-highest no_more = omega arith
  depth-highest (word w ps) = depth-highest ps
  depth-highest (part t ps) = let g = depth-height t in let h = depth-highest ps in omega arith

-- the end of the tokens ends each tree
stops_end : (n : Need) → stops n terminals.End ≡ true
stops_end n = each_need (λ n. stops n terminals.End) n refl

pub whole_read : (l : Need) (ts : List Token) (t : SyntaxTree) → (h : IsTreeOf ts l t) → read 256 l ts ≡ Some (h.reading, [])
unfolding read
whole_read l ts t h =
    let deep = depth-height h.reading in
    let high : height (tree_of_reading h.reading) ≤ 256 = rw h.tree h.low in
    let low : depth h.reading ≤ suc 255 = omega arith in
    let r = complete h.reading 255 l [] h.formed h.met low (stops_end l) in
    let same : spell h.reading ++ [] ≡ ts = append-nil (spell h.reading) ∙ h.spelled in
    rw same at r

pub none_found : (l : Need) (ts : List Token) → read 256 l ts ≡ None → (t : SyntaxTree) → IsTreeOf ts l t → ⊥
none_found l ts e t h = let r = whole_read l ts t h in cc

some_is : {A : Type 0} (x y : A) → ◌≡◌ {A = Option A} (Some x) (Some y) → x ≡ y
some_is x y e = cc

one_reading : (l : Need) (ts rest : List Token) (u : Reading) → read 256 l ts ≡ Some (u, rest) → (t : SyntaxTree) → (h : IsTreeOf ts l t) → (u ≡ h.reading) × (rest ≡ [])
one_reading l ts rest u e t h =
    let same = some_is (u, rest) (h.reading, []) (sym e ∙ whole_read l ts t h) in
    (ap (λ (x : Reading × List Token). x.0) same, ap (λ (x : Reading × List Token). x.1) same)

-- what is found is each tree of the tokens
pub one_found : (l : Need) (ts rest : List Token) (a : Arena) (x : Found) → IsFoundTree a x rest (read 256 l ts) → (t : SyntaxTree) → IsTreeOf ts l t → (tree_of a x.id ≡ t) × (rest ≡ [])
one_found l ts rest a x f t h =
    let (same, none) = one_reading l ts rest f.reading f.read t h in
    (f.tree ∙ ap (λ r. tree_of_reading r) same ∙ h.tree, none)

pub rest_found : (l : Need) (ts rest : List Token) (a : Arena) (x : Found) → IsFoundTree a x rest (read 256 l ts) → (t : SyntaxTree) → IsTreeOf ts l t → (length rest ≡ 0) × (x.height ≤ 256) × (x.proper ≡ true)
rest_found l ts rest a x f t h =
    let (same, none) = one_found l ts rest a x f t h in
    let low : height (tree_of a x.id) ≤ 256 = rw same h.low in
    (ap length none, omega (arith, f.known.height), f.known.proper ∙ rw same h.proper)

-- what is found is a tree of the tokens
pub is_tree : (l : Need) (ts rest : List Token) (a : Arena) (x : Found) → IsFoundTree a x rest (read 256 l ts) → length rest ≡ 0 → x.height ≤ 256 → x.proper ≡ true → IsTreeOf ts l (tree_of a x.id)
unfolding read
is_tree l ts [] a x f none low proper =
    let front = sound 256 l ts (f.reading, []) f.read in
    record {
      reading = f.reading;
      spelled = sym (front.spelled ∙ append-nil (spell f.reading));
      formed = front.formed;
      met = front.met;
      tree = sym f.tree;
      low = omega (arith, f.known.height);
      proper = sym f.known.proper ∙ proper;
    }
is_tree l ts (w ∷ rest) a x f none low proper = absurd (omega arith)

pub whole_parts : (n h : ℕ) (p : Bool) → true ≡ (((n == 0) && nat_le h 256) && p) → (n ≡ 0) × (h ≤ 256) × (p ≡ true)
whole_parts n h p e =
    let a = and_parts ((n == 0) && nat_le h 256) p (sym e) in
    let b = and_parts (n == 0) (nat_le h 256) a.0 in
    (eqb-true n 0 b.0, leb-true h 256 b.1, a.1)

pub whole_is : (n h : ℕ) (p : Bool) → n ≡ 0 → h ≤ 256 → p ≡ true → (((n == 0) && nat_le h 256) && p) ≡ true
whole_is n h p e l q = rw (e, le-leb h 256 l, q) refl

-- an arena that is cut back to what it was
pub cut_same : (old mid : Arena) (nodes names : ℕ) → nodes ≡ length old.nodes → names ≡ length old.names → Grows old mid → record { names = take names mid.names; nodes = take nodes mid.nodes } ≡ old
cut_same old mid nodes names e f g = rw (e, f) (cut_back old mid g)

pub cut_linked : (old mid : Arena) (nodes names : ℕ) → nodes ≡ length old.nodes → names ≡ length old.names → IsLinked old → Grows old mid → IsLinked (record { names = take names mid.names; nodes = take nodes mid.nodes })
cut_linked old mid nodes names e f l g = subst (λ (a : Arena). IsLinked a) (sym (cut_same old mid nodes names e f g)) l

pub Grows-cut : (old mid : Arena) (nodes names : ℕ) → nodes ≡ length old.nodes → names ≡ length old.names → Grows old mid → Grows old (record { names = take names mid.names; nodes = take nodes mid.nodes })
Grows-cut old mid nodes names e f g = subst (λ (a : Arena). Grows old a) (sym (cut_same old mid nodes names e f g)) (Grows-refl old)

-- NO TWO READINGS ARE SPELLED ALIKE
pub one_spelling : (t u : Reading) (n : Need) → IsWellFormed t → IsWellFormed u → Meets n t → Meets n u → spell t ≡ spell u → t ≡ u
one_spelling t u n ft fu mt mu same =
    let d = max (depth t) (depth u) in
    let ht : depth t ≤ suc d = omega arith in
    let hu : depth u ≤ suc d = omega arith in
    let a = complete t d n [] ft mt ht (stops_end n) in
    let b = complete u d n [] fu mu hu (stops_end n) in
    let c : read_tree (suc d) n (spell t ++ []) ≡ Some (u, []) = rw same b in
    ap (λ (x : Reading × List Token). x.0) (some_is (t, []) (u, []) (sym a ∙ c))

-- NO TOKENS HAVE TWO TREES
pub one_tree : (ts : List Token) (n : Need) (t u : SyntaxTree) → IsTreeOf ts n t → IsTreeOf ts n u → t ≡ u
one_tree ts n t u g h =
    let same = one_spelling g.reading h.reading n g.formed h.formed g.met h.met (g.spelled ∙ sym h.spelled) in
    sym g.tree ∙ ap (λ r. tree_of_reading r) same ∙ h.tree
