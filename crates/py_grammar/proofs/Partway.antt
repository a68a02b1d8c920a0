-- What the reader's loops keep.
use Rattle.std.proofs.Common.{◌≡◌, ℕ, zero, suc, ◌<◌, ◌≤◌, true, false, List, [], ◌∷◌, ◌++◌, length, Option, Some, None, refl, sym, ◌∙◌, ap, arith, append_assoc, append-nil}
use Rattle.std.specs.Borrow.{Bor}
use Rattle.std.proofs.lemmas.List.{map-append}
use Rattle.py_base.specs.Tree.{Arena, tree_of, IsLinked}
use Rattle.py_tokens.specs.declared.lines.Token.{Token}
use Rattle.py_grammar.specs.Terminal.{terminal}
use Rattle.py_grammar.specs.declared.words.Need.{Need}
use Rattle.py_grammar.specs.declared.words.State.{State}
use Rattle.py_grammar.specs.declared.words.Opening.{Opening}
use Rattle.py_grammar.specs.declared.words.Joint.{Joint}
use Rattle.py_grammar.specs.declared.words.Place.{Place}
use Rattle.py_grammar.specs.declared.step.Step.{Step}
use Rattle.py_grammar.specs.declared.step.Step.TheVariants.{Shift as shift, Descend as descend, Stop as stop, Fail as fail}
use Rattle.py_grammar.specs.declared.found.Found.{Found}
use Rattle.py_grammar.specs.declared.found.Item.{Item}
use Rattle.py_grammar.specs.declared.found.Item.TheVariants as items
use Rattle.py_grammar.specs.Table.{meets}
use Rattle.py_grammar.specs.Reading.{Reading, opened, joined, Parts, no_more, word, part, form_of}
use Rattle.py_grammar.specs.Meaning.{Piece, of_word, of_tree, assembled, tree_of_reading, pieces}
use Rattle.py_grammar.specs.Parse.{◌>>=◌, with_word, with_part, turn, parts, all_parts, ended, climb, read_tree, read, read_parts, read_begin, step_at, joint_at, opening_at}
use Rattle.py_grammar.specs.Found.{IsKnown, AreKnown, pieces_at, Extends, IsFoundTree, AreFoundParts}
use Rattle.py_grammar.proofs.KnownLemmas.{Extends-refl, Extends-trans, AreKnown-later, AreKnown-append, pieces_at-later}
use Rattle.py_grammar.proofs.Sound.{tree_shorter, parts_shorter, begin_shorter}

abbrev pub append : Parts → Parts → Parts
append no_more qs = qs
append (word w ps) qs = word w (append ps qs)
append (part t ps) qs = part t (append ps qs)

pieces-append : (ps qs : Parts) → pieces (append ps qs) ≡ pieces ps ++ pieces qs
pieces-append no_more qs = refl
pieces-append (word w ps) qs = ap (λ xs. of_word w ∷ xs) (pieces-append ps qs)
pieces-append (part t ps) qs = ap (λ xs. of_tree (tree_of_reading t) ∷ xs) (pieces-append ps qs)

-- parts that were read before others
abbrev pub with_front : Parts → Option (Parts × List Token) → Option (Parts × List Token)
with_front ps r = r >>= λ x. Some (append ps x.0, x.1)

with_front-none : (r : Option (Parts × List Token)) → with_front no_more r ≡ r
with_front-none None = refl
with_front-none (Some x) = refl

append-word : (ps : Parts) (w : Token) (qs : Parts) → append (append ps (word w no_more)) qs ≡ append ps (word w qs)
append-word no_more w qs = refl
append-word (word v ps) w qs = ap (λ x. word v x) (append-word ps w qs)
append-word (part t ps) w qs = ap (λ x. part t x) (append-word ps w qs)

append-part : (ps : Parts) (t : Reading) (qs : Parts) → append (append ps (part t no_more)) qs ≡ append ps (part t qs)
append-part no_more t qs = refl
append-part (word v ps) t qs = ap (λ x. word v x) (append-part ps t qs)
append-part (part u ps) t qs = ap (λ x. part u x) (append-part ps t qs)

append-none : (ps : Parts) → append ps no_more ≡ ps
append-none no_more = refl
append-none (word v ps) = ap (λ x. word v x) (append-none ps)
append-none (part u ps) = ap (λ x. part u x) (append-none ps)

front-word : (ps : Parts) (w : Token) (r : Option (Parts × List Token)) → with_front ps (with_word w r) ≡ with_front (append ps (word w no_more)) r
front-word ps w None = refl
front-word ps w (Some x) = rw append-word refl

front-part : (ps : Parts) (t : Reading) (r : Option (Parts × List Token)) → with_front ps (with_part t r) ≡ with_front (append ps (part t no_more)) r
front-part ps t None = refl
front-part ps t (Some x) = rw append-part refl

-- The items so far, and then what is still read, are the parts of the whole.
pub record IsPartway (depth : ℕ) (whole : Option (Parts × List Token)) (before : List Piece) (old now : Arena) (xs : List Item) (s : State) (rest : List Token) : Type 0 where
  pub older : Extends old now
  pub known : AreKnown now xs
  pub read_so_far : Parts
  pub stands : pieces_at now xs ≡ before ++ pieces read_so_far
  pub fuel : ℕ
  pub enough : length rest < fuel
  pub reads : whole ≡ with_front read_so_far (parts (read_tree depth) fuel s rest)

pub IsPartway-start : (depth : ℕ) (a : Arena) (xs : List Item) (s : State) (ts : List Token) → IsLinked a → AreKnown a xs → IsPartway depth (read_parts depth s ts) (pieces_at a xs) a a xs s ts
unfolding read_parts
IsPartway-start depth a xs s ts h k = record {
  older = Extends-refl a h;
  known = k;
  read_so_far = no_more;
  stands = sym (append-nil (pieces_at a xs));
  fuel = suc (length ts);
  enough = omega arith;
  reads = sym (with_front-none (all_parts (read_tree depth) s ts));
}

-- one turn of the loop
turned : (depth : ℕ) (whole : Option (Parts × List Token)) (before : List Piece) (old now : Arena) (xs : List Item) (s : State) (rest : List Token) (st : Step) → (h : IsPartway depth whole before old now xs s rest) → step_at s rest ≡ st → (m : ℕ) × (length rest ≤ m) × (whole ≡ with_front h.read_so_far (turn (read_tree depth) (parts (read_tree depth) m) st rest))
unfolding step_at
turned depth whole before old now xs s rest st h e = go h.fuel h.enough h.reads
  where
    go : (m : ℕ) → length rest < m → whole ≡ with_front h.read_so_far (parts (read_tree depth) m s rest) → (m : ℕ) × (length rest ≤ m) × (whole ≡ with_front h.read_so_far (turn (read_tree depth) (parts (read_tree depth) m) st rest))
    go zero lt r = absurd (omega arith)
    go (suc m) lt r = (m, omega arith, rw e at r)

pub IsPartway-word : (depth : ℕ) (whole : Option (Parts × List Token)) (before : List Piece) (old now : Arena) (xs : List Item) (s t : State) (w : Bor Token) (ts rest : List Token) → IsPartway depth whole before old now xs s ts → step_at s ts ≡ shift t → ts ≡ w.now ∷ rest → IsPartway depth whole before old now (xs ++ items.Word w ∷ []) t rest
IsPartway-word depth whole before old now xs s t w ts rest h0 e0 first =
    let h = rw first at h0 in
    let e = rw first at e0 in
    let (m, le, r) = turned depth whole before old now xs s (w.now ∷ rest) (shift t) h e in
    let ps = h.read_so_far in
    record {
      older = h.older;
      known = AreKnown-append now xs (items.Word w ∷ []) h.known tt;
      read_so_far = append ps (word w.now no_more);
      stands = map-append _ xs (items.Word w ∷ []) ∙ ap (λ ys. ys ++ of_word w.now ∷ []) h.stands ∙ append_assoc before (pieces ps) (of_word w.now ∷ []) ∙ ap (λ ys. before ++ ys) (sym (pieces-append ps (word w.now no_more)));
      fuel = m;
      enough = omega arith;
      reads = r ∙ front-word ps w.now (parts (read_tree depth) m t rest);
    }

pub IsPartway-part : (depth : ℕ) (whole : Option (Parts × List Token)) (before : List Piece) (old now new : Arena) (xs : List Item) (s : State) (p : Place) (ts : List Token) (x : Found) (rest : List Token) → IsPartway depth whole before old now xs s ts → step_at s ts ≡ descend p → Extends now new → IsFoundTree new x rest (read depth p.need ts) → IsPartway depth whole before old new (xs ++ items.Part x ∷ []) p.after rest
unfolding read
IsPartway-part depth whole before old now new xs s p ts x rest h e g f =
    let (m, le, r) = turned depth whole before old now xs s ts (descend p) h e in
    let short = tree_shorter depth p.need ts f.reading rest f.read in
    let ps = h.read_so_far in
    let r2 : whole ≡ with_front ps (with_part f.reading (parts (read_tree depth) m p.after rest)) = rw f.read at r in
    record {
      older = Extends-trans old now new h.older g;
      known = AreKnown-append new xs (items.Part x ∷ []) (AreKnown-later now new xs h.older.linked g h.known) (f.known, tt);
      read_so_far = append ps (part f.reading no_more);
      stands = map-append _ xs (items.Part x ∷ []) ∙ ap (λ ys. ys ++ of_tree (tree_of new x.id) ∷ []) (pieces_at-later now new xs h.older.linked g h.known ∙ h.stands) ∙ append_assoc before (pieces ps) (of_tree (tree_of new x.id) ∷ []) ∙ ap (λ t. before ++ (pieces ps ++ of_tree t ∷ [])) f.tree ∙ ap (λ ys. before ++ ys) (sym (pieces-append ps (part f.reading no_more)));
      fuel = m;
      enough = omega arith;
      reads = r2 ∙ front-part ps f.reading (parts (read_tree depth) m p.after rest);
    }

pub IsPartway-stop : (depth : ℕ) (whole : Option (Parts × List Token)) (before : List Piece) (old now : Arena) (xs : List Item) (s : State) (rest : List Token) → IsPartway depth whole before old now xs s rest → step_at s rest ≡ stop → AreFoundParts before now xs rest whole
IsPartway-stop depth whole before old now xs s rest h e =
    let (m, le, r) = turned depth whole before old now xs s rest stop h e in
    record { parts = h.read_so_far; known = h.known; whole = h.stands; read = rw append-none at r }

pub IsPartway-fail : (depth : ℕ) (whole : Option (Parts × List Token)) (before : List Piece) (old now : Arena) (xs : List Item) (s : State) (rest : List Token) → IsPartway depth whole before old now xs s rest → step_at s rest ≡ fail → whole ≡ None
IsPartway-fail depth whole before old now xs s rest h e =
    let (m, le, r) = turned depth whole before old now xs s rest fail h e in r

pub IsPartway-short : (depth : ℕ) (whole : Option (Parts × List Token)) (before : List Piece) (old now : Arena) (xs : List Item) (s t : State) (ts : List Token) → IsPartway depth whole before old now xs s ts → step_at s ts ≡ shift t → length ts ≡ 0 → whole ≡ None
IsPartway-short depth whole before old now xs s t [] h e none =
    let (m, le, r) = turned depth whole before old now xs s [] (shift t) h e in r
IsPartway-short depth whole before old now xs s t (w ∷ ts) h e none = absurd (omega arith)

pub IsPartway-none : (depth : ℕ) (whole : Option (Parts × List Token)) (before : List Piece) (old now : Arena) (xs : List Item) (s : State) (p : Place) (rest : List Token) → IsPartway depth whole before old now xs s rest → step_at s rest ≡ descend p → read depth p.need rest ≡ None → whole ≡ None
unfolding read
IsPartway-none depth whole before old now xs s p rest h e none =
    let (m, le, r) = turned depth whole before old now xs s rest (descend p) h e in rw none at r

-- a tree that begins with its own first token
pub begun : (depth : ℕ) (least : Need) (a mid new : Arena) (o : Opening) (w : Bor Token) (ts others : List Token) (first xs : List Item) (y : Found) (rest : List Token) → ts ≡ w.now ∷ others → opening_at least (terminal w.now) ≡ Some o → first ≡ items.Word w ∷ [] → AreFoundParts (pieces_at a first) mid xs rest (read_parts depth o.after others) → IsKnown new y → y.form ≡ o.form → tree_of new y.id ≡ assembled o.form (pieces_at mid xs) → IsFoundTree new y rest (read_begin depth least ts)
unfolding opening_at read_parts read_begin
begun depth least a mid new o w ts others first xs y rest e1 e one f k form tree =
    let same : pieces_at mid xs ≡ of_word w.now ∷ pieces f.parts = rw one at f.whole in
    record {
      reading = opened o.form w.now f.parts;
      known = k;
      form = form;
      tree = tree ∙ ap (λ ps. assembled o.form ps) same;
      read = rw (e1, e, f.read) refl;
    }

pub begun-none : (depth : ℕ) (least : Need) (o : Opening) (w : Token) (ts others : List Token) → ts ≡ w ∷ others → opening_at least (terminal w) ≡ Some o → read_parts depth o.after others ≡ None → read_begin depth least ts ≡ None
unfolding opening_at read_parts read_begin
begun-none depth least o w ts others first e none = rw (first, e, none) refl

pub begun-not : (depth : ℕ) (least : Need) (w : Token) (ts others : List Token) → ts ≡ w ∷ others → opening_at least (terminal w) ≡ None → read_begin depth least ts ≡ None
unfolding opening_at read_begin
begun-not depth least w ts others first e = rw (first, e) refl

pub begun-short : (depth : ℕ) (least : Need) (ts : List Token) → length ts ≡ 0 → read_begin depth least ts ≡ None
unfolding read_begin
begun-short depth least [] h = refl
begun-short depth least (w ∷ ts) h = absurd (omega arith)

-- a tree is begun, and goes on
pub read-none : (least : Need) (ts : List Token) → read 0 least ts ≡ None
unfolding read
read-none least ts = refl

pub read-not : (d depth : ℕ) (least : Need) (ts : List Token) → d ≡ suc depth → read_begin depth least ts ≡ None → read d least ts ≡ None
unfolding read read_begin
read-not d depth least ts same e = rw (same, e) refl

-- What was read so far, and goes on, is the whole.
pub record IsClimbing (depth : ℕ) (least : Need) (whole : Option (Reading × List Token)) (old now : Arena) (x : Found) (rest : List Token) : Type 0 where
  pub older : Extends old now
  pub reading : Reading
  pub known : IsKnown now x
  pub form : x.form ≡ form_of reading
  pub tree : tree_of now x.id ≡ tree_of_reading reading
  pub fuel : ℕ
  pub enough : length rest ≤ fuel
  pub reads : whole ≡ climb (all_parts (read_tree depth)) least fuel reading rest

pub IsClimbing-start : (d depth : ℕ) (least : Need) (old now : Arena) (x : Found) (ts rest : List Token) → d ≡ suc depth → Extends old now → IsFoundTree now x rest (read_begin depth least ts) → IsClimbing depth least (read d least ts) old now x rest
unfolding read read_begin
IsClimbing-start d depth least old now x ts rest same g f =
    let short = begin_shorter depth least ts f.reading rest f.read in
    record { older = g; reading = f.reading; known = f.known; form = f.form; tree = f.tree; fuel = length ts; enough = omega arith; reads = rw (same, f.read) refl }

IsClimbing-end : (depth : ℕ) (least : Need) (whole : Option (Reading × List Token)) (old now : Arena) (x : Found) (rest : List Token) → (h : IsClimbing depth least whole old now x rest) → joint_at least x.form rest ≡ None → whole ≡ ended least h.reading rest
unfolding joint_at
IsClimbing-end depth least whole old now x rest h e = go h.fuel h.reads
  where
    go : (m : ℕ) → whole ≡ climb (all_parts (read_tree depth)) least m h.reading rest → whole ≡ ended least h.reading rest
    go zero r = r
    go (suc m) r = let e2 = rw h.form at e in rw e2 at r

pub IsClimbing-met : (depth : ℕ) (least : Need) (whole : Option (Reading × List Token)) (old now : Arena) (x : Found) (rest : List Token) → IsClimbing depth least whole old now x rest → joint_at least x.form rest ≡ None → meets least x.form ≡ true → IsFoundTree now x rest whole
IsClimbing-met depth least whole old now x rest h e m =
    let m2 : meets least (form_of h.reading) ≡ true = rw h.form at m in
    record { reading = h.reading; known = h.known; form = h.form; tree = h.tree; read = rw m2 at (IsClimbing-end depth least whole old now x rest h e) }

pub IsClimbing-unmet : (depth : ℕ) (least : Need) (whole : Option (Reading × List Token)) (old now : Arena) (x : Found) (rest : List Token) → IsClimbing depth least whole old now x rest → joint_at least x.form rest ≡ None → meets least x.form ≡ false → whole ≡ None
IsClimbing-unmet depth least whole old now x rest h e m =
    let m2 : meets least (form_of h.reading) ≡ false = rw h.form at m in
    rw m2 at (IsClimbing-end depth least whole old now x rest h e)

climbed : (depth : ℕ) (least : Need) (whole : Option (Reading × List Token)) (old now : Arena) (x : Found) (j : Joint) (w : Token) (ts rest : List Token) → (h : IsClimbing depth least whole old now x ts) → joint_at least x.form ts ≡ Some j → ts ≡ w ∷ rest → (m : ℕ) × (length rest ≤ m) × (whole ≡ (all_parts (read_tree depth) j.after rest >>= λ y. climb (all_parts (read_tree depth)) least m (joined j.form h.reading w y.0) y.1))
unfolding joint_at
climbed depth least whole old now x j w ts rest h e first = go h.fuel (rw first at h.enough) (rw first at h.reads)
  where
    go : (m : ℕ) → length (w ∷ rest) ≤ m → whole ≡ climb (all_parts (read_tree depth)) least m h.reading (w ∷ rest) → (m : ℕ) × (length rest ≤ m) × (whole ≡ (all_parts (read_tree depth) j.after rest >>= λ y. climb (all_parts (read_tree depth)) least m (joined j.form h.reading w y.0) y.1))
    go zero le r = absurd (omega arith)
    go (suc m) le r = let e2 = rw (first, h.form) at e in (m, omega arith, rw e2 at r)

pub IsClimbing-none : (depth : ℕ) (least : Need) (whole : Option (Reading × List Token)) (old now : Arena) (x : Found) (j : Joint) (w : Token) (ts rest : List Token) → IsClimbing depth least whole old now x ts → joint_at least x.form ts ≡ Some j → ts ≡ w ∷ rest → read_parts depth j.after rest ≡ None → whole ≡ None
unfolding read_parts
IsClimbing-none depth least whole old now x j w ts rest h e first none =
    let (m, le, r) = climbed depth least whole old now x j w ts rest h e first in rw none at r

pub IsClimbing-short : (depth : ℕ) (least : Need) (whole : Option (Reading × List Token)) (old now : Arena) (x : Found) (j : Joint) (ts : List Token) → IsClimbing depth least whole old now x ts → joint_at least x.form ts ≡ Some j → length ts ≡ 0 → whole ≡ None
unfolding joint_at
IsClimbing-short depth least whole old now x j [] h e none = cc
IsClimbing-short depth least whole old now x j (w ∷ ts) h e none = absurd (omega arith)

-- the next node
pub IsClimbing-node : (depth : ℕ) (least : Need) (whole : Option (Reading × List Token)) (old now mid new : Arena) (x y : Found) (j : Joint) (w : Bor Token) (ts others : List Token) (first xs : List Item) (rest : List Token) → IsClimbing depth least whole old now x ts → joint_at least x.form ts ≡ Some j → ts ≡ w.now ∷ others → first ≡ items.Part x ∷ items.Word w ∷ [] → Extends now mid → Extends mid new → AreFoundParts (pieces_at now first) mid xs rest (read_parts depth j.after others) → IsKnown new y → y.form ≡ j.form → tree_of new y.id ≡ assembled j.form (pieces_at mid xs) → IsClimbing depth least whole old new y rest
unfolding read_parts
IsClimbing-node depth least whole old now mid new x y j w ts others first xs rest h e e1 two g1 g2 f k form tree =
    let (m, le, r) = climbed depth least whole old now x j w.now ts others h e e1 in
    let short = parts_shorter depth j.after others f.parts rest f.read in
    let same : pieces_at mid xs ≡ of_tree (tree_of now x.id) ∷ of_word w.now ∷ pieces f.parts = rw two at f.whole in
    record {
      older = Extends-trans old now new h.older (Extends-trans now mid new g1 g2);
      reading = joined j.form h.reading w.now f.parts;
      known = k;
      form = form;
      tree = tree ∙ ap (λ ps. assembled j.form ps) same ∙ ap (λ t. assembled j.form (of_tree t ∷ of_word w.now ∷ pieces f.parts)) h.tree;
      fuel = m;
      enough = omega arith;
      reads = rw f.read at r;
    }

pub shorter_parts : (depth : ℕ) (s : State) (ts : List Token) (ps : Parts) (rest : List Token) → read_parts depth s ts ≡ Some (ps, rest) → length rest ≤ length ts
unfolding read_parts
shorter_parts depth s ts ps rest e = parts_shorter depth s ts ps rest e

pub shorter_tree : (depth : ℕ) (least : Need) (ts : List Token) (t : Reading) (rest : List Token) → read depth least ts ≡ Some (t, rest) → length rest < length ts
unfolding read
shorter_tree depth least ts t rest e = tree_shorter depth least ts t rest e
