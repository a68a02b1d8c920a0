-- What is read is a tree that keeps the levels and spells what was read.
use Rattle.std.proofs.Common.{◌≡◌, ℕ, zero, suc, ◌<◌, ◌≤◌, Bool, true, false, cond, List, [], ◌∷◌, ◌++◌, length, Option, Some, None, refl, ◌∙◌, ap, subst, arith, is_some, append_assoc, length-append}
use Rattle.py_grammar.proofs.Finite.{found_among}
use Rattle.py_grammar.specs.declared.words.Form.{Form}
use Rattle.py_grammar.specs.declared.words.Need.{Need}
use Rattle.py_grammar.specs.declared.words.State.{State}
use Rattle.py_tokens.specs.declared.lines.Token.{Token}
use Rattle.py_grammar.specs.declared.words.Opening.{Opening}
use Rattle.py_grammar.specs.declared.words.Joint.{Joint}
use Rattle.py_grammar.specs.declared.words.Place.{Place}
use Rattle.py_grammar.specs.declared.step.Step.{Step}
use Rattle.py_grammar.specs.declared.step.Step.TheVariants.{Shift as shift, Descend as descend, Stop as stop, Fail as fail}
use Rattle.py_grammar.specs.Table.{meets, opens, joins, edge, places, is_last}
use Rattle.py_grammar.specs.Terminal.{terminal}
use Rattle.py_grammar.specs.Reading.{Reading, opened, joined, Parts, no_more, word, part, form_of, spell, spell_parts, IsWellFormed, Follows, Meets}
use Rattle.py_grammar.specs.Parse.{Reader, ◌>>=◌, peek, at_part, at_edge, step, place_at, with_part, turn, parts, all_parts, reaches, begins, goes_on, allowed, ended, go_on, climb, begin_with, begin, start, read_tree}

-- the tree stands at the front of the tokens, and keeps the levels
pub record IsFront (least : Need) (ts : List Token) (t : Reading) (rest : List Token) : Type 0 where
  pub spelled : ts ≡ spell t ++ rest
  pub formed : IsWellFormed t
  pub met : Meets least t

pub record AreFront (s : State) (ts : List Token) (ps : Parts) (rest : List Token) : Type 0 where
  pub spelled : ts ≡ spell_parts ps ++ rest
  pub follow : Follows s ps

-- the equation between two values that were found
some_is : {A : Type 0} (x y : A) → ◌≡◌ {A = Option A} (Some x) (Some y) → x ≡ y
some_is x y e = cc

-- what holds of what was found
found : {A : Type 0} (P : A → Type 0) (x y : A) → ◌≡◌ {A = Option A} (Some x) (Some y) → P x → P y
found P x y e h = subst P (some_is x y e) h

bind_some : {A B : Type 0} (P : B → Type 0) (r : Option A) (f : A → Option B) (y : B) → (r >>= f) ≡ Some y → ((x : A) → r ≡ Some x → f x ≡ Some y → P y) → P y
bind_some P None f y e h = cc
bind_some P (Some x) f y e h = h x refl e

edge_of : (o : Option State) (last : Bool) (p : Option Place) (t : State) → at_edge o (at_part last p) ≡ shift t → o ≡ Some t
edge_of (Some s) last p t e = let x : s ≡ t = cc in rw x refl
edge_of None true None t e = cc
edge_of None false None t e = cc
edge_of None last (Some p) t e = cc

place_of : (o : Option State) (last : Bool) (p : Option Place) (q : Place) → at_edge o (at_part last p) ≡ descend q → p ≡ Some q
place_of (Some s) last p q e = cc
place_of None true None q e = cc
place_of None false None q e = cc
place_of None last (Some p) q e = let x : p ≡ q = cc in rw x refl

last_of : (o : Option State) (last : Bool) (p : Option Place) → at_edge o (at_part last p) ≡ stop → last ≡ true
last_of (Some s) last p e = cc
last_of None true p e = refl
last_of None false None e = cc
last_of None false (Some p) e = cc

abbrev pub ReadsTrees : (Need → Reader Reading) → Type 0
ReadsTrees f = (least : Need) (ts : List Token) (y : Reading × List Token) → f least ts ≡ Some y → IsFront least ts y.0 y.1

abbrev pub ReadsParts : (State → Reader Parts) → Type 0
ReadsParts f = (s : State) (ts : List Token) (y : Parts × List Token) → f s ts ≡ Some y → AreFront s ts y.0 y.1

turn_sound : (f : Need → Reader Reading) (g : State → Reader Parts) → ReadsTrees f → ReadsParts g → (s : State) (ts : List Token) (y : Parts × List Token) (st : Step) → step s (peek ts) ≡ st → turn f g st ts ≡ Some y → AreFront s ts y.0 y.1
turn_sound f g F G s [] y (shift t) e r = cc
turn_sound f g F G s (w ∷ ts) y (shift t) e r =
    bind_some (λ y. AreFront s (w ∷ ts) y.0 y.1) (g t ts) (λ x. Some (word w x.0, x.1)) y r (λ x a b.
    let front = G t ts x a in
    found (λ y. AreFront s (w ∷ ts) y.0 y.1) (word w x.0, x.1) y b (record { spelled = ap (λ v. w ∷ v) front.spelled; follow = (t, edge_of (edge s (terminal w)) (is_last s) (place_at s (terminal w)) t e, front.follow) }))
turn_sound f g F G s ts y (descend p) e r =
    bind_some (λ y. AreFront s ts y.0 y.1) (f p.need ts) (λ x. with_part x.0 (g p.after x.1)) y r (λ x a b.
    bind_some (λ y. AreFront s ts y.0 y.1) (g p.after x.1) (λ z. Some (part x.0 z.0, z.1)) y b (λ z c d.
    let tree = F p.need ts x a in
    let more = G p.after x.1 z c in
    found (λ y. AreFront s ts y.0 y.1) (part x.0 z.0, z.1) y d (record {
      spelled = rw append_assoc (tree.spelled ∙ ap (λ v. spell x.0 ++ v) more.spelled);
      follow = (p, (found_among (λ p. is_some (begins p.need (peek ts))) (places s) p (place_of (edge s (peek ts)) (is_last s) (place_at s (peek ts)) p e)).0, tree.met, tree.formed, more.follow);
    })))
turn_sound f g F G s ts y stop e r = found (λ y. AreFront s ts y.0 y.1) (no_more, ts) y r (record { spelled = refl; follow = last_of (edge s (peek ts)) (is_last s) (place_at s (peek ts)) e })
turn_sound f g F G s ts y fail e r = cc

parts_sound : (f : Need → Reader Reading) → ReadsTrees f → (m : ℕ) → ReadsParts (parts f m)
parts_sound f F zero s ts y r = cc
parts_sound f F (suc m) s ts y r = turn_sound f (parts f m) F (parts_sound f F m) s ts y (step s (peek ts)) refl r

allowed_is : (f : Form) (o : Option Joint) (j : Joint) → allowed f o ≡ Some j → (o ≡ Some j) × (meets j.left f ≡ true)
allowed_is f None j e = cc
allowed_is f (Some i) j e = chosen (meets i.left f) refl e
  where
    chosen : (b : Bool) → meets i.left f ≡ b → cond b (Some i) None ≡ Some j → (◌≡◌ {A = Option Joint} (Some i) (Some j)) × (meets j.left f ≡ true)
    chosen false h e = cc
    chosen true h e = let same : i ≡ j = cc in (e, rw (← same) h)

abbrev pub GoesOn : Need → (Reading → Reader Reading) → Type 0
GoesOn n f = (t : Reading) (ts : List Token) (y : Reading × List Token) → IsWellFormed t → f t ts ≡ Some y → IsFront n (spell t ++ ts) y.0 y.1

ended_sound : (n : Need) → GoesOn n (ended n)
ended_sound n t ts y h r = chosen (meets n (form_of t)) refl r
  where
    chosen : (b : Bool) → meets n (form_of t) ≡ b → cond b (Some (t, ts)) None ≡ Some y → IsFront n (spell t ++ ts) y.0 y.1
    chosen false e r = cc
    chosen true e r = found (λ y. IsFront n (spell t ++ ts) y.0 y.1) (t, ts) y r (record { spelled = refl; formed = h; met = e })

go_on_sound : (more : State → Reader Parts) (again : Reading → Reader Reading) (n : Need) → ReadsParts more → GoesOn n again → (t : Reading) (ts : List Token) (y : Reading × List Token) (o : Option Joint) → IsWellFormed t → allowed (form_of t) (goes_on n (peek ts)) ≡ o → go_on more again n t o ts ≡ Some y → IsFront n (spell t ++ ts) y.0 y.1
go_on_sound more again n G A t ts y None h e r = ended_sound n t ts y h r
go_on_sound more again n G A t [] y (Some j) h e r = cc
go_on_sound more again n G A t (w ∷ ts) y (Some j) h e r =
    bind_some (λ y. IsFront n (spell t ++ (w ∷ ts)) y.0 y.1) (more j.after ts) (λ x. again (joined j.form t w x.0) x.1) y r (λ x a b.
    let is = allowed_is (form_of t) (goes_on n (terminal w)) j e in
    let among = found_among (λ j. reaches n j.form) (joins (terminal w)) j is.0 in
    let front = G j.after ts x a in
    let whole = A (joined j.form t w x.0) x.1 y (j, among.0, refl, is.1, h, front.follow) b in
    let spelled : spell t ++ (w ∷ ts) ≡ (spell t ++ (w ∷ spell_parts x.0)) ++ x.1 = rw append_assoc (ap (λ v. spell t ++ (w ∷ v)) front.spelled) in
    record { spelled = spelled ∙ whole.spelled; formed = whole.formed; met = whole.met })

climb_sound : (more : State → Reader Parts) (n : Need) → ReadsParts more → (m : ℕ) → GoesOn n (climb more n m)
climb_sound more n G zero t ts y h r = ended_sound n t ts y h r
climb_sound more n G (suc m) t ts y h r =
    go_on_sound more (climb more n m) n G (climb_sound more n G m) t ts y (allowed (form_of t) (goes_on n (peek ts))) h refl r

-- the tree stands at the front, whatever it meets
pub record IsBegun (ts : List Token) (t : Reading) (rest : List Token) : Type 0 where
  pub spelled : ts ≡ spell t ++ rest
  pub formed : IsWellFormed t

begin_with_sound : (more : State → Reader Parts) → ReadsParts more → (n : Need) (w : Token) (ts : List Token) (y : Reading × List Token) (o : Option Opening) → begins n (terminal w) ≡ o → begin_with more w o ts ≡ Some y → IsBegun (w ∷ ts) y.0 y.1
begin_with_sound more G n w ts y None e r = cc
begin_with_sound more G n w ts y (Some o) e r =
    bind_some (λ y. IsBegun (w ∷ ts) y.0 y.1) (more o.after ts) (λ x. Some (opened o.form w x.0, x.1)) y r (λ x a b.
    let among = found_among (λ o. reaches n o.form) (opens (terminal w)) o e in
    let front = G o.after ts x a in
    found (λ y. IsBegun (w ∷ ts) y.0 y.1) (opened o.form w x.0, x.1) y b (record { spelled = ap (λ v. w ∷ v) front.spelled; formed = (o, among.0, refl, front.follow) }))

begin_sound : (more : State → Reader Parts) → ReadsParts more → (n : Need) (ts : List Token) (y : Reading × List Token) → begin more n ts ≡ Some y → IsBegun ts y.0 y.1
begin_sound more G n [] y r = cc
begin_sound more G n (w ∷ ts) y r = begin_with_sound more G n w ts y (begins n (terminal w)) refl r

start_sound : (more : State → Reader Parts) → ReadsParts more → (n : Need) (m : ℕ) (ts : List Token) (y : Reading × List Token) → start more n m ts ≡ Some y → IsFront n ts y.0 y.1
start_sound more G n m ts y r =
    bind_some (λ y. IsFront n ts y.0 y.1) (begin more n ts) (λ x. climb more n m x.0 x.1) y r (λ x a b.
    let front = begin_sound more G n ts x a in
    let whole = climb_sound more n G m x.0 x.1 y front.formed b in
    record { spelled = front.spelled ∙ whole.spelled; formed = whole.formed; met = whole.met })

-- What is read stands at the front of the tokens and keeps the levels.
pub sound : (n : ℕ) → ReadsTrees (read_tree n)
sound zero l ts y r = cc
sound (suc n) l ts y r =
    start_sound (all_parts (read_tree n)) (λ s us z e. parts_sound (read_tree n) (sound n) (suc (length us)) s us z e) l (length ts) ts y r

-- what is read is not empty
tree_some : (t : Reading) → 0 < length (spell t)
tree_some (opened f w ps) = omega arith
tree_some (joined f t w ps) = let h = tree_some t in omega (arith, length-append (spell t) (w ∷ spell_parts ps))

pub tree_shorter : (n : ℕ) (l : Need) (ts : List Token) (t : Reading) (rest : List Token) → read_tree n l ts ≡ Some (t, rest) → length rest < length ts
tree_shorter n l ts t rest r =
    let front = sound n l ts (t, rest) r in
    let some = tree_some t in
    omega (arith, ap length front.spelled, length-append (spell t) rest)

pub parts_shorter : (n : ℕ) (s : State) (ts : List Token) (ps : Parts) (rest : List Token) → all_parts (read_tree n) s ts ≡ Some (ps, rest) → length rest ≤ length ts
parts_shorter n s ts ps rest r =
    let front = parts_sound (read_tree n) (sound n) (suc (length ts)) s ts (ps, rest) r in
    omega (arith, ap length front.spelled, length-append (spell_parts ps) rest)

pub begin_shorter : (n : ℕ) (l : Need) (ts : List Token) (t : Reading) (rest : List Token) → begin (all_parts (read_tree n)) l ts ≡ Some (t, rest) → length rest ≤ length ts
begin_shorter n l ts t rest r =
    let front = begin_sound (all_parts (read_tree n)) (λ s us z e. parts_sound (read_tree n) (sound n) (suc (length us)) s us z e) l ts (t, rest) r in
    omega (arith, ap length front.spelled, length-append (spell t) rest)
