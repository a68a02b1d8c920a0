-- Each tree that keeps the levels is read from what it spells.
use Rattle.std.proofs.Common.{◌≡◌, ℕ, zero, suc, ◌+◌, ◌-◌, ◌<◌, ◌≤◌, true, List, ◌∷◌, ◌++◌, length, Option, Some, None, refl, ◌∙◌, arith, append_assoc, length-append, zero-add}
use Rattle.py_grammar.specs.declared.words.Terminal.{Terminal}
use Rattle.py_grammar.specs.declared.words.Need.{Need}
use Rattle.py_grammar.specs.declared.words.State.{State}
use Rattle.py_tokens.specs.declared.lines.Token.{Token}
use Rattle.py_grammar.specs.declared.words.Opening.{Opening}
use Rattle.py_grammar.specs.declared.words.Joint.{Joint}
use Rattle.py_grammar.specs.declared.words.Place.{Place}
use Rattle.py_grammar.specs.declared.step.Step.TheVariants.{Shift as shift, Descend as descend, Stop as stop}
use Rattle.py_grammar.specs.Table.{meets, opens, joins, edge, places, is_last}
use Rattle.py_grammar.specs.Terminal.{terminal}
use Rattle.py_grammar.specs.Reading.{Reading, opened, joined, Parts, no_more, word, part, form_of, spell, spell_parts, depth, depth_parts, IsWellFormed, Follows, Meets, Among}
use Rattle.py_grammar.specs.Parse.{Reader, peek, step, parts, all_parts, reaches, begins, goes_on, allowed, go_on, climb, begin, start, read_tree}
use Rattle.py_grammar.proofs.Quiet.{stops, quiet, meets_reaches, reaches_left, opening_found, joint_found, opened_end, joined_end, left_opened, left_joined, stop_joint, quiet_edge, quiet_place, quiet_end, edge_ends, place_ends, part_begins, place_found}

-- how many parts and tokens
abbrev pub count : Parts → ℕ
count no_more = 0
count (word w ps) = suc (count ps)
count (part t ps) = suc (count ps)

-- how many joints stand on a tree's left edge
abbrev pub spine : Reading → ℕ
spine (opened f w ps) = 0
spine (joined f t w ps) = suc (spine t)

-- a token continues no part at the tree's right edge
abbrev pub Quiet : Reading → Terminal → Type 0
Quiet (opened f w ps) k = (o : Opening) → Among o (opens (terminal w)) → f ≡ o.form → quiet o.after k ≡ true
Quiet (joined f t w ps) k = (j : Joint) → Among j (joins (terminal w)) → f ≡ j.form → quiet j.after k ≡ true

spine_short : (t : Reading) → spine t < length (spell t)
spine_short (opened f w ps) = omega arith
spine_short (joined f t w ps) = let h = spine_short t in omega (arith, length-append (spell t) (w ∷ spell_parts ps))

count_short : (ps : Parts) → count ps ≤ length (spell_parts ps)
count_short no_more = omega arith
count_short (word w ps) = let h = count_short ps in omega arith
count_short (part t ps) = let h = count_short ps in let k = spine_short t in omega (arith, length-append (spell t) (spell_parts ps))

-- a tree that reaches a need begins with a token that opens a form for it
front : (t : Reading) (n : Need) (rest : List Token) → IsWellFormed t → reaches n (form_of t) ≡ true → (o : Opening) × (begins n (peek (spell t ++ rest)) ≡ Some o)
front (opened f w ps) n rest (o, i, same, _) r =
    let r2 : reaches n o.form ≡ true = rw same at r in (o, opening_found (terminal w) o n i r2)
front (joined f t w ps) n rest (j, i, same, m, h, _) r =
    let r2 : reaches n j.form ≡ true = rw same at r in
    rw append_assoc (front t n (w ∷ spell_parts ps ++ rest) h (reaches_left (terminal w) j n (form_of t) i r2 m))

-- what ends a tree keeps its right edge
tree_ends : (t : Reading) (n : Need) (k : Terminal) → meets n (form_of t) ≡ true → stops n k ≡ true → Quiet t k
tree_ends (opened f w ps) n k m s = λ o i same. let m2 : meets n o.form ≡ true = rw same at m in opened_end (terminal w) k o n i m2 s
tree_ends (joined f t w ps) n k m s = λ j i same. let m2 : meets n j.form ≡ true = rw same at m in joined_end (terminal w) k j n i m2 s

-- a joint's token keeps the right edge of the tree on its left
left_ends : (t : Reading) (k : Terminal) (i : Joint) → Among i (joins k) → meets i.left (form_of t) ≡ true → Quiet t k
left_ends (opened f w ps) k i ik m = λ o io same. let m2 : meets i.left o.form ≡ true = rw same at m in left_opened k (terminal w) i o ik io m2
left_ends (joined f t w ps) k i ik m = λ j ij same. let m2 : meets i.left j.form ≡ true = rw same at m in left_joined k (terminal w) i j ik ij m2

-- what stands behind a part ends it
part_ends : (s : State) (p : Place) (ps : Parts) (rest : List Token) → Among p (places s) → Follows p.after ps → quiet s (peek rest) ≡ true → stops p.need (peek (spell_parts ps ++ rest)) ≡ true
part_ends s p no_more rest e h q = (quiet_place s (peek rest) p e q).1 h
part_ends s p (word w ps) rest e (t, ew, _) q = edge_ends s t (terminal w) p e ew
part_ends s p (part t ps) rest e (r, er, m, ht, _) q =
    let f = front t r.need (spell_parts ps ++ rest) ht (meets_reaches r.need (form_of t) m) in
    rw append_assoc (place_ends s (peek (spell t ++ (spell_parts ps ++ rest))) p r f.0 e er f.1)

-- the steps
step_edge : (s t : State) (k : Terminal) → edge s k ≡ Some t → step s k ≡ shift t
step_edge s t k e = rw e refl

step_part : (s : State) (k : Terminal) (p : Place) (o : Opening) → Among p (places s) → begins p.need k ≡ Some o → step s k ≡ descend p
step_part s k p o i ek = rw (part_begins s k p o i ek, place_found s k p o i ek) refl

step_stop : (s : State) (k : Terminal) → is_last s ≡ true → quiet s k ≡ true → step s k ≡ stop
step_stop s k l q = let h = quiet_end s k l q in rw (h.0, h.1, l) refl

-- where no joint may follow, the tree is whole
climb_stop : (more : State → Reader Parts) (n : Need) (m : ℕ) (t : Reading) (ts : List Token) → meets n (form_of t) ≡ true → stops n (peek ts) ≡ true → climb more n m t ts ≡ Some (t, ts)
climb_stop more n zero t ts m s = rw m refl
climb_stop more n (suc c) t ts m s = go (goes_on n (peek ts)) refl
  where
    go : (o : Option Joint) → goes_on n (peek ts) ≡ o → go_on more (climb more n c) n t (allowed (form_of t) o) ts ≡ Some (t, ts)
    go None e = rw m refl
    go (Some j) e = rw (stop_joint n (peek ts) j (form_of t) s e m, m) refl

climb_joint : (more : State → Reader Parts) (n : Need) (m : ℕ) (t : Reading) (w : Token) (j : Joint) (ts rest : List Token) (ps : Parts) → goes_on n (terminal w) ≡ Some j → meets j.left (form_of t) ≡ true → more j.after ts ≡ Some (ps, rest) → climb more n (suc m) t (w ∷ ts) ≡ climb more n m (joined j.form t w ps) rest
climb_joint more n m t w j ts rest ps e a r = rw (e, a, r) refl

begin_at : (more : State → Reader Parts) (n : Need) (w : Token) (o : Opening) (ts rest : List Token) (ps : Parts) → begins n (terminal w) ≡ Some o → more o.after ts ≡ Some (ps, rest) → begin more n (w ∷ ts) ≡ Some (opened o.form w ps, rest)
begin_at more n w o ts rest ps e r = rw (e, r) refl

-- the parts of a form, from its own first token on
tail_read : (n : ℕ) (s : State) (ps : Parts) (rest : List Token) → ((m : ℕ) → count ps ≤ m → parts (read_tree n) (suc m) s (spell_parts ps ++ rest) ≡ Some (ps, rest)) → all_parts (read_tree n) s (spell_parts ps ++ rest) ≡ Some (ps, rest)
tail_read n s ps rest reads =
    let short = count_short ps in
    let few : count ps ≤ length (spell_parts ps ++ rest) = omega (arith, length-append (spell_parts ps) rest) in
    reads (length (spell_parts ps ++ rest)) few

-- a tree that nothing goes on from is read whole
whole : (t : Reading) (n : ℕ) (l : Need) (rest : List Token) → ((m : ℕ) → start (all_parts (read_tree n)) l (spine t + m) (spell t ++ rest) ≡ climb (all_parts (read_tree n)) l m t rest) → meets l (form_of t) ≡ true → stops l (peek rest) ≡ true → read_tree (suc n) l (spell t ++ rest) ≡ Some (t, rest)
whole t n l rest reads m2 s =
    let size = length (spell t ++ rest) in
    let m = size - spine t in
    let short = spine_short t in
    let same : spine t + m ≡ size = omega (arith, length-append (spell t) rest) in
    (rw same at (reads m)) ∙ climb_stop (all_parts (read_tree n)) l m t rest m2 s

mutual
  -- the parts from a place of a form on
  reads_parts : (ps : Parts) (n m : ℕ) (s : State) (rest : List Token) → Follows s ps → depth_parts ps ≤ n → count ps ≤ m → quiet s (peek rest) ≡ true → parts (read_tree n) (suc m) s (spell_parts ps ++ rest) ≡ Some (ps, rest)
  reads_parts no_more n m s rest h high few q = rw (step_stop s (peek rest) h q) refl
  reads_parts (word w ps) n zero s rest h high few q = absurd (omega arith)
  reads_parts (word w ps) n (suc m) s rest (t, e, h) high few q =
      let few2 : count ps ≤ m = omega arith in
      rw (step_edge s t (terminal w) e, reads_parts ps n m t rest h high few2 (quiet_edge s t (terminal w) (peek rest) e q)) refl
  reads_parts (part t ps) n zero s rest h high few q = absurd (omega arith)
  reads_parts (part t ps) zero (suc m) s rest h high few q = absurd (flat t (omega arith))
    where
      flat : (t : Reading) → depth t ≤ 0 → ⊥
      flat (opened f w ps) h = omega arith
      flat (joined f t w ps) h = omega arith
  reads_parts (part t ps) (suc n) (suc m) s rest (p, e, met, ht, h) high few q =
      let few2 : count ps ≤ m = omega arith in
      let high2 : depth_parts ps ≤ suc n = omega arith in
      let high3 : depth t ≤ suc n = omega arith in
      let more = spell_parts ps ++ rest in
      let f = front t p.need more ht (meets_reaches p.need (form_of t) met) in
      let ends = part_ends s p ps rest e h q in
      let tree = whole t n p.need more (λ k. reads_tree t n p.need k more ht (meets_reaches p.need (form_of t) met) high3 (tree_ends t p.need (peek more) met ends)) met ends in
      rw (append_assoc, step_part s (peek (spell t ++ more)) p f.0 e f.1, tree, reads_parts ps (suc n) m p.after rest h high2 few2 (quiet_place s (peek rest) p e q).0) refl

  -- a tree is read, and then what may go on from it
  reads_tree : (t : Reading) (n : ℕ) (l : Need) (m : ℕ) (rest : List Token) → IsWellFormed t → reaches l (form_of t) ≡ true → depth t ≤ suc n → Quiet t (peek rest) → start (all_parts (read_tree n)) l (spine t + m) (spell t ++ rest) ≡ climb (all_parts (read_tree n)) l m t rest
  reads_tree (opened f w ps) n l m rest (o, i, same, h) r high q =
      let high2 : depth_parts ps ≤ n = omega arith in
      let r2 : reaches l o.form ≡ true = rw same at r in
      let tail = tail_read n o.after ps rest (λ k few. reads_parts ps n k o.after rest h high2 few (q o i same)) in
      rw (zero-add, begin_at (all_parts (read_tree n)) l w o (spell_parts ps ++ rest) rest ps (opening_found (terminal w) o l i r2) tail, same) refl
  reads_tree (joined f t w ps) n l m rest (j, i, same, met, ht, h) r high q =
      let high2 : depth_parts ps ≤ n = omega arith in
      let high3 : depth t ≤ suc n = omega arith in
      let r2 : reaches l j.form ≡ true = rw same at r in
      let tail = tail_read n j.after ps rest (λ k few. reads_parts ps n k j.after rest h high2 few (q j i same)) in
      let first = reads_tree t n l (suc m) (w ∷ spell_parts ps ++ rest) ht (reaches_left (terminal w) j l (form_of t) i r2 met) high3 (left_ends t (terminal w) j i met) in
      let next = climb_joint (all_parts (read_tree n)) l m t w j (spell_parts ps ++ rest) rest ps (joint_found (terminal w) j l i r2) met tail in
      rw (append_assoc, same) (count_on first ∙ next)
    where
      count_on : {x : Option (Reading × List Token)} → start (all_parts (read_tree n)) l (spine t + suc m) (spell t ++ (w ∷ spell_parts ps ++ rest)) ≡ x → start (all_parts (read_tree n)) l (suc (spine t) + m) (spell t ++ (w ∷ spell_parts ps ++ rest)) ≡ x
      count_on {x} e = let same : spine t + suc m ≡ suc (spine t) + m = omega arith in rw same at e

-- Each tree that meets its needs is read whole from what it spells, before a token that ends it.
pub complete : (t : Reading) (n : ℕ) (l : Need) (rest : List Token) → IsWellFormed t → Meets l t → depth t ≤ suc n → stops l (peek rest) ≡ true → read_tree (suc n) l (spell t ++ rest) ≡ Some (t, rest)
complete t n l rest h met high s = whole t n l rest (λ k. reads_tree t n l k rest h (meets_reaches l (form_of t) met) high (tree_ends t l (peek rest) met s)) met s
