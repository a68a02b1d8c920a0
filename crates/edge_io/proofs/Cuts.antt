-- The lines handed out stay the first lines of the bytes taken, as a call takes more of them.
use Rattle.std.proofs.Common.{◌≡◌, ◌≢◌, ◌∙◌, ◌+◌, ◌≤◌, ℕ, Bool, true, false, List, [], ◌∷◌, ◌++◌, length, refl, ap, sym, subst, arith, append_assoc, length-append}
use Rattle.std.proofs.lemmas.List.{append-nil}
use Rattle.edge_io.specs.Line.{IsLine, lines_of, ended}
use Rattle.edge_io.specs.Reading.{Reading}
use Rattle.edge_io.specs.Cutting.{Follows, IsCut}
use Rattle.edge_io.proofs.Lines.{lines_of-line, lines_of-begun, lines_of-last}

goes : (a e : Bool) (more rest : List ℕ) → (a ≡ true → more ≡ []) → Follows a e rest → Follows a e (more ++ rest)
goes true e more rest still (is, none) = (is, rw (still refl, none) refl)
goes false e more rest still follows = tt

-- what follows the bytes of a call follows those before it
cut_more : (a : Reading) (bytes : List ℕ) (given : List (List ℕ)) (e : Bool) (more rest : List ℕ) → (a.at_end ≡ true → more ≡ []) → IsCut lines_of a bytes given → Follows a.at_end e rest
    → lines_of e ((bytes ++ more) ++ rest) ≡ given ++ lines_of e ((a.waiting ++ more) ++ rest)
cut_more a bytes given e more rest still was follows =
    ap (lines_of e) (append_assoc bytes more rest)
    ∙ (was.cut e (more ++ rest) (goes a.at_end e more rest still follows) ∙ ap (λ xs. given ++ lines_of e xs) (sym (append_assoc a.waiting more rest)))

-- an LF ended the line
pub cut_ended : (line more : List ℕ) (a b : Reading) (bytes : List ℕ) (given : List (List ℕ)) → IsLine line → (a.at_end ≡ true → more ≡ []) → a.waiting ++ more ≡ ended line ++ b.waiting → b.at_end ≡ a.at_end
    → b.taken ≡ a.taken + length more → IsCut lines_of a bytes given → IsCut lines_of b (bytes ++ more) (given ++ line ∷ [])
cut_ended line more a b bytes given plain still joined at_end taken was = record {
  counted = (let n = was.counted in omega (arith, length-append bytes more));
  few = (let n = was.few in let e : length a.waiting + length more ≡ length (ended line) + length b.waiting = sym (length-append a.waiting more) ∙ (ap length joined ∙ length-append (ended line) b.waiting) in
      omega (arith, length-append bytes more, length-append given (line ∷ []), length-append line (10 ∷ [])));
  cut = λ e rest follows.
      cut_more a bytes given e more rest still was (subst (λ end. Follows end e rest) at_end follows)
      ∙ (ap (λ xs. given ++ lines_of e (xs ++ rest)) joined
      ∙ (ap (λ xs. given ++ lines_of e xs) (append_assoc (ended line) b.waiting rest ∙ append_assoc line (10 ∷ []) (b.waiting ++ rest))
      ∙ (ap (λ ls. given ++ ls) (lines_of-line e line (b.waiting ++ rest) plain) ∙ sym (append_assoc given (line ∷ []) (lines_of e (b.waiting ++ rest))))));
}

ends : (end : Bool) → Follows end true []
ends true = (refl, refl)
ends false = tt

some_bytes : (xs : List ℕ) → xs ≢ [] → 1 ≤ length xs
some_bytes [] isnt = absurd (isnt refl)
some_bytes (x ∷ xs) isnt = omega arith

-- the end of the input ended it
pub cut_last : (line more : List ℕ) (a b : Reading) (bytes : List ℕ) (given : List (List ℕ)) → IsLine line → line ≢ [] → (a.at_end ≡ true → more ≡ []) → a.waiting ++ more ≡ line → b.waiting ≡ [] → b.at_end ≡ true
    → b.taken ≡ a.taken + length more → IsCut lines_of a bytes given → IsCut lines_of b (bytes ++ more) (given ++ line ∷ [])
cut_last line more a b bytes given plain some still joined nothing at_end taken was = record {
  counted = (let n = was.counted in omega (arith, length-append bytes more));
  few = (let n = was.few in let e : length a.waiting + length more ≡ length line = sym (length-append a.waiting more) ∙ ap length joined in let none : length b.waiting ≡ 0 = ap length nothing in
      omega (arith, length-append bytes more, length-append given (line ∷ []), some_bytes line some));
  cut = λ e rest follows. (let f : (e ≡ true) × (rest ≡ []) = subst (λ end. Follows end e rest) at_end follows in rw (f.0, f.1, nothing) whole);
}
  where
    whole : lines_of true ((bytes ++ more) ++ []) ≡ (given ++ line ∷ []) ++ lines_of true []
    whole =
        cut_more a bytes given true more [] still was (ends a.at_end)
        ∙ (ap (λ xs. given ++ lines_of true xs) (append-nil (a.waiting ++ more) ∙ joined)
        ∙ (ap (λ ls. given ++ ls) (lines_of-last line plain some) ∙ sym (append-nil (given ++ line ∷ []))))

-- the input ended, and there is no further line
pub cut_end : (more : List ℕ) (a : Reading) (bytes : List ℕ) (given : List (List ℕ)) → (a.at_end ≡ true → more ≡ []) → a.waiting ++ more ≡ [] → IsCut lines_of a bytes given → lines_of true (bytes ++ more) ≡ given
cut_end more a bytes given still joined was =
    ap (lines_of true) (sym (append-nil (bytes ++ more)))
    ∙ (cut_more a bytes given true more [] still was (ends a.at_end) ∙ (ap (λ xs. given ++ lines_of true (xs ++ [])) joined ∙ append-nil given))

-- no whole line waits, and the input goes on
pub cut_begun : (more : List ℕ) (a : Reading) (bytes : List ℕ) (given : List (List ℕ)) → a.at_end ≡ false → IsLine (a.waiting ++ more) → IsCut lines_of a bytes given → lines_of false (bytes ++ more) ≡ given
cut_begun more a bytes given going plain was =
    was.cut false more (subst (λ end. Follows end false more) (sym going) tt) ∙ (ap (λ ls. given ++ ls) (lines_of-begun (a.waiting ++ more) plain) ∙ append-nil given)

-- a call broke off
pub cut_broken : (more : List ℕ) (a : Reading) (at_end : Bool) (bytes : List ℕ) (given : List (List ℕ)) → (a.at_end ≡ true → (at_end ≡ true) × (more ≡ [])) → IsCut lines_of a bytes given
    → (others : List (List ℕ)) × (lines_of at_end (bytes ++ more) ≡ given ++ others)
cut_broken more a at_end bytes given still was = (lines_of at_end (a.waiting ++ more), was.cut at_end more (follows a.at_end still))
  where
    follows : (end : Bool) → (end ≡ true → (at_end ≡ true) × (more ≡ [])) → Follows end at_end more
    follows true is = is refl
    follows false is = tt

-- nothing was taken yet
pub cut_nothing : (a : Reading) → a.waiting ≡ [] → a.taken ≡ 0 → IsCut lines_of a [] []
cut_nothing a waiting taken = record { counted = taken; few = rw waiting (omega arith); cut = λ e more _. rw waiting refl }
