-- The physical lines of a text are the one list of lines that joined is the text.
use Rattle.std.proofs.Common.{◌≡◌, ℕ, ◌+◌, ◌<◌, ◌≤◌, ◌≢◌, List, [], ◌∷◌, ◌++◌, map, length, sum, eqb, true, false, not, ◌&&◌, refl, sym, ap, ◌∙◌, arith, inl, inr, ⊎_elim}
use Rattle.std.proofs.lemmas.Bool.{cond_both, cases_eq, or_parts, or_left, and_cases, ne_eqb, eqb-false, eqb-true, not-false, false≢true, or_cases, and_parts, not-true}
use Rattle.std.proofs.lemmas.List.{append-nil, length-append}
use Rattle.std.proofs.lemmas.List.Elements.{All-nil, All-cons, All-tail}
use Rattle.std.proofs.lemmas.List.Sums.{sum_by-cons}
use Rattle.std.specs.List.{concat}
use Rattle.py_base.specs.Lines.{physical_lines, ends_line, begins_with_lf, with_character, IsInLine, HasNoLineEnd, IsLineEnd, IsEnded, AreLines, ArePhysicalLines}

-- ---- joined they are the text

concat-with_character : (c : ℕ) (lines : List (List ℕ)) → concat (with_character c lines) ≡ c ∷ concat lines
concat-with_character c [] = refl
concat-with_character c (line ∷ more) = refl

pub concat-physical_lines : (text : List ℕ) → concat (physical_lines text) ≡ text
unfolding physical_lines
concat-physical_lines [] = refl
concat-physical_lines (c ∷ rest) =
    cond_both (ends_line c rest) ((c ∷ []) ∷ physical_lines rest) (with_character c (physical_lines rest)) (λ lines. concat lines ≡ c ∷ rest)
    (λ e. ap (λ xs. c ∷ xs) (concat-physical_lines rest))
    (λ e. concat-with_character c (physical_lines rest) ∙ ap (λ xs. c ∷ xs) (concat-physical_lines rest))

some-with_character : (c : ℕ) (lines : List (List ℕ)) → 0 < length (with_character c lines)
some-with_character c [] = omega arith
some-with_character c (line ∷ more) = omega arith

length-with_character : (c : ℕ) (lines : List (List ℕ)) → length (with_character c lines) ≤ length lines + 1
length-with_character c [] = omega arith
length-with_character c (line ∷ more) = omega arith

-- ---- each but the last ends in one line end

abbrev first : List (List ℕ) → List ℕ
first [] = []
first (line ∷ more) = line

begins-with_character : (c : ℕ) (lines : List (List ℕ)) → begins_with_lf (first (with_character c lines)) ≡ eqb c 10
begins-with_character c [] = refl
begins-with_character c (line ∷ more) = refl

begins-first : (text : List ℕ) → begins_with_lf (first (physical_lines text)) ≡ begins_with_lf text
unfolding physical_lines
begins-first [] = refl
begins-first (c ∷ rest) =
    cond_both (ends_line c rest) ((c ∷ []) ∷ physical_lines rest) (with_character c (physical_lines rest)) (λ lines. begins_with_lf (first lines) ≡ eqb c 10)
    (λ e. refl) (λ e. begins-with_character c (physical_lines rest))

-- a character that ends a line is a line end
one_character : (c : ℕ) (rest next : List ℕ) → begins_with_lf next ≡ begins_with_lf rest → ends_line c rest ≡ true → IsLineEnd (c ∷ []) next
one_character c rest next same e = ⊎_elim
    (λ lf. inl (ap (λ x. x ∷ []) (eqb-true _ _ lf)))
    (λ cr. let both = and_parts _ _ cr in inr (inr (ap (λ x. x ∷ []) (eqb-true _ _ both.0), same ∙ not-true _ both.1)))
    (or_cases (eqb c 10) (eqb c 13 && not (begins_with_lf rest)) e)

line_before : (c : ℕ) (rest : List ℕ) (lines : List (List ℕ)) → begins_with_lf (first lines) ≡ begins_with_lf rest → AreLines lines → ends_line c rest ≡ true → AreLines ((c ∷ []) ∷ lines)
line_before c rest [] same h e = absurd h
line_before c rest (next ∷ more) same h e = (([], c ∷ [], refl, All-nil _, one_character c rest next same e), h)

character_before : (c : ℕ) (lines : List (List ℕ)) → c ≢ 10 → c ≢ 13 → AreLines lines → AreLines (with_character c lines)
character_before c [] lf cr h = absurd h
character_before c (line ∷ []) lf cr h = All-cons IsInLine c line (lf, cr) h
character_before c (line ∷ next ∷ more) lf cr h =
    let ended = h.0 in
    ((c ∷ ended.0, ended.1, ap (λ xs. c ∷ xs) ended.2, All-cons IsInLine c ended.0 (lf, cr) ended.3, ended.4), h.1)

return_before : (d : ℕ) (lines : List (List ℕ)) → d ≡ 10 → AreLines ((d ∷ []) ∷ lines) → AreLines ((13 ∷ d ∷ []) ∷ lines)
return_before d [] lf h = absurd ((h 0 0 (omega arith)).0 lf)
return_before d (next ∷ more) lf h = (([], 13 ∷ d ∷ [], refl, All-nil _, inr (inl (ap (λ x. 13 ∷ x ∷ []) lf))), h.1)

return_before_lf : (rest : List ℕ) → begins_with_lf rest ≡ true → AreLines (physical_lines rest) → AreLines (with_character 13 (physical_lines rest))
unfolding physical_lines
return_before_lf [] lf h = absurd (false≢true lf)
return_before_lf (d ∷ rest) lf h =
    let ends : ends_line d rest ≡ true = or_left (eqb d 10) (eqb d 13 && not (begins_with_lf rest)) lf in
    rw ends (return_before d (physical_lines rest) (eqb-true _ _ lf) (rw ends at h))

goes_on : (c : ℕ) (rest : List ℕ) → AreLines (physical_lines rest) → ends_line c rest ≡ false → AreLines (with_character c (physical_lines rest))
goes_on c rest h e =
    let parts = or_parts (eqb c 10) (eqb c 13 && not (begins_with_lf rest)) e in
    ⊎_elim
    (λ cr. let lf : begins_with_lf rest ≡ true = ⊎_elim (λ no. absurd (eqb-false _ _ no cr)) (λ some. not-false _ some) (and_cases _ _ parts.1) in
    rw cr (return_before_lf rest lf h))
    (λ other. character_before c (physical_lines rest) (eqb-false _ _ parts.0) other h)
    (cases_eq c 13)

are_lines : (text : List ℕ) → AreLines (physical_lines text)
unfolding physical_lines
are_lines [] = All-nil _
are_lines (c ∷ rest) =
    cond_both (ends_line c rest) ((c ∷ []) ∷ physical_lines rest) (with_character c (physical_lines rest)) (λ lines. AreLines lines)
    (λ e. line_before c rest (physical_lines rest) (begins-first rest) (are_lines rest) e)
    (λ e. goes_on c rest (are_lines rest) e)

pub ArePhysicalLines-physical_lines : (text : List ℕ) → ArePhysicalLines text (physical_lines text)
ArePhysicalLines-physical_lines text = record { joined = concat-physical_lines text; ended = are_lines text }

-- ---- and no other list is

plain_goes_on : (c : ℕ) (rest : List ℕ) → c ≢ 10 → c ≢ 13 → ends_line c rest ≡ false
plain_goes_on c rest lf cr = rw (ne_eqb _ _ lf, ne_eqb _ _ cr) refl

last_line : (line : List ℕ) → HasNoLineEnd line → physical_lines line ≡ line ∷ []
unfolding physical_lines
last_line [] h = refl
last_line (c ∷ line) h =
    let plain = h 0 0 (omega arith) in
    rw (plain_goes_on c line plain.0 plain.1, last_line line (All-tail IsInLine c line h)) refl

end_of_line : (end next rest : List ℕ) → IsLineEnd end next → begins_with_lf rest ≡ begins_with_lf next → physical_lines (end ++ rest) ≡ end ∷ physical_lines rest
unfolding physical_lines
end_of_line end next rest h same = ⊎_elim
    (λ e. rw e refl)
    (λ h. ⊎_elim (λ e. rw e refl) (λ cr. let plain : begins_with_lf rest ≡ false = same ∙ cr.1 in rw (cr.0, plain) refl) h)
    h

line_then : (front end next rest : List ℕ) → HasNoLineEnd front → IsLineEnd end next → begins_with_lf rest ≡ begins_with_lf next → physical_lines ((front ++ end) ++ rest) ≡ (front ++ end) ∷ physical_lines rest
unfolding physical_lines
line_then [] end next rest plain h same = end_of_line end next rest h same
line_then (c ∷ front) end next rest plain h same =
    let here = plain 0 0 (omega arith) in
    rw (plain_goes_on c ((front ++ end) ++ rest) here.0 here.1, line_then front end next rest (All-tail IsInLine c front plain) h same) refl

some_end : (end next : List ℕ) → IsLineEnd end next → 0 < length end
some_end end next h = ⊎_elim
    (λ e. omega (arith, ap length e))
    (λ h. ⊎_elim (λ e. omega (arith, ap length e)) (λ cr. omega (arith, ap length cr.0)) h)
    h

not_empty : (line next : List ℕ) → IsEnded line next → line ≢ []
not_empty line next h e =
    let some = some_end h.1 next h.4 in
    omega (arith, ap length (sym e ∙ h.2), length-append h.0 h.1)

begins_joined : (line : List ℕ) (more : List (List ℕ)) → AreLines (line ∷ more) → begins_with_lf (line ++ concat more) ≡ begins_with_lf line
begins_joined (c ∷ line) more h = refl
begins_joined [] [] h = refl
begins_joined [] (next ∷ more) h = absurd (not_empty [] next h.0 refl)

physical_lines-concat : (lines : List (List ℕ)) → AreLines lines → physical_lines (concat lines) ≡ lines
physical_lines-concat [] h = absurd h
physical_lines-concat (line ∷ []) h = rw append-nil (last_line line h)
physical_lines-concat (line ∷ next ∷ more) h =
    let ended = h.0 in
    rw (ended.2, line_then ended.0 ended.1 next (concat (next ∷ more)) ended.3 ended.4 (begins_joined next more h.1), physical_lines-concat (next ∷ more) h.1) refl

pub ArePhysicalLines-unique : (text : List ℕ) (lines : List (List ℕ)) → ArePhysicalLines text lines → lines ≡ physical_lines text
ArePhysicalLines-unique text lines h = sym (physical_lines-concat lines h.ended) ∙ ap physical_lines h.joined

-- ---- their number and lengths

pub some_line : (text : List ℕ) → 0 < length (physical_lines text)
unfolding physical_lines
some_line [] = omega arith
some_line (c ∷ rest) =
    cond_both (ends_line c rest) ((c ∷ []) ∷ physical_lines rest) (with_character c (physical_lines rest)) (λ lines. 0 < length lines)
    (λ e. omega arith)
    (λ e. some-with_character c (physical_lines rest))

pub few_lines : (text : List ℕ) → length (physical_lines text) ≤ length text + 1
unfolding physical_lines
few_lines [] = omega arith
few_lines (c ∷ rest) =
    cond_both (ends_line c rest) ((c ∷ []) ∷ physical_lines rest) (with_character c (physical_lines rest)) (λ lines. length lines ≤ length (c ∷ rest) + 1)
    (λ e. omega (arith, few_lines rest))
    (λ e. omega (arith, few_lines rest, length-with_character c (physical_lines rest)))

length-concat : (lines : List (List ℕ)) → sum (map length lines) ≡ length (concat lines)
length-concat [] = refl
length-concat (line ∷ more) = omega (arith, sum_by-cons (λ x. x) (length line) (map length more), length-append line (concat more), length-concat more)

pub sum-lengths : (text : List ℕ) → sum (map length (physical_lines text)) ≡ length text
sum-lengths text = length-concat (physical_lines text) ∙ ap length (concat-physical_lines text)

pub concat_physical : (text : List ℕ) → concat (physical_lines text) ≡ text
concat_physical = concat-physical_lines
