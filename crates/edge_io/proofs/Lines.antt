-- Laws of lines.
use Rattle.std.proofs.Common.{◌≡◌, ◌≢◌, ◌∙◌, ◌+◌, ◌<◌, ℕ, Bool, true, false, cond, ◌||◌, List, [], ◌∷◌, ◌++◌, length, get_or, take, drop, refl, ap, sym}
use Rattle.std.proofs.Math.Numerals.{one-add}
use Rattle.std.proofs.lemmas.Bool.{eqb-true}
use Rattle.std.proofs.lemmas.List.Sums.{split_at_first, passes_at_first}
use Rattle.std.specs.List.{list_any, position_or_len, slice_split, onto_first}
use Rattle.edge_io.specs.Line.{is_lf, IsLine, last_line, lines_in, lines_of}

-- an `or` that is false
both_false : (a b : Bool) → (a || b) ≡ false → (a ≡ false) × (b ≡ false)
both_false true b e = cc
both_false false b e = (refl, e)

pub IsLine-append : (xs ys : List ℕ) → IsLine xs → IsLine ys → IsLine (xs ++ ys)
IsLine-append [] ys plain more = more
IsLine-append (x ∷ xs) ys plain more =
    let p = both_false (is_lf x) (list_any is_lf xs) plain in
    rw p.0 (IsLine-append xs ys p.1 more)

-- an LF is in no line
pub lf_in_none : (xs ys : List ℕ) → IsLine (xs ++ 10 ∷ ys) → ⊥
lf_in_none [] ys plain = cc
lf_in_none (x ∷ xs) ys plain = lf_in_none xs ys (both_false (is_lf x) (list_any is_lf (xs ++ 10 ∷ ys)) plain).1

slice_split-line : (line rest : List ℕ) → IsLine line → slice_split is_lf (line ++ 10 ∷ rest) ≡ line ∷ slice_split is_lf rest
slice_split-line [] rest plain = refl
slice_split-line (x ∷ xs) rest plain =
    let p = both_false (is_lf x) (list_any is_lf xs) plain in
    rw p.0 (ap (onto_first x) (slice_split-line xs rest p.1))

slice_split-rest : (rest : List ℕ) → IsLine rest → slice_split is_lf rest ≡ rest ∷ []
slice_split-rest [] plain = refl
slice_split-rest (x ∷ xs) plain =
    let p = both_false (is_lf x) (list_any is_lf xs) plain in
    rw p.0 (ap (onto_first x) (slice_split-rest xs p.1))

onto_first-some : (x : ℕ) (parts : List (List ℕ)) → (first : List ℕ) × (others : List (List ℕ)) × (onto_first x parts ≡ first ∷ others)
onto_first-some x [] = (x ∷ [], [], refl)
onto_first-some x (part ∷ parts) = (x ∷ part, parts, refl)

slice_split-some : (bytes : List ℕ) → (first : List ℕ) × (others : List (List ℕ)) × (slice_split is_lf bytes ≡ first ∷ others)
slice_split-some [] = ([], [], refl)
slice_split-some (x ∷ xs) =
    elim (is_lf x) as (λ b. (first : List ℕ) × (others : List (List ℕ)) × (cond b ([] ∷ slice_split is_lf xs) (onto_first x (slice_split is_lf xs)) ≡ first ∷ others)) [
      | true ↦ ([], slice_split is_lf xs, refl)
      | false ↦ onto_first-some x (slice_split is_lf xs)
    ]

-- a line that an LF ends is the first
pub lines_of-line : (at_end : Bool) (line rest : List ℕ) → IsLine line → lines_of at_end (line ++ 10 ∷ rest) ≡ line ∷ lines_of at_end rest
lines_of-line at_end line rest plain =
    let some = slice_split-some rest in
    ap (lines_in at_end) (slice_split-line line rest plain)
    ∙ (ap (λ parts. lines_in at_end (line ∷ parts)) some.2 ∙ ap (λ parts. line ∷ lines_in at_end parts) (sym some.2))

-- bytes without an LF are at most a last line
pub lines_of-rest : (at_end : Bool) (rest : List ℕ) → IsLine rest → lines_of at_end rest ≡ last_line at_end rest
lines_of-rest at_end rest plain = ap (lines_in at_end) (slice_split-rest rest plain)

-- while the input goes on, they are none
pub lines_of-begun : (rest : List ℕ) → IsLine rest → lines_of false rest ≡ []
lines_of-begun [] plain = refl
lines_of-begun (x ∷ xs) plain = lines_of-rest false (x ∷ xs) plain

-- once it has ended, they are one, if there is a byte
pub lines_of-last : (rest : List ℕ) → IsLine rest → rest ≢ [] → lines_of true rest ≡ rest ∷ []
lines_of-last [] plain some = absurd (some refl)
lines_of-last (x ∷ xs) plain some = lines_of-rest true (x ∷ xs) plain

-- a part that an LF ended is a line
ended_first : (parts : List (List ℕ)) (x : ℕ) (part : List ℕ) → lines_in false ((x ∷ part) ∷ parts) ≡ [] → lines_in false (part ∷ parts) ≡ []
ended_first [] x [] none = refl
ended_first [] x (y ∷ part) none = refl
ended_first (next ∷ parts) x part none = cc

-- bytes that have no whole line have no LF
pub plain_if_none : (bytes : List ℕ) → lines_of false bytes ≡ [] → IsLine bytes
plain_if_none [] none = refl
plain_if_none (x ∷ xs) none =
    let (first, others, is) = slice_split-some xs in
    go (is_lf x) refl first others is (none_by (is_lf x) refl none) (λ h. plain_if_none xs h)
  where
    none_by : (b : Bool) → is_lf x ≡ b → lines_of false (x ∷ xs) ≡ [] → lines_in false (cond b ([] ∷ slice_split is_lf xs) (onto_first x (slice_split is_lf xs))) ≡ []
    none_by b e h = rw (← e) h

    go : (b : Bool) → is_lf x ≡ b → (first : List ℕ) (others : List (List ℕ)) → slice_split is_lf xs ≡ first ∷ others → lines_in false (cond b ([] ∷ slice_split is_lf xs) (onto_first x (slice_split is_lf xs))) ≡ [] → (lines_of false xs ≡ [] → IsLine xs) → IsLine (x ∷ xs)
    go true e first others is h plain = (let k : lines_in false ([] ∷ first ∷ others) ≡ [] = rw is at h in cc)
    go false e first others is h plain =
        let k : lines_in false ((x ∷ first) ∷ others) ≡ [] = rw is at h in
        rw e (plain (ap (lines_in false) is ∙ ended_first others x first k))

run_plain_from : (b : Bool) (x : ℕ) (xs : List ℕ) → is_lf x ≡ b → IsLine (take (position_or_len is_lf xs) xs) → IsLine (take (position_or_len is_lf (x ∷ xs)) (x ∷ xs))
run_plain_from true x xs is plain = rw is refl
run_plain_from false x xs is plain = rw (is, one-add) (rw is plain)

-- the bytes in front of the first LF have none
pub run_plain : (bytes : List ℕ) → IsLine (take (position_or_len is_lf bytes) bytes)
run_plain [] = refl
run_plain (x ∷ xs) = run_plain_from (is_lf x) x xs refl (run_plain xs)

-- the run up to the first LF, that LF and what follows it
pub run_split : (bytes : List ℕ) → position_or_len is_lf bytes < length bytes → bytes ≡ take (position_or_len is_lf bytes) bytes ++ 10 ∷ drop (position_or_len is_lf bytes + 1) bytes
run_split bytes some =
    let lf : get_or bytes (position_or_len is_lf bytes) 0 ≡ 10 = eqb-true _ _ (passes_at_first is_lf bytes 0 some) in
    split_at_first is_lf bytes 0 some ∙ ap (λ byte. take (position_or_len is_lf bytes) bytes ++ byte ∷ drop (position_or_len is_lf bytes + 1) bytes) lf
