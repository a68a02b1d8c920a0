-- The bytes that wait in a buffer, and the run of them that goes to a line.
use Rattle.std.proofs.Common.{◌≡◌, ◌∙◌, ◌+◌, ◌-◌, ◌≤◌, ℕ, Bool, true, false, not, cond, Some, None, List, ◌∷◌, ◌++◌, [], length, take, drop, ltb, refl, ap, sym, arith}
use Rattle.std.proofs.lemmas.Bool.{ltb-true, ltb-false}
use Rattle.std.proofs.lemmas.List.{append-nil, drop-take, drop_all, take_all, length-drop, length-take-le}
use Rattle.std.proofs.lemmas.List.Sums.{prefix_len-le-length}
use Rattle.std.specs.Int.{from_bool}
use Rattle.std.specs.List.{position, position_or_len}
use Rattle.std.specs.Option.{unwrap_or}
use Rattle.edge_io.specs.declared.line.Line.{Line}
use Rattle.edge_io.specs.Line.{is_lf, IsLineOf}
use Rattle.edge_io.specs.Reading.{Reading}
use Rattle.edge_io.specs.Buffer.{IsKept, Moves}
use Rattle.edge_io.proofs.Lines.{run_plain, run_split}

position-le-length : (test : ℕ → Bool) (xs : List ℕ) → position_or_len test xs ≤ length xs
position-le-length test xs = prefix_len-le-length (λ x. not (test x)) xs

or_len : (found : Bool) (at len : ℕ) → ltb at len ≡ found → at ≤ len → unwrap_or (cond (ltb at len) (Some at) None) len ≡ at
or_len true at len is within = rw is refl
or_len false at len is within = (let past : len ≤ at = ltb-false at len is in rw is (omega arith))

-- the place of the first that passes, or else the length
pub unwrap_or-position : (test : ℕ → Bool) (xs : List ℕ) → unwrap_or (position test xs) (length xs) ≡ position_or_len test xs
unwrap_or-position test xs = or_len (ltb (position_or_len test xs) (length xs)) (position_or_len test xs) (length xs) refl (position-le-length test xs)

-- the bytes from `at` up to `len`
pub waiting_range : (buf : List ℕ) (at len : ℕ) → at ≤ len → drop at (take len buf) ≡ take (len - at) (drop at buf)
waiting_range buf at len ordered =
    let e : len ≡ at + (len - at) = omega arith in
    ap (λ n. drop at (take n buf)) e ∙ drop-take at (len - at) buf

lf_behind : (waiting : List ℕ) (run : ℕ) → run ≡ position_or_len is_lf waiting → ltb run (length waiting) ≡ true → waiting ≡ take run waiting ++ 10 ∷ drop (run + 1) waiting
lf_behind waiting run first some = rw first (run_split waiting (ltb-true (position_or_len is_lf waiting) (length waiting) (rw first at some)))

-- a run went to the line, and an LF was dropped where one stood behind it
pub moves_run : (whole : Bool) (line longer : Line) (old new : Reading) (waiting : List ℕ) (run skip : ℕ) → run ≡ position_or_len is_lf waiting → ltb run (length waiting) ≡ whole → old.waiting ≡ waiting
    → ((bytes : List ℕ) → IsLineOf line bytes → IsLineOf longer (bytes ++ take run waiting)) → skip ≡ run + from_bool whole → new.waiting ≡ drop skip waiting → IsKept old new
    → Moves line longer whole old new
moves_run true line longer old new waiting run skip first some was joined skipped is kept = record {
  run = take run waiting;
  plain = rw first (run_plain waiting);
  joined = joined;
  split = was ∙ (lf_behind waiting run first some ∙ ap (λ xs. take run waiting ++ 10 ∷ xs) (sym (is ∙ ap (λ n. drop n waiting) skipped)));
  rest = λ no. (let e : true ≡ false = no in cc);
  kept = kept;
}
moves_run false line longer old new waiting run skip first some was joined skipped is kept = record {
  run = take run waiting;
  plain = rw first (run_plain waiting);
  joined = joined;
  split = was ∙ (sym (take_all run waiting (ltb-false run (length waiting) some)) ∙ sym (append-nil (take run waiting)));
  rest = λ _. is ∙ drop_all skip waiting (omega (arith, ltb-false run (length waiting) some));
  kept = kept;
}

-- where nothing waits, the buffer is used up
pub nothing_waits : (buf : List ℕ) (at len : ℕ) → at ≤ len → len ≤ length buf → drop at (take len buf) ≡ [] → at ≡ len
nothing_waits buf at len ordered fits none =
    let empty : length (drop at (take len buf)) ≡ 0 = ap length none in omega (arith, length-drop at (take len buf), length-take-le len buf fits)

pub used_up : (buf : List ℕ) (at len : ℕ) → at ≡ len → len ≤ length buf → drop at (take len buf) ≡ []
used_up buf at len same fits = drop_all at (take len buf) (omega (arith, length-take-le len buf fits))
