use Rattle.std.proofs.Common.{◌≡◌, ◌+◌, ◌*◌, List, ◌++◌, length, false, sum_by}
use Rattle.py_tokens.specs.Nesting.{none_open}
use Rattle.py_tokens.specs.Opens.{is_some_open}
use Rattle.py_tokens.specs.Cut.{Cut}
use Rattle.py_tokens.specs.declared.kinds.Piece.{Piece}
use Rattle.py_tokens.proofs.Measure.{bit}
use Rattle.py_tokens.proofs.pieces.pieces.Given as goal

-- what cuts the rest completes the cut
abbrev pub invariant-loop-rest : goal.invariant-loop-rest
invariant-loop-rest l = record {
  cuts : (ps : List Piece) → Cut l.opens l.after_number l.rest ps → Cut none_open false l.text (l.out.items ++ ps);
  whole : sum_by (λ (p : Piece). p.len) l.out.items + length l.rest ≡ length l.text;
}

-- a fault may take no character, but then something was open, and nothing is open after it
abbrev pub decreases-loop-rest : goal.decreases-loop-rest
decreases-loop-rest l = 2 * length l.rest + bit (is_some_open l.opens)
