use Rattle.std.proofs.Common.{◌≡◌, ◌+◌, ◌≤◌, drop, length, filter_map, sum_by, []}
use Rattle.std.specs.List.{All}
use Rattle.py_tokens.specs.Lines.{IsWithin, placed, mark, line_of, groups}
use Rattle.py_tokens.specs.BlockStack.{told}
use Rattle.py_tokens.specs.declared.kinds.Piece.{Piece}
use Rattle.py_tokens.proofs.lines.lines_of.Given as goal

abbrev pub invariant-loop-piece : goal.invariant-loop-piece
invariant-loop-piece l = record {
  told : told l.text l.lines.done l.lines.blocks.items l.lines.start l.lines.line.items l.at (placed l.at (drop l.piece-index l.pieces)) ≡ mark [] (filter_map (line_of l.text) (groups l.fn.start (placed l.fn.start l.pieces)));
  within : All (IsWithin l.lines.start (length l.text)) l.lines.line.items;
  start : l.lines.start ≤ l.at;
  room : l.at + sum_by (λ (p : Piece). p.len) (drop l.piece-index l.pieces) ≤ length l.text;
}
