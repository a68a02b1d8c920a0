use Rattle.std.proofs.Common.{◌≡◌, ◌*◌, ◌≤◌, drop}
use Rattle.py_tokens.specs.Width.{width}
use Rattle.py_tokens.proofs.lines.width.Given as goal

abbrev pub invariant-loop-c : goal.invariant-loop-c
invariant-loop-c l = record {
  small : l.column ≤ 8 * l.c-index;
  same : width l.column (drop l.c-index l.text) ≡ width 0 l.text;
}
