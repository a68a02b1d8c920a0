use Rattle.std.proofs.Common.{◌≡◌, map}
use Rattle.std.specs.List.{range_with_len}
use Rattle.py_blocks.specs.Innermost.{open_at}
use Rattle.py_blocks.specs.Faults.{seen_at}
use Rattle.py_blocks.proofs.nest.lines_seen.Given as goal

abbrev pub invariant-loop-at : goal.invariant-loop-at
invariant-loop-at l =
    record {
      seen : l.seen.items ≡ map (seen_at l.lines) (range_with_len 0 l.at);
      blocks : l.blocks.items ≡ open_at l.lines l.at;
    }
