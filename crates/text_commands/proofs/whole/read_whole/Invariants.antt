use Rattle.std.proofs.Common.{◌≡◌, ◌-◌, ◌≤◌, length}
use Rattle.edge_io.specs.Stream.{before}
use Rattle.text_commands.proofs.whole.read_whole.Given as goal

abbrev pub invariant-pieces : goal.invariant-pieces
invariant-pieces g l = record {
  so_far : g.S.Source.left l.fn.source ≡ before l.bytes.items (g.S.Source.left l.source);
  within : length l.bytes.items ≤ 4194305;
  quiet : g.S.Source.faults l.source ≡ g.S.Source.faults l.fn.source;
}

abbrev pub decreases-pieces : goal.decreases-pieces
decreases-pieces g l = 4194305 - length l.bytes.items
