use Rattle.std.proofs.Common.{◌≡◌, ◌⊎◌, ◌-◌, true}
use Rattle.edge_io.specs.Stream.{IsUsedUp}
use Rattle.edge_io.proofs.Readings.{SoFar}
use Rattle.edge_io.proofs.reader.LineReader.read_line.Given as goal

abbrev pub invariant-loop-moved : goal.invariant-loop-moved
invariant-loop-moved g l = record {
  far : SoFar l.line l.initial.self l.self (g.S.Source.left l.initial.source) (g.S.Source.left l.source) l.initial.source l.source;
  ends : ((l.source ≡ l.initial.source) × (l.self.at_end ≡ l.initial.self.at_end)) ⊎ (g.S.Source.ended l.source ≡ l.self.at_end);
  used_up : (l.initial.self.at_end ≡ true → IsUsedUp (g.S.Source.left l.initial.source)) → l.self.at_end ≡ true → IsUsedUp (g.S.Source.left l.source);
  quiet : g.S.Source.faults l.source ≡ g.S.Source.faults l.initial.source;
}

abbrev pub decreases-loop-moved : goal.decreases-loop-moved
decreases-loop-moved g l = l.self.most - l.self.taken
