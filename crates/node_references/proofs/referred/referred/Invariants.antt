use Rattle.std.proofs.Common.{◌≡◌, [], length}
use Rattle.node_references.specs.Numbers.{AreInOrder}
use Rattle.node_references.specs.Numbering.{AreLinked, AreOfNodes, AreKnownBelow}
use Rattle.node_references.proofs.referred.referred.Given as goal

abbrev pub invariant-loop-place : goal.invariant-loop-place
invariant-loop-place l = record {
  long : length l.table ≡ l.place;
  each : l.initial.numbering.list ≡ [] → AreOfNodes l.tree l.scopes.owners l.numbering.list l.place;
  ordered : l.initial.numbering.list ≡ [] → AreInOrder l.tree l.scopes.owners l.numbering.list;
  linked : AreLinked l.numbering.links.keys l.numbering.list;
  known : AreKnownBelow l.tree l.scopes.owners l.numbering.list l.table l.place;
}
