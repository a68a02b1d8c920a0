use Rattle.std.proofs.Common.{◌≡◌, ◌++◌, drop, map}
use Rattle.node_references.specs.Numbering.{prefix_of}
use Rattle.node_references.proofs.numbering.prefixes.Given as goal

abbrev pub invariant-loop-link : goal.invariant-loop-link
invariant-loop-link l = l.list ++ map prefix_of (drop l.link-index l.links) ≡ map prefix_of l.links
