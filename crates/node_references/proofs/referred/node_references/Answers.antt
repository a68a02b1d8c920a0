use Rattle.std.proofs.Common.{◌∙◌, ap, map}
use Rattle.node_references.specs.Numbering.{prefix_of}
use Rattle.node_references.proofs.Links.{prefixes_right}
use Rattle.node_references.proofs.referred.node_references.Goals as goal

pub returns : goal.returns
returns c = record {
  apart = c.in_ok-numbers.ensures.linked.apart;
  prefixes = prefixes_right c.referred.new.numbering.links.keys c.referred.new.numbering.list c.in_ok-prefixes.prefixes c.in_ok-numbers.ensures.linked
      (c.in_ok-prefixes.ensures ∙ ap (map prefix_of) c.as_slice.ensures.keys);
  each = c.in_ok-numbers.ensures.each c.new-2.ensures;
  ordered = c.in_ok-numbers.ensures.ordered c.new-2.ensures;
  long = c.in_ok-numbers.ensures.long;
  exact = c.in_ok-numbers.ensures.known;
}
