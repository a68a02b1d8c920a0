use Rattle.std.proofs.Common.{◌∙◌, subst}
use Rattle.point_graph.specs.Graph.{IsGraph}
use Rattle.flow_graph.proofs.graph.build.Goals as goal

pub returns : goal.returns
returns c = record {
  points = subst (λ marks. IsGraph c.args.tree.now marks c.in_ok-points.points) (c.as_slice-2.ensures ∙ c.in_ok-casts.ensures) c.in_ok-points.ensures;
  references = c.in_ok-references.ensures.right;
}
