use Rattle.std.proofs.Common.{◌≡◌, ◌∙◌, ◌↔◌, ◌++◌, ap, List, sym, subst}
use Rattle.flow_rows.specs.declared.edge.Edge.{Edge}
use Rattle.flow_rows.specs.Flow.{Has, IsEdgeOf}
use Rattle.flow_rows.specs.Edges.{graph_edges}
use Rattle.flow_rows.proofs.Flowing.{graph_listed}
use Rattle.flow_rows.proofs.emit.edges_of.Goals as goal

pub returns-clause-exact : goal.returns-clause-exact
returns-clause-exact c = λ e.
    let forms = c.args.forms.now in
    let ends = c.args.ends.now in
    let all : c.emit.new.edges ≡ graph_edges forms ends c.args.root = c.in_ok-emit.ensures ∙ ap (λ (l : List Edge). l ++ graph_edges forms ends c.args.root) c.new-edges.ensures in
    subst (λ (l : List Edge). Has l e ↔ IsEdgeOf forms ends c.args.root e) (sym all) (graph_listed forms ends c.args.root e)
