use Rattle.std.proofs.Common.{sym, ap, ◌∙◌}
use Rattle.py_base.specs.Nodes.{kind_at, parts_at}
use Rattle.std.specs.List.{list_all}
use Rattle.node_shapes.specs.Bodies.{is_stub_at}
use Rattle.node_shapes.specs.Statements.{flat, listed_statements}
use Rattle.node_shapes.proofs.Members.{all-flat}
use Rattle.node_shapes.proofs.bodies.is_only_stubs.Goals as goal

pub returns : goal.returns
returns c =
    let nodes = c.args.tree.now.nodes in
    let parts = listed_statements (kind_at nodes c.args.body) (parts_at nodes c.args.body) in
    c.are_stub_lines.ensures ∙ ap (list_all (λ l. list_all (is_stub_at nodes) (flat nodes l))) c.statement_parts.ensures ∙ sym (all-flat (is_stub_at nodes) (flat nodes) parts)
