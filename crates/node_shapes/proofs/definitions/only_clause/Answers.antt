use Rattle.std.proofs.Common.{sym, ◌∙◌, length}
use Rattle.py_base.specs.Nodes.{parts_at}
use Rattle.node_shapes.specs.Clauses.{clause}
use Rattle.node_shapes.specs.Definitions.{only_clause}
use Rattle.node_shapes.proofs.Searching.{found, passed}
use Rattle.node_shapes.proofs.definitions.only_clause.Goals as goal
use Rattle.node_shapes.proofs.definitions.only_clause.Goals.{in-Some+else-is_some, in_default}

pub loop-part-preserved : goal.loop-part-preserved
loop-part-preserved c =
    let nodes = c.args.tree.now.nodes in
    let n = c.args.statement in
    let parts = length (parts_at nodes n) in
    let within = rw c.parts-part-end.ensures at c.loop-part-test.true in
    elim c.match-clause_at.branch [
      | in-Some+else-is_some w ↦ rw w.only-is (found (clause nodes n) c.loop-part.part parts w.in-Some.clause c.loop-part.only (only_clause nodes n) within (sym w.is_some.ensures ∙ w.if-is_some.false) (sym c.clause_at.ensures ∙ w.in-Some.is) c.loop-part.invariant)
      | in_default w ↦ rw w.only-is (passed (clause nodes n) c.loop-part.part parts c.loop-part.only (only_clause nodes n) within (sym c.clause_at.ensures ∙ w.in_default.is) c.loop-part.invariant)
    ]
