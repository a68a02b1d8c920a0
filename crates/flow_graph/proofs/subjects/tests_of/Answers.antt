use Rattle.std.proofs.Common.{ℕ, ap, ◌∙◌}
use Rattle.flow_graph.specs.Numbering.{test_by, tested_entry}
use Rattle.flow_graph.proofs.Marking.{table_more}
use Rattle.flow_graph.proofs.subjects.tests_of.Goals as goal

pub loop-place-preserved : goal.loop-place-preserved
loop-place-preserved c = table_more (λ (i : ℕ). test_by c.args.tree.now c.args.marks.now.run c.args.marks.now.bound c.args.subjects.now c.args.table.now (record { 0 = i }))
    c.loop-place.place c.loop-place.list c.push.new.self c.resolved.result c.loop-place.invariant c.in_ok-push.ensures.ok
    (c.resolved.ensures ∙ ap (λ t. tested_entry c.args.table.now t) c.tests_at-tests.ensures)
