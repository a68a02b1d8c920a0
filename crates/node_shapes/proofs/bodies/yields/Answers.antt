use Rattle.std.proofs.Common.{ap, ◌∙◌, arith, length, map}
use Rattle.node_shapes.specs.Items.{first_ids}
use Rattle.node_shapes.specs.Tables.{no_mark}
use Rattle.node_shapes.proofs.IdLists.{length-made}
use Rattle.node_shapes.proofs.Marks.{marks-start, marks-next, marks-end}
use Rattle.node_shapes.proofs.bodies.yields.Goals as goal

pub loop-number-init : goal.loop-number-init
loop-number-init c =
    let nodes = c.args.outward.now.nodes in
    let many = c.node_count-count.ensures.count ∙ ap (λ a. length a.nodes) c.tree.ensures in
    let made = c.in_ok-marks.ensures ∙ ap (λ n. map no_mark (first_ids n)) many in
    record { marked = marks-start nodes c.in_ok-marks.marks made; count = ap length made ∙ length-made no_mark (length nodes) }

pub loop-number-preserved : goal.loop-number-preserved
loop-number-preserved c =
    record {
      marked = marks-next c.args.outward.now.nodes c.loop-number.number c.yielding.result c.loop-number.marks c.mark.new.marks c.yielding.ensures c.mark.ensures.marks c.loop-number.invariant.marked;
      count = c.mark.ensures.count ∙ c.loop-number.invariant.count;
    }

pub returns : goal.returns
returns c =
    let many = c.node_count-count.ensures.count ∙ ap (λ a. length a.nodes) c.tree.ensures in
    marks-end c.args.outward.now.nodes c.loop-number.number c.loop-number.marks (omega (arith, many, c.loop-number-test.false)) c.loop-number.invariant.count c.loop-number.invariant.marked
