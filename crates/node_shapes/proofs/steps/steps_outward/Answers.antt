use Rattle.std.proofs.Common.{ap, ◌∙◌, arith, length, map, drop}
use Rattle.node_shapes.specs.Items.{first_ids}
use Rattle.node_shapes.specs.Tables.{no_step}
use Rattle.node_shapes.proofs.StepTables.{steps-start, steps-next-any, steps-end, all-dropped}
use Rattle.node_shapes.proofs.IdLists.{length-made}
use Rattle.node_shapes.proofs.steps.steps_outward.Goals as goal

pub loop-number-init : goal.loop-number-init
loop-number-init c =
    let nodes = c.args.tree.now.nodes in
    let made = c.in_ok-steps.ensures ∙ ap (λ n. map no_step (first_ids n)) c.node_count.ensures.count in
    record { rest = steps-start nodes c.in_ok-steps.steps made; count = ap length made ∙ length-made no_step (length nodes) }

pub loop-number-preserved : goal.loop-number-preserved
loop-number-preserved c =
    record {
      rest = steps-next-any c.args.tree.now.nodes c.loop-number.number c.loop-number.steps c.add_steps.new.steps (omega (arith, c.loop-number-test.true, c.node_count-number-end.ensures.count))
          c.add_steps.ensures.puts c.loop-number.invariant.rest;
      count = c.add_steps.ensures.count ∙ c.loop-number.invariant.count;
    }

pub returns : goal.returns
returns c =
    let nodes = c.args.tree.now.nodes in
    steps-end nodes c.loop-number.number (drop c.loop-number.number nodes) c.loop-number.steps
    (all-dropped nodes c.loop-number.number (omega (arith, c.loop-number-test.false, c.node_count-number-end.ensures.count))) c.loop-number.invariant.count c.loop-number.invariant.rest
