use Rattle.std.proofs.Common.{refl, ◌∙◌, arith, get_or}
use Rattle.std.proofs.lemmas.Option.{slice_get-get_or}
use Rattle.py_scopes.proofs.Outward.{places-start, places-next, places-end, all-dropped}
use Rattle.py_scopes.proofs.way.add_steps.Goals as goal

pub loop-place-init : goal.loop-place-init
loop-place-init c = record {
  rest = places-start c.args.tree.now.nodes c.args.at.0 c.node-node.result.now c.as_slice-parts.result.now c.args.steps.now c.as_slice-parts.ensures;
  count = refl;
}

pub loop-place-preserved : goal.loop-place-preserved
loop-place-preserved c =
    let parts = c.as_slice-parts.result.now in
    record {
      rest = places-next c.args.tree.now.nodes c.args.at.0 c.node-node.result.now c.loop-place.place parts (get_or parts c.loop-place.place (record { 0 = 0 })) c.step_from-step.result
          c.args.steps.now c.loop-place.steps c.add_step.new.steps (slice_get-get_or parts c.loop-place.place (record { 0 = 0 }) (omega arith)) c.step_from-step.ensures c.add_step.ensures.puts c.loop-place.invariant.rest;
      count = c.add_step.ensures.count ∙ c.loop-place.invariant.count;
    }

pub returns-clause-puts : goal.returns-clause-puts
returns-clause-puts c =
    places-end c.args.tree.now.nodes c.args.at.0 c.node-node.result.now c.loop-place.place _ c.args.steps.now c.loop-place.steps (all-dropped c.as_slice-parts.result.now c.loop-place.place (omega arith))
    c.node-node.ensures.value c.loop-place.invariant.rest
