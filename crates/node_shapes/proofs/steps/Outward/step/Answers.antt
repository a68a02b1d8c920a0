use Rattle.std.proofs.Common.{ap, ◌∙◌, subst}
use Rattle.std.specs.Prelude.{slice_get}
use Rattle.node_shapes.specs.Tables.{step_or_none}
use Rattle.node_shapes.proofs.Ways.{IsStep, step-done}
use Rattle.node_shapes.proofs.steps.Outward.step.Goals as goal

pub returns : goal.returns
returns c =
    let found = c.step_at.ensures ∙ ap (λ l. step_or_none (slice_get l c.args.node.0)) c.as_slice.ensures in
    let done = subst (λ a. IsStep a c.args.node c.step_at.result) c.self.view_is (step-done c.self.inside.tree.now c.args.node c.self.inside.steps c.step_at.result c.self.invariant found) in
    record { step = done.step; way = done.way; newer = done.newer }
