use Rattle.std.proofs.Common.{sym, ap, ◌∙◌}
use Rattle.node_shapes.specs.Outward.{outward}
use Rattle.node_shapes.specs.Tables.{use_by}
use Rattle.node_shapes.specs.Uses.{deciding}
use Rattle.node_shapes.proofs.Ways.{use-step}
use Rattle.node_shapes.proofs.steps.Outward.deciding_use.Goals as goal

pub returns : goal.returns
returns c = c.use_by.ensures ∙ ap use_by c.deciding_step.ensures ∙ sym (use-step (deciding (outward c.args.self.now.nodes c.args.node)))
