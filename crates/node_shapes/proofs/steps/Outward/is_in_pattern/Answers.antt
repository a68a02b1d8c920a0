use Rattle.std.proofs.Common.{sym, ap, ◌∙◌}
use Rattle.node_shapes.specs.Outward.{outward}
use Rattle.node_shapes.specs.Tables.{is_pattern_step}
use Rattle.node_shapes.specs.Uses.{deciding}
use Rattle.node_shapes.proofs.Ways.{pattern-step}
use Rattle.node_shapes.proofs.steps.Outward.is_in_pattern.Goals as goal

pub returns : goal.returns
returns c = c.is_pattern.ensures ∙ ap is_pattern_step c.deciding_step.ensures ∙ sym (pattern-step (deciding (outward c.args.self.now.nodes c.args.node)))
