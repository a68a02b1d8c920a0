use Rattle.point_graph.proofs.Starting.{starts_none, starts_more}
use Rattle.point_graph.proofs.Ordering.{continues_none, starts_continue}
use Rattle.point_graph.proofs.starts.add_starts.Goals as goal

pub loop-at-init : goal.loop-at-init
loop-at-init c = record {
  steps = starts_none c.args.forms.now c.args.points.now.keys c.args.steps.now;
  listed = continues_none c.args.points.now.keys c.args.steps.now;
}

pub loop-at-preserved : goal.loop-at-preserved
loop-at-preserved c = record {
  steps = starts_more c.args.forms.now c.args.points.now.keys c.loop-at.at c.args.steps.now c.loop-at.steps c.add_start.new.steps
      c.loop-at.invariant.steps c.in_ok-add_start.ensures.steps;
  listed = starts_continue c.args.forms.now c.args.points.now.keys c.loop-at.at c.args.steps.now c.loop-at.steps c.add_start.new.steps
      c.loop-at.invariant.listed c.in_ok-add_start.ensures.listed;
}
