use Rattle.point_graph.proofs.Drafts.{draft_none, draft_new, draft_more}
use Rattle.point_graph.proofs.members.all_graphs.Goals as goal

pub loop-at-init : goal.loop-at-init
loop-at-init c = rw (c.requires.points, c.requires.homes, c.requires.steps, c.new-graphs.ensures) (draft_none c.args.forms.now c.args.ends.now)

pub graph_at-requires-clause-new : goal.graph_at-requires-clause-new
graph_at-requires-clause-new c = draft_new c.args.forms.now c.args.ends.now c.loop-at.at c.loop-at.numbering.points.keys
    c.loop-at.numbering.homes c.loop-at.steps c.loop-at.graphs c.loop-at.invariant

pub loop-at-preserved : goal.loop-at-preserved
loop-at-preserved c = draft_more c.args.forms.now c.args.ends.now c.loop-at.at c.loop-at.numbering.points.keys c.graph_at.new.numbering.points.keys
    c.loop-at.numbering.homes c.graph_at.new.numbering.homes c.loop-at.steps c.graph_at.new.steps c.loop-at.graphs c.push.new.self c.in_ok-graph.graph
    c.loop-at.invariant c.in_ok-graph.ensures c.in_ok-push.ensures.ok
