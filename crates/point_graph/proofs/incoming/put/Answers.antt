use Rattle.point_graph.proofs.Steps.{put_lists}
use Rattle.point_graph.proofs.incoming.put.Goals as goal

pub returns-clause-put : goal.returns-clause-put
returns-clause-put c = put_lists c.args.ways.now.items c.args.to c.args.way c.index_mut.result.now c.push.new.self c.requires c.index_mut.ensures.value c.in_ok-push.ensures.ok
