use Rattle.point_graph.proofs.Ordering.{point_comes}
use Rattle.point_graph.proofs.homes.enter.Goals as goal

pub returns-clause-comes : goal.returns-clause-comes
returns-clause-comes c = point_comes c.args.numbering.now.points.keys c.number.new.points.keys c.args.list.now c.mark.new.list c.in_ok-id.id c.args.point
    c.in_ok-id.ensures.listed c.in_ok-id.ensures.keeps c.in_ok-id.ensures.apart c.in_ok-id.ensures.at c.in_ok-mark.ensures.listed
