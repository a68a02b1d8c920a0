use Rattle.std.proofs.Common.{◌-◌, ◌^◌, min}
use Rattle.flow_graph.specs.Table.{sizes}
use Rattle.flow_graph.proofs.Occurring.{size_done}
use Rattle.flow_graph.proofs.graphs.size.Goals as goal

pub returns : goal.returns
returns c = size_done c.args.graph.now c.args.graphs.now c.loop-place.place c.loop-place.size (min (sizes c.args.graph.now 0 c.args.graphs.now) (2 ^ 64 - 1)) (2 ^ 64 - 1)
    c.loop-place-test.false c.loop-place.invariant.fits c.loop-place.invariant.sum
