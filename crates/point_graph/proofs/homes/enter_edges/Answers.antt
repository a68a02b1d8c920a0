use Rattle.std.proofs.Common.{◌≡◌, ◌+◌, ◌⊎◌, refl, take, get_or}
use Rattle.flow_rows.specs.declared.edge.Edge.{Edge}
use Rattle.point_graph.specs.Building.{Joins}
use Rattle.point_graph.proofs.Steps.{no_edge}
use Rattle.point_graph.proofs.Entering.{enters_both, enters_as, joins_more, more_step}
use Rattle.point_graph.proofs.Ordering.{ends_come, edge_continues}
use Rattle.point_graph.proofs.homes.enter_edges.Goals as goal

pub loop-edge-preserved : goal.loop-edge-preserved
loop-edge-preserved c =
    let edges = c.args.edges.now in
    let i = c.loop-edge.edge-index in
    let e : Edge = get_or edges i no_edge in
    let one = enters_both c.args.graph (Joins (take i edges)) (λ p. e.from ≡ p)
    c.args.numbering.now.points.keys c.loop-edge.numbering.points.keys c.enter.new.numbering.points.keys
    c.args.numbering.now.homes c.loop-edge.numbering.homes c.enter.new.numbering.homes
    c.args.list.now c.loop-edge.list c.enter.new.list
    c.loop-edge.invariant.enters c.in_ok-from.ensures.enters in
    let two = enters_both c.args.graph (λ p. Joins (take i edges) p ⊎ (e.from ≡ p)) (λ p. e.to ≡ p)
    c.args.numbering.now.points.keys c.enter.new.numbering.points.keys c.enter-in-loop-edge.new.numbering.points.keys
    c.args.numbering.now.homes c.enter.new.numbering.homes c.enter-in-loop-edge.new.numbering.homes
    c.args.list.now c.enter.new.list c.enter-in-loop-edge.new.list
    one c.in_ok-to.ensures.enters in
    record {
      enters = enters_as c.args.graph (λ p. (Joins (take i edges) p ⊎ (e.from ≡ p)) ⊎ (e.to ≡ p)) (Joins (take (i + 1) edges))
          c.args.numbering.now.points.keys c.enter-in-loop-edge.new.numbering.points.keys
          c.args.numbering.now.homes c.enter-in-loop-edge.new.numbering.homes
          c.args.list.now c.enter-in-loop-edge.new.list
          (λ p. joins_more edges i p c.loop-edge-test.true) two;
      steps = more_step c.loop-edge.numbering.points.keys c.enter-in-loop-edge.new.numbering.points.keys edges i
          c.args.steps.now c.loop-edge.steps c.push.new.self
          (record { from = c.in_ok-from.from; to = c.in_ok-to.to; kind = e.kind })
          c.loop-edge-test.true
          (λ j p h. c.in_ok-to.ensures.enters.keeps j p (c.in_ok-from.ensures.enters.keeps j p h))
          c.loop-edge.invariant.steps
          (record { from = c.in_ok-to.ensures.enters.keeps _ _ c.in_ok-from.ensures.at; to = c.in_ok-to.ensures.at; kind = refl })
          c.in_ok-push.ensures.ok;
      comes = ends_come edges i c.args.numbering.now.points.keys c.loop-edge.numbering.points.keys c.enter.new.numbering.points.keys
          c.enter-in-loop-edge.new.numbering.points.keys c.args.list.now c.loop-edge.list c.enter.new.list c.enter-in-loop-edge.new.list
          c.loop-edge-test.true c.loop-edge.invariant.comes c.in_ok-from.ensures.comes c.in_ok-to.ensures.comes;
      listed = edge_continues c.loop-edge.numbering.points.keys c.enter-in-loop-edge.new.numbering.points.keys edges i
          c.args.steps.now c.loop-edge.steps c.push.new.self (record { from = c.in_ok-from.from; to = c.in_ok-to.to; kind = e.kind })
          c.loop-edge-test.true (λ j p h. c.in_ok-to.ensures.enters.keeps j p (c.in_ok-from.ensures.enters.keeps j p h))
          c.loop-edge.invariant.listed
          (record { from = c.in_ok-to.ensures.enters.keeps _ _ c.in_ok-from.ensures.at; to = c.in_ok-to.ensures.at; kind = refl })
          c.in_ok-push.ensures.ok;
    }
