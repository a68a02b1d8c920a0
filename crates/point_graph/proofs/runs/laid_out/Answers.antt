use Rattle.std.proofs.Common.{◌≡◌, ℕ, ◌≤◌, List, [], ◌++◌, length, map, ap, sym, ◌∙◌, subst}
use Rattle.std.proofs.lemmas.List.{append-nil}
use Rattle.py_base.specs.declared.ids.PointId.{PointId}
use Rattle.flow_rows.specs.declared.edge.EdgeKind.{EdgeKind}
use Rattle.point_graph.specs.declared.incoming.Way.{Way}
use Rattle.point_graph.specs.Runs.{AreRuns}
use Rattle.point_graph.proofs.Laying.{parts_more, runs_more, longer, no_shorter}
use Rattle.point_graph.proofs.runs.laid_out.Goals as goal

pub loop-list-preserved : goal.loop-list-preserved
loop-list-preserved c =
    let ws = c.list-item.result.items in
    let from : Way → PointId = λ w. w.from in
    let kind : Way → EdgeKind = λ w. w.kind in
    let sources : c.add_ways.new.sources ≡ c.loop-list.sources ++ map from ws
    = c.in_ok-add_ways.ensures.sources ∙ ap (λ (l : List Way). c.loop-list.sources ++ map from l) c.as_slice.ensures in
    let labels : c.add_ways.new.labels ≡ c.loop-list.labels ++ map kind ws
    = c.in_ok-add_ways.ensures.labels ∙ ap (λ (l : List Way). c.loop-list.labels ++ map kind l) c.as_slice.ensures in
    let long : length c.add_ways.new.labels ≡ length c.add_ways.new.sources
    = longer kind from ws c.loop-list.labels c.add_ways.new.labels c.loop-list.sources c.add_ways.new.sources c.loop-list.invariant.long labels sources in
    let more : length c.loop-list.sources ≤ length c.add_ways.new.sources = no_shorter c.loop-list.sources (map from ws) c.add_ways.new.sources sources in
    record {
      within = runs_more c.loop-list.runs c.push.new.self (length c.loop-list.sources) (length c.add_ways.new.sources) c.len-from.result c.len-to.result
          c.loop-list.invariant.within more (rw (c.len-from.ensures, c.len-to.ensures) more) (rw c.len-to.ensures (no_shorter c.add_ways.new.sources [] c.add_ways.new.sources (sym (append-nil c.add_ways.new.sources))))
          c.in_ok-push.ensures.ok;
      long = long;
      sources = parts_more from c.args.ways.now c.loop-list.list-index c.list-item.result c.loop-list.sources c.add_ways.new.sources
          c.loop-list.runs c.push.new.self c.len-from.result c.len-to.result c.loop-list-test.true c.list-item.is c.loop-list.invariant.within
          sources c.len-from.ensures c.len-to.ensures c.in_ok-push.ensures.ok c.loop-list.invariant.sources;
      labels = parts_more kind c.args.ways.now c.loop-list.list-index c.list-item.result c.loop-list.labels c.add_ways.new.labels
          c.loop-list.runs c.push.new.self c.len-from.result c.len-to.result c.loop-list-test.true c.list-item.is
          (subst (λ (n : ℕ). AreRuns n c.loop-list.runs) (sym c.loop-list.invariant.long) c.loop-list.invariant.within)
          labels (c.len-from.ensures ∙ sym c.loop-list.invariant.long) (c.len-to.ensures ∙ sym long) c.in_ok-push.ensures.ok c.loop-list.invariant.labels;
    }
