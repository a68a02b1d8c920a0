use Rattle.std.proofs.Common.{rules, ltb}
use Rattle.std.proofs.lemmas.Bool.{ltb-true, ltb-false}
use Rattle.std.proofs.lemmas.List.Sorted.{IsPartitionPoint-from_clause, IsPartitionedBy-ltb}
use Rattle.py_base.specs.declared.ids.NodeId.{NodeId}
use Rattle.node_shapes.proofs.items.count_below.Goals as goal

pub returns : goal.returns
returns c =
    let point = IsPartitionPoint-from_clause (λ (other : NodeId). ltb other.0 c.args.node.0) _ _ c.partition_point.ensures.partitioned
    (IsPartitionedBy-ltb (λ (x : NodeId). x.0) c.args.rising.now c.args.node.0 c.requires) (λ a r f k. search rules) in
    record {
      within = c.partition_point.ensures.bound;
      parts = (λ k d from to. ltb-true _ _ (point.0 k d from to), λ k d from to. ltb-false _ _ (point.1 k d from to));
    }
