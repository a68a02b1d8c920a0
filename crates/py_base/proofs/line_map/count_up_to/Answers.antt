use Rattle.std.proofs.Common.{rules, leb}
use Rattle.std.proofs.lemmas.Bool.{leb-true, leb-false}
use Rattle.std.proofs.lemmas.List.Sorted.{IsPartitionPoint-from_clause, IsPartitionedBy-leb}
use Rattle.py_base.proofs.line_map.count_up_to.Goals as goal

pub returns : goal.returns
returns c =
    let point = IsPartitionPoint-from_clause (λ number. leb number c.args.limit) _ _ c.partition_point.ensures.partitioned (IsPartitionedBy-leb (λ x. x) c.args.rising.now c.args.limit c.requires) (λ a r f k. search rules) in
    record {
      within = c.partition_point.ensures.bound;
      parts = (λ k d from to. leb-true _ _ (point.0 k d from to), λ k d from to. leb-false _ _ (point.1 k d from to));
    }
