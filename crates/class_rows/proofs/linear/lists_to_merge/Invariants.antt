use Rattle.std.proofs.Common.{◌≡◌, map, take}
use Rattle.class_rows.specs.Rows.{order_of}
use Rattle.class_rows.proofs.linear.lists_to_merge.Given as goal

abbrev pub invariant-loop-base : goal.invariant-loop-base
invariant-loop-base l = l.lists ≡ map (order_of l.rows) (take l.base-index l.bases)
