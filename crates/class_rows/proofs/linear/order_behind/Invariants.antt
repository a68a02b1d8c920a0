use Rattle.std.proofs.Common.{◌≡◌, ◌∷◌, take}
use Rattle.class_rows.specs.Rows.{order_of}
use Rattle.class_rows.proofs.linear.order_behind.Given as goal

abbrev pub invariant-loop-above : goal.invariant-loop-above
invariant-loop-above l = l.order ≡ l.fn.class ∷ take l.above-index (order_of l.rows l.fn.base)
