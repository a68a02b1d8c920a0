use Rattle.std.proofs.Common.{◌≡◌, map, take}
use Rattle.class_rows.specs.Orders.{builtin_row}
use Rattle.class_rows.proofs.build.rows_by_orders.Given as goal

abbrev pub invariant-loop-order : goal.invariant-loop-order
invariant-loop-order l = l.rows ≡ map (λ order. builtin_row order.now) (take l.order-index l.orders)
