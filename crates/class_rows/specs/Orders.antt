-- The rows of the builtin classes, by the table of their orders. That these are the orders by the rule of C3 is part of `IsRows`.
use Rattle.std.specs.Prelude.{false, true, List, [], map}
use Rattle.py_base.specs.Builtins.{id_of}
use Rattle.py_base.specs.declared.builtin.Builtin.{Builtin}
use Rattle.class_rows.specs.Rows.{ClassRow}
use Rattle.class_rows.specs.declared.builtin_orders.TheConstants.{ORDERS}

abbrev pub builtin_row : List Builtin → ClassRow
builtin_row order = record { order = map id_of order; ordered = true; unknown_base = false; keyword = false; members = [] }

abbrev pub builtin_rows : List ClassRow
builtin_rows = map (λ order. builtin_row order.now) ORDERS
