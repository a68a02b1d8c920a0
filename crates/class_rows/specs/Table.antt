-- What holds of the orders in a table of rows, whatever the classes are: each begins with its class and has classes of the table alone, each at most once.
use Rattle.std.specs.Prelude.{◌≡◌, ◌≤◌, ℕ, List, length, Some, slice_get}
use Rattle.py_base.specs.declared.ids.ClassId.{ClassId}
use Rattle.class_rows.specs.Rows.{ClassRow, IsClass, order_of}
use Rattle.class_rows.specs.Waits.{AreBelow, occurrences}

-- an order of the class, of classes below the limit
pub record IsSound (limit : ℕ) (c : ClassId) (order : List ClassId) : Type 0 where
  pub first : slice_get order 0 ≡ Some c
  pub below : AreBelow limit order
  pub once : (n : ℕ) → occurrences n order ≤ 1

abbrev pub IsTable : List ClassRow → Type 0
IsTable rows = (c : ClassId) → IsClass rows c → IsSound (length rows) c (order_of rows c)
