use Rattle.std.proofs.Common.{◌≡◌, drop}
use Rattle.std.specs.List.{list_any}
use Rattle.class_rows.specs.Rows.{row_at, order_of, has_keyword_of}
use Rattle.class_rows.proofs.rows.ClassRows.has_keyword.Given as goal

abbrev pub invariant-loop-above : goal.invariant-loop-above
invariant-loop-above l = list_any (λ d. (row_at l.self d).keyword) (drop l.above-index (order_of l.self l.fn.class)) ≡ has_keyword_of l.self l.fn.class
