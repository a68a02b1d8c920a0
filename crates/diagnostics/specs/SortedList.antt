-- The list of diagnostics that is published: those that were found, in their order, each once (this project's own).
use Rattle.std.specs.Prelude.{List, ◌↔◌}
use Rattle.std.specs.List.{Contains}
use Rattle.std.specs.List.Sorted.{IsStrictlySortedBy}
use Rattle.py_base.specs.declared.diag.Diag.{Diag}
use Rattle.py_base.specs.DiagOrder.{diag_cmp}

-- it rises by place, rule and text, and has just what was found
pub record IsSortedList (found list : List Diag) : Type 0 where
  pub rises : IsStrictlySortedBy diag_cmp list
  pub has : (diag : Diag) → Contains list diag ↔ Contains found diag
