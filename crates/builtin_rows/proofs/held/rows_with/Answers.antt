use Rattle.std.proofs.Common.{◌≡◌, List, subst}
use Rattle.std.specs.Prelude.{IfOk}
use Rattle.builtin_rows.specs.Held.{held_from}
use Rattle.builtin_rows.specs.Table.{RowLine}
use Rattle.builtin_rows.proofs.Listed.{rows_are_listed}
use Rattle.builtin_rows.proofs.held.rows_with.Goals as goal

pub returns : goal.returns
returns c = subst (λ (lines : List RowLine). IfOk c.rows_named.result (λ held. held ≡ held_from c.args.text.now 0 lines)) rows_are_listed c.rows_named.ensures
