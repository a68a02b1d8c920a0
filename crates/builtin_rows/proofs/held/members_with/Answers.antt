use Rattle.std.proofs.Common.{◌≡◌, List, subst}
use Rattle.std.specs.Prelude.{IfOk}
use Rattle.builtin_rows.specs.Held.{members_of}
use Rattle.builtin_rows.specs.Table.{ModuleLine}
use Rattle.builtin_rows.proofs.Listed.{entries_are_listed}
use Rattle.builtin_rows.proofs.held.members_with.Goals as goal

pub returns : goal.returns
returns c = subst (λ (lines : List ModuleLine). IfOk c.members_named.result (λ members. members ≡ members_of c.args.text.now lines)) entries_are_listed c.members_named.ensures
