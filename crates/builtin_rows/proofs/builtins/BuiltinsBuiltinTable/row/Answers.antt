use Rattle.std.proofs.Common.{refl}
use Rattle.builtin_rows.proofs.KeptLemmas.{row_kept}
use Rattle.builtin_rows.proofs.builtins.BuiltinsBuiltinTable.row.Goals as goal

pub returns-in-Some : goal.returns-in-Some
returns-in-Some c = row_kept _ _ _ _ c.self.invariant.rows_are c.in-Some.ensures.value refl

pub returns-in-None : goal.returns-in-None
returns-in-None c = row_kept _ _ _ _ c.self.invariant.rows_are c.in-None.ensures.value c.self.invariant.other_is
