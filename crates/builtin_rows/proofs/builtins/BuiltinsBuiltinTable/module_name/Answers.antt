use Rattle.std.proofs.Common.{◌∙◌}
use Rattle.builtin_rows.proofs.KeptLemmas.{module_kept}
use Rattle.builtin_rows.proofs.builtins.BuiltinsBuiltinTable.module_name.Goals as goal

pub returns : goal.returns
returns c = c.type_at.ensures ∙ module_kept _ _ _ c.self.invariant.members_are
