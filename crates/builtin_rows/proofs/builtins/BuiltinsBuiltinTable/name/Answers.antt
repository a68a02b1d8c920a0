use Rattle.std.proofs.Common.{◌∙◌}
use Rattle.builtin_rows.proofs.KeptLemmas.{name_kept}
use Rattle.builtin_rows.proofs.builtins.BuiltinsBuiltinTable.name.Goals as goal

pub returns : goal.returns
returns c = c.name_type_at.ensures ∙ name_kept _ _ c.self.invariant.types_are
