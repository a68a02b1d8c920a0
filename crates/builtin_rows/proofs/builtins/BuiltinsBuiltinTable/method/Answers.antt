use Rattle.std.proofs.Common.{◌∙◌}
use Rattle.builtin_rows.specs.Rows.{is_method_of}
use Rattle.builtin_rows.proofs.KeptLemmas.{rows_kept}
use Rattle.builtin_rows.proofs.builtins.BuiltinsBuiltinTable.method.Goals as goal

pub returns : goal.returns
returns c = c.method_at.ensures ∙ rows_kept (is_method_of c.args.class) _ _ c.self.invariant.held_are
