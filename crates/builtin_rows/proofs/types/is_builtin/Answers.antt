use Rattle.std.proofs.Common.{ap, ◌∙◌}
use Rattle.std.specs.Prelude.{bytes_eq}
use Rattle.std.specs.List.{list_any}
use Rattle.builtin_rows.proofs.Listed.{builtins_are_listed}
use Rattle.builtin_rows.proofs.types.is_builtin.Goals as goal

pub returns : goal.returns
returns c = c.is_among.ensures ∙ ap (list_any (bytes_eq c.args.text.now)) builtins_are_listed
