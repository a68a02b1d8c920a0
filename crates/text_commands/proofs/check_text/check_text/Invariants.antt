use Rattle.std.proofs.Common.{◌≡◌, ◌++◌, drop, flat_map, string_bytes}
use Rattle.text_commands.specs.CheckText.{diag_line}
use Rattle.text_commands.proofs.check_text.check_text.Given as goal

abbrev pub invariant-loop-diag : goal.invariant-loop-diag
invariant-loop-diag l = string_bytes l.text ++ flat_map diag_line (drop l.diag-index l.list) ≡ flat_map diag_line l.list
