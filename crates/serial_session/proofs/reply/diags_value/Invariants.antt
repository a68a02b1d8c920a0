use Rattle.std.proofs.Common.{◌≡◌, map, take}
use Rattle.serde_json.specs.View.{view}
use Rattle.serial_session.specs.Reply.{diag_data}
use Rattle.serial_session.proofs.reply.diags_value.Given as goal

abbrev pub invariant-loop-diag : goal.invariant-loop-diag
invariant-loop-diag l = map view l.values.items ≡ map diag_data (take l.diag-index l.list)
