use Rattle.std.proofs.Common.{arith}
use Rattle.std.proofs.lemmas.Map.Text.{btree_map_updates_str}
use Rattle.serial_session.proofs.antecedent.set_entry.Goals as goal

pub returns-in_ok-insert : goal.returns-in_ok-insert
returns-in_ok-insert c = λ name.
    let put = btree_map_updates_str c.as_str.result.now c.args.bindings.now c.insert.new.self _ c.in_ok-insert.ensures.updates name in
    grind arith
