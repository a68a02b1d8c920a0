use Rattle.std.proofs.Common.{get_or, arith}
use Rattle.std.proofs.lemmas.List.{get_or_default}
use Rattle.class_rows.proofs.Symbols.{symbols_more}
use Rattle.class_rows.proofs.members.by_name.Goals as goal

pub loop-name-preserved : goal.loop-name-preserved
loop-name-preserved c = λ n.
    let members = c.args.members.now in
    let i = c.loop-name.name-index in
    let m = get_or members i (record { 0 = 0 }, record { 0 = 0 }) in
    symbols_more n m.0 m.1 members c.loop-name.map.entries c.add_first.new.map.entries i (omega arith) (get_or_default members i _ _ (omega arith)) (c.in_ok-add_first.ensures n) (c.loop-name.invariant n)
