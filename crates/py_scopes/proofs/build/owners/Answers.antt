use Rattle.std.proofs.Common.{◌+◌, [], length, sym, ap, ◌∙◌, arith}
use Rattle.std.specs.Prelude.{Option, option_map}
use Rattle.std.specs.List.{cons_option}
use Rattle.py_scopes.specs.declared.occurrence.Occurrence.{Occurrence}
use Rattle.py_scopes.specs.Table.{owner_if, owner_at}
use Rattle.py_scopes.proofs.Walks.{made-step}
use Rattle.py_scopes.proofs.Nodes.{next-is, passed-next, passed-room}
use Rattle.py_scopes.proofs.build.owners.Goals as goal

pub loop-number-preserved : goal.loop-number-preserved
loop-number-preserved c =
    let a = c.args.tree.now in
    let all = c.args.instances.now in
    let keys = c.args.numbers.now.keys in
    let n = c.loop-number.number in
    let o : Option Occurrence = option_map (λ o. o.now) c.occurrence_if-occurrence.result in
    let here = next-is a c.occurrences-all.result.now c.loop-number.passed n o (c.occurrences-all.ensures ∙ c.requires.all) c.loop-number.invariant.passed
    (omega (arith, c.loop-number-test.true, c.node_count-number-end.ensures.count)) c.occurrence_if-occurrence.ensures in
    record {
      owners = made-step (owner_at a all keys) n c.loop-number.owners c.push.new.self c.owner_if.result c.in_ok-push.ensures.ok (c.owner_if.ensures ∙ ap (owner_if a all keys) here) c.loop-number.invariant.owners;
      passed = c.behind-passed.ensures ∙ ap (λ k. k + length (cons_option o [])) c.loop-number.invariant.passed ∙ sym (passed-next a n o here);
      room = let more = passed-room c.loop-number.passed n o c.loop-number.invariant.room in omega (arith, c.behind-passed.ensures, more);
    }
