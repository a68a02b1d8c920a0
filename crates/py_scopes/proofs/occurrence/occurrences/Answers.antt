use Rattle.std.proofs.Common.{◌≡◌, ◌∙◌, ap, arith, length}
use Rattle.std.specs.Prelude.{filter_map}
use Rattle.py_scopes.specs.Occurrences.{occurrence_at, role_if, role_at, first_ids}
use Rattle.py_scopes.proofs.Below.{occurrences-below}
use Rattle.py_scopes.proofs.Walks.{kept-step, made-step, room-step}
use Rattle.py_scopes.proofs.occurrence.occurrences.Goals as goal

pub loop-number-preserved : goal.loop-number-preserved
loop-number-preserved c =
    let a = c.args.tree.now in
    let n = c.loop-number.number in
    let o = c.in_ok-occurrence.occurrence in
    record {
      all = kept-step (occurrence_at a) n c.loop-number.all c.push_some.new.items o c.in_ok-push_some.ensures c.in_ok-occurrence.ensures c.loop-number.invariant.all;
      roles = made-step (role_at a) n c.loop-number.roles c.push.new.self c.role_if.result c.in_ok-push.ensures.ok (c.role_if.ensures ∙ ap role_if c.in_ok-occurrence.ensures) c.loop-number.invariant.roles;
      room = room-step c.loop-number.all c.push_some.new.items o n c.in_ok-push_some.ensures c.loop-number.invariant.room;
    }

pub returns-clause-below : goal.returns-clause-below
returns-clause-below c =
    let a = c.args.tree.now in
    let end : c.loop-number.number ≡ length a.nodes = omega (arith, c.loop-number-test.false, c.loop-number.auto.number-end, c.node_count-number-end.ensures.count) in
    occurrences-below a c.loop-number.all c.node_count-number-end.ensures.linked (c.loop-number.invariant.all ∙ ap (λ n. filter_map (occurrence_at a) (first_ids n)) end)
