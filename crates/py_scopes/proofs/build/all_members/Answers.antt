use Rattle.std.proofs.Common.{ap, ◌∙◌, arith, length, map}
use Rattle.py_scopes.specs.Occurrences.{first_ids}
use Rattle.py_scopes.specs.Tables.{no_items}
use Rattle.py_scopes.proofs.Outward.{all-dropped, length-made}
use Rattle.py_scopes.proofs.Passes.{members-start, members-end}
use Rattle.py_scopes.proofs.build.all_members.Goals as goal

pub loop-number-init : goal.loop-number-init
loop-number-init c =
    let count = length c.args.tree.now.nodes in
    let made = c.in_ok-members.ensures ∙ ap (λ n. map no_items (first_ids n)) c.node_count.ensures.count in
    record { rest = members-start count c.args.numbers.now.keys c.in_ok-members.members.items made; count = ap length made ∙ length-made no_items count }

pub returns : goal.returns
returns c =
    let keys = c.args.numbers.now.keys in
    let same = ap length c.as_slice-symbol-items.ensures.keys in
    c.from_vec.ensures
    ∙ members-end (length c.args.tree.now.nodes) keys c.loop-number.number c.loop-number.members.items (all-dropped keys c.loop-number.number (omega (arith, same))) c.loop-number.invariant.count c.loop-number.invariant.rest
