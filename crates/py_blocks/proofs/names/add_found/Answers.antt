use Rattle.std.proofs.Common.{◌≡◌, true, false, sym, ◌∙◌, append-nil}
use Rattle.py_blocks.specs.Roles.{finds}
use Rattle.py_blocks.proofs.Walking.{found-name}
use Rattle.py_blocks.proofs.names.add_found.Goals as goal

pub returns-then-not-does_find : goal.returns-then-not-does_find
returns-then-not-does_find c =
    let e = found-name c.args.role c.args.tree.now.names c.args.word.now c.in-Name.id c.name-name.result.now c.in-Name.is c.name-name.ensures in
    let bad : finds c.args.role c.name-name.result.now ≡ false = sym c.does_find.ensures ∙ c.if-not-does_find.true in
    rw (e, bad) (sym (append-nil c.args.names.now))

pub returns : goal.returns
returns c =
    let e = found-name c.args.role c.args.tree.now.names c.args.word.now c.in-Name.id c.name-name.result.now c.in-Name.is c.name-name.ensures in
    let good : finds c.args.role c.name-name.result.now ≡ true = sym c.does_find.ensures ∙ c.if-not-does_find.false in
    rw (e, good, ← c.in_ok-name.ensures) c.push.ensures.ok
