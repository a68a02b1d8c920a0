use Rattle.std.proofs.Common.{◌≡◌, length, arith, refl, ap, ◌∙◌}
use Rattle.py_base.specs.Tree.{Arena}
use Rattle.py_base.proofs.LinkLemmas.{arena_is}
use Rattle.py_base.proofs.DistinctNames.{fold-next, with_names-whole, one_more}
use Rattle.py_base.proofs.tree.Tree.intern_all.Goals as goal

pub loop-name-preserved : goal.loop-name-preserved
loop-name-preserved c =
    let next = fold-next c.args.self.now.names c.args.names.now c.loop-name.name-index _ c.loop-name-test.true in
    let more = one_more c.loop-name.self.names c.intern.new.self.names _ (ap (λ (a : Arena). a.names) c.in_ok-intern.ensures.ok) in
    (rw c.in_ok-intern.ensures.ok c.loop-name.invariant.0, rw (c.in_ok-intern.ensures.ok, c.loop-name.invariant.1, next) refl, omega (arith, more, c.loop-name.invariant.2))

pub intern-requires : goal.intern-requires
intern-requires c = record { room = omega (arith, c.loop-name.invariant.2, c.requires, c.loop-name-test.true) }

pub returns : goal.returns
returns c =
    let same : c.loop-name.name-index ≡ length c.args.names.now = omega arith in
    arena_is _ _ _ (c.loop-name.invariant.1 ∙ with_names-whole c.args.self.now.names c.args.names.now c.loop-name.name-index same) c.loop-name.invariant.0
