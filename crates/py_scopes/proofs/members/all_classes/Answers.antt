use Rattle.std.proofs.Common.{refl, arith, length}
use Rattle.std.proofs.lemmas.Option.{slice_get_read}
use Rattle.indexmap.specs.IndexMap.{get}
use Rattle.py_scopes.specs.Owner.{same_symbol}
use Rattle.py_scopes.proofs.Classes.{class-made, classes-start, classes-next, classes-end}
use Rattle.py_scopes.proofs.Outward.{all-dropped}
use Rattle.py_scopes.proofs.members.all_classes.Goals as goal

pub loop-occurrence-init : goal.loop-occurrence-init
loop-occurrence-init c = λ x. classes-start c.args.search.now c.occurrences-all.result.now x c.new-classes.result c.new-classes.ensures.empty c.occurrences-all.ensures

pub loop-occurrence-preserved : goal.loop-occurrence-preserved
loop-occurrence-preserved c = λ x.
    let all = c.occurrences-all.result.now in
    let o = c.occurrence-item.result in
    let old = get same_symbol c.loop-occurrence.classes x in
    let new = get same_symbol c.add_class.new.classes x in
    classes-next c.args.search.now all x c.loop-occurrence.occurrence-index o old new (slice_get_read all (length all) c.loop-occurrence.occurrence-index o refl (omega arith) c.occurrence-item.is)
    (class-made c.args.search.now x o c.instance_at-instance.result c.class_at-class.result old new c.instance_at-instance.ensures c.class_at-class.ensures (c.in_ok-add_class.ensures x))
    (c.loop-occurrence.invariant x)

pub returns : goal.returns
returns c = λ x.
    let all = c.occurrences-all.result.now in
    classes-end c.args.search.now _ x (get same_symbol c.loop-occurrence.classes x) (all-dropped all c.loop-occurrence.occurrence-index (omega arith)) (c.loop-occurrence.invariant x)
