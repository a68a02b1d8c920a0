use Rattle.std.proofs.Common.{refl, ◌≡◌, List, [], sym, ap, ◌∙◌, arith}
use Rattle.py_base.specs.declared.key.Key.{Key}
use Rattle.type_terms.specs.declared.atom.Atom.{Atom}
use Rattle.assign_rules.specs.Members.{table_of}
use Rattle.assign_rules.specs.Goes.{like}
use Rattle.assign_rules.proofs.Needed.{free_way, mapped_more}
use Rattle.assign_rules.proofs.clauses.like_ways.Goals as goal

pub returns-then-is_free-clause-value : goal.returns-then-is_free-clause-value
returns-then-is_free-clause-value g c =
    let s = g.T.Types.assignment c.args.types.now in
    let at = λ (types : Key → List Atom). table_of c.args.rules.now.classes.now (g.F.Names.names c.args.rules.now.facts.now) (g.F.Facts.facts c.args.rules.now.facts.now) types in
    let now = c.loop-other in
    let e : c.in_ok-way.way ≡ like (at s) c.args.one.now c.other-item.result = c.in_ok-way.ensures.value ∙ ap (λ (types : Key → List Atom). like (at types) c.args.one.now c.other-item.result) now.invariant.same in
    free_way (like (at s) c.args.one.now) c.args.others.now now.other-index c.other-item.result [] c.loop-other-test.true c.other-item.is (sym e ∙ c.is_free.ensures.0 c.if-is_free.true) refl

pub loop-other-preserved : goal.loop-other-preserved
loop-other-preserved g c =
    let s = g.T.Types.assignment c.args.types.now in
    let at = λ (types : Key → List Atom). table_of c.args.rules.now.classes.now (g.F.Names.names c.args.rules.now.facts.now) (g.F.Facts.facts c.args.rules.now.facts.now) types in
    let now = c.loop-other in
    let e : c.in_ok-way.way ≡ like (at s) c.args.one.now c.other-item.result = c.in_ok-way.ensures.value ∙ ap (λ (types : Key → List Atom). like (at types) c.args.one.now c.other-item.result) now.invariant.same in
    record {
      so_far = mapped_more (like (at s) c.args.one.now) c.args.others.now now.other-index c.other-item.result c.in_ok-way.way now.ways c.add.new.items c.loop-other-test.true c.other-item.is e now.invariant.so_far c.in_ok-add.ensures.value;
      same = c.like.ensures.same ∙ now.invariant.same;
      stays = g.T.Types.keeps_on _ _ _ now.invariant.stays c.like.ensures.stays;
      later = omega (arith, now.invariant.later, c.like.ensures.cancels.later);
    }
