use Rattle.std.proofs.Common.{refl, ◌≡◌, List, [], sym, ap, ◌∙◌, arith}
use Rattle.py_base.specs.declared.key.Key.{Key}
use Rattle.type_terms.specs.declared.atom.Atom.{Atom}
use Rattle.assign_rules.specs.Members.{table_of}
use Rattle.assign_rules.specs.Goes.{goes}
use Rattle.assign_rules.proofs.Needed.{free_way, mapped_more}
use Rattle.assign_rules.proofs.clauses.ways_to.Goals as goal

pub returns-then-is_free-clause-value : goal.returns-then-is_free-clause-value
returns-then-is_free-clause-value g c =
    let s = g.T.Types.assignment c.args.types.now in
    let at = λ (types : Key → List Atom). table_of c.args.rules.now.classes.now (g.F.Names.names c.args.rules.now.facts.now) (g.F.Facts.facts c.args.rules.now.facts.now) types in
    let now = c.loop-high in
    let e : c.in_ok-way.way ≡ goes (at s) c.args.low.now c.high-item.result = c.in_ok-way.ensures.value ∙ ap (λ (types : Key → List Atom). goes (at types) c.args.low.now c.high-item.result) now.invariant.same in
    free_way (goes (at s) c.args.low.now) c.args.target.now now.high-index c.high-item.result [] c.loop-high-test.true c.high-item.is (sym e ∙ c.is_free.ensures.0 c.if-is_free.true) refl

pub loop-high-preserved : goal.loop-high-preserved
loop-high-preserved g c =
    let s = g.T.Types.assignment c.args.types.now in
    let at = λ (types : Key → List Atom). table_of c.args.rules.now.classes.now (g.F.Names.names c.args.rules.now.facts.now) (g.F.Facts.facts c.args.rules.now.facts.now) types in
    let now = c.loop-high in
    let e : c.in_ok-way.way ≡ goes (at s) c.args.low.now c.high-item.result = c.in_ok-way.ensures.value ∙ ap (λ (types : Key → List Atom). goes (at types) c.args.low.now c.high-item.result) now.invariant.same in
    record {
      so_far = mapped_more (goes (at s) c.args.low.now) c.args.target.now now.high-index c.high-item.result c.in_ok-way.way now.ways c.add.new.items c.loop-high-test.true c.high-item.is e now.invariant.so_far c.in_ok-add.ensures.value;
      same = c.goes.ensures.same ∙ now.invariant.same;
      stays = g.T.Types.keeps_on _ _ _ now.invariant.stays c.goes.ensures.stays;
      later = omega (arith, now.invariant.later, c.goes.ensures.cancels.later);
    }
