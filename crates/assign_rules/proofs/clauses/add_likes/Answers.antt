use Rattle.std.proofs.Common.{List, subst, ◌∙◌, arith}
use Rattle.py_base.specs.declared.key.Key.{Key}
use Rattle.type_terms.specs.declared.atom.Atom.{Atom}
use Rattle.assign_rules.specs.declared.question.Question.{Question}
use Rattle.assign_rules.specs.Members.{table_of}
use Rattle.assign_rules.specs.Accepts.{like_ways, HasWay}
use Rattle.assign_rules.specs.Clauses.{AreWays}
use Rattle.assign_rules.proofs.Needed.{adds_more, adds_all}
use Rattle.assign_rules.proofs.clauses.add_likes.Goals as goal

pub loop-one-preserved : goal.loop-one-preserved
loop-one-preserved g c =
    let s = g.T.Types.assignment c.args.types.now in
    let at = λ (types : Key → List Atom). table_of c.args.rules.now.classes.now (g.F.Names.names c.args.rules.now.facts.now) (g.F.Facts.facts c.args.rules.now.facts.now) types in
    let now = c.loop-one in
    let needs = λ (set : List Question) (x : Atom). HasWay set (like_ways (at s) x c.args.others.now) in
    let says : AreWays (λ set. needs set c.one-item.result) c.in_ok-like_ways.field-0 =
    subst (λ (types : Key → List Atom). AreWays (λ set. HasWay set (like_ways (at types) c.one-item.result c.args.others.now)) c.in_ok-like_ways.field-0) now.invariant.same c.in_ok-like_ways.ensures.value in
    record {
      so_far = adds_more needs c.args.members.now now.one-index c.one-item.result c.args.clauses.now now.clauses c.add.new.items c.in_ok-like_ways.field-0 c.loop-one-test.true c.one-item.is now.invariant.so_far says c.in_ok-add.ensures.value;
      same = c.like_ways.ensures.same ∙ now.invariant.same;
      stays = g.T.Types.keeps_on _ _ _ now.invariant.stays c.like_ways.ensures.stays;
      later = omega (arith, now.invariant.later, c.like_ways.ensures.cancels.later);
    }

pub returns-clause-value : goal.returns-clause-value
returns-clause-value g c =
    let s = g.T.Types.assignment c.args.types.now in
    let t = table_of c.args.rules.now.classes.now (g.F.Names.names c.args.rules.now.facts.now) (g.F.Facts.facts c.args.rules.now.facts.now) s in
    let needs = λ (set : List Question) (x : Atom). HasWay set (like_ways t x c.args.others.now) in
    adds_all needs c.args.members.now c.loop-one.one-index c.args.clauses.now c.loop-one.clauses c.loop-one-test.false c.loop-one.invariant.so_far
