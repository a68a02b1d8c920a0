use Rattle.std.proofs.Common.{List, sym, subst, ◌∙◌, arith}
use Rattle.py_base.specs.declared.key.Key.{Key}
use Rattle.type_terms.specs.declared.atom.Atom.{Atom}
use Rattle.assign_rules.specs.Members.{table_of}
use Rattle.assign_rules.specs.Accepts.{IsTaken}
use Rattle.assign_rules.specs.Clauses.{AreWays}
use Rattle.assign_rules.proofs.Needed.{each_more, each_says, ways_as, test_on}
use Rattle.assign_rules.proofs.clauses.accepted_clauses.Goals as goal

pub loop-low-preserved : goal.loop-low-preserved
loop-low-preserved g c =
    let s = g.T.Types.assignment c.args.types.now in
    let at = λ (types : Key → List Atom). table_of c.args.rules.now.classes.now (g.F.Names.names c.args.rules.now.facts.now) (g.F.Facts.facts c.args.rules.now.facts.now) types in
    let target = c.args.target.now in let now = c.loop-low in let x = c.low-item.result in let told = c.in_ok-member_ways.field-0 in
    let first = g.H.ClassGoes.test c.args.by.now in let tests = g.H.ClassGoes.test now.by in
    let here = subst (λ (types : Key → List Atom). AreWays (λ set. IsTaken (at types) (tests types) set target x) told) now.invariant.same c.in_ok-member_ways.ensures.value in
    record {
      so_far = each_more (λ set y. IsTaken (at s) (first s) set target y) c.args.source.now now.low-index x now.clauses c.add.new.items told c.loop-low-test.true c.low-item.is now.invariant.so_far
          (ways_as (at s) (tests s) (first s) (now.invariant.test s) target x told here) c.in_ok-add.ensures.value;
      test = test_on (g.H.ClassGoes.test c.member_ways.new.by) tests first c.member_ways.ensures.test now.invariant.test;
      same = c.member_ways.ensures.same ∙ now.invariant.same;
      stays = g.T.Types.keeps_on _ _ _ now.invariant.stays c.member_ways.ensures.stays;
      later = omega (arith, now.invariant.later, c.member_ways.ensures.cancels.later);
    }

pub returns-clause-value : goal.returns-clause-value
returns-clause-value g c =
    let s = g.T.Types.assignment c.args.types.now in
    let t = table_of c.args.rules.now.classes.now (g.F.Names.names c.args.rules.now.facts.now) (g.F.Facts.facts c.args.rules.now.facts.now) s in
    each_says t (g.H.ClassGoes.test c.args.by.now s) c.args.source.now c.args.target.now c.loop-low.low-index c.loop-low.clauses c.loop-low-test.false (sym c.takes_each.ensures ∙ c.if-takes_each.false) c.loop-low.invariant.so_far
