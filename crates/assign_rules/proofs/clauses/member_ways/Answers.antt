use Rattle.std.proofs.Common.{◌≡◌, ◌↔◌, true, List, sym, subst, ◌∙◌}
use Rattle.std.specs.Prelude.{IsTrue}
use Rattle.py_base.specs.declared.key.Key.{Key}
use Rattle.type_terms.specs.declared.atom.Atom.{Atom}
use Rattle.assign_rules.specs.Members.{table_of}
use Rattle.assign_rules.specs.Accepts.{ways, HasWay, ByTest}
use Rattle.assign_rules.specs.Clauses.{AreWays}
use Rattle.assign_rules.proofs.Needed.{by_ways}
use Rattle.assign_rules.proofs.clauses.member_ways.Goals as goal

pub returns-clause-value : goal.returns-clause-value
returns-clause-value g c =
    let s = g.T.Types.assignment c.args.types.now in
    let t = table_of c.args.rules.now.classes.now (g.F.Names.names c.args.rules.now.facts.now) (g.F.Facts.facts c.args.rules.now.facts.now) s in
    let low = c.args.low.now in let target = c.args.target.now in
    let tests = g.H.ClassGoes.test c.args.by.now in
    let answer = subst (λ (types : Key → List Atom). IsTrue c.in_ok-goes_by_test.field-0 ↔ ByTest (tests types) low target) c.ways_to.ensures.same c.in_ok-goes_by_test.ensures.value in
    let none : ByTest (tests s) low target → ⊥ = λ by. let is : c.in_ok-goes_by_test.field-0 ≡ true = answer.1 by in let no : ⊥ = cc (is, c.if-branch.false) in no in
    by_ways t (tests s) target low c.in-Some.ways (sym c.passes.ensures ∙ c.if-passes.false) none
    (subst (AreWays (λ set. HasWay set (ways t low target))) c.in-Some.is c.in_ok-ways.ensures.value)
