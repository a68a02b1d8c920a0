use Rattle.std.proofs.Common.{◌≡◌, List, length, Some, None, sym, subst, ◌∙◌, arith}
use Rattle.std.specs.Prelude.{slice_get}
use Rattle.py_base.specs.declared.key.Key.{Key}
use Rattle.type_terms.specs.declared.atom.Atom.{Atom}
use Rattle.assign_rules.specs.Members.{table_of}
use Rattle.assign_rules.specs.Accepts.{Holds}
use Rattle.assign_rules.specs.Clauses.{AreClauses}
use Rattle.assign_rules.specs.Places.{IsAt}
use Rattle.assign_rules.proofs.Needed.{clauses_as, test_on}
use Rattle.assign_rules.proofs.Placed.{told_more, grown_on, all_before}
use Rattle.assign_rules.proofs.asked.Asked.ask_all.Goals as goal

pub loop-question-preserved : goal.loop-question-preserved
loop-question-preserved g c =
    let s = g.T.Types.assignment c.args.types.now in
    let at = λ (types : Key → List Atom). table_of c.args.rules.now.classes.now (g.F.Names.names c.args.rules.now.facts.now) (g.F.Facts.facts c.args.rules.now.facts.now) types in
    let now = c.loop-question in let q = c.in-Some.question.now in let needed = c.in_ok-clauses.clauses in
    let first = g.H.ClassGoes.test c.args.by.now in let tests = g.H.ClassGoes.test now.by in
    let here = subst (λ (types : Key → List Atom). AreClauses (λ set. Holds (at types) (tests types) set q) needed) now.invariant.same c.in_ok-clauses.ensures.value in
    let place : IsAt now.self.questions q (length now.self.clauses) = subst (λ n. slice_get now.self.questions n ≡ Some q) c.len.ensures (sym c.in-Some.ensures.value) in
    record {
      grown = grown_on c.args.self.now.questions now.self.questions c.note.new.self.questions now.invariant.grown c.note.ensures.grown;
      told = told_more (at s) (first s) now.self.questions c.note.new.self.questions now.self.clauses c.note.new.self.clauses q needed now.invariant.told c.note.ensures.grown place
          (clauses_as (at s) (tests s) (first s) (now.invariant.test s) q needed here) c.in_ok-note.ensures.noted;
      test = test_on (g.H.ClassGoes.test c.clauses_of.new.by) tests first c.clauses_of.ensures.test now.invariant.test;
      same = c.clauses_of.ensures.same ∙ now.invariant.same;
      stays = g.T.Types.keeps_on _ _ _ now.invariant.stays c.clauses_of.ensures.stays;
      later = omega (arith, now.invariant.later, c.clauses_of.ensures.cancels.later);
    }

pub returns-clause-all : goal.returns-clause-all
returns-clause-all g c =
    let now = c.loop-question.self in
    all_before now.questions (length now.clauses) (subst (λ n. slice_get now.questions n ≡ None) c.len.ensures (sym c.in_default.ensures.value))
