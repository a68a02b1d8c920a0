use Rattle.std.proofs.Common.{◌≡◌, ◌≤◌, ◌-◌, ◌^◌, length}
use Rattle.assign_rules.specs.Members.{table_of}
use Rattle.assign_rules.specs.Places.{IsGrown, AreTold}
use Rattle.assign_rules.specs.Accepts.{SameTest}
use Rattle.assign_rules.proofs.asked.Asked.ask_all.Given as goal

abbrev pub invariant-loop-question : goal.invariant-loop-question
invariant-loop-question g l =
    let s = g.T.Types.assignment l.initial.types in
    let t = table_of l.rules.classes.now (g.F.Names.names l.rules.facts.now) (g.F.Facts.facts l.rules.facts.now) s in
    record {
      grown : IsGrown l.initial.self.questions l.self.questions;
      told : AreTold t (g.H.ClassGoes.test l.initial.by s) l.self.questions l.self.clauses;
      test : SameTest (g.H.ClassGoes.test l.by) (g.H.ClassGoes.test l.initial.by);
      same : g.T.Types.assignment l.types ≡ s;
      stays : g.T.Types.stays l.initial.types l.types;
      later : g.T.Types.seen l.initial.types ≤ g.T.Types.seen l.types;
    }

abbrev pub decreases-loop-question : goal.decreases-loop-question
decreases-loop-question g l = 2 ^ 64 - length l.self.clauses
