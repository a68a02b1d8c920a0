use Rattle.std.proofs.Common.{◌≡◌, ◌≤◌, take}
use Rattle.std.specs.Prelude.{All}
use Rattle.assign_rules.specs.Members.{table_of}
use Rattle.assign_rules.specs.Accepts.{SameTest, IsTaken}
use Rattle.assign_rules.specs.Clauses.{AreClauses}
use Rattle.assign_rules.proofs.clauses.accepted_clauses.Given as goal

abbrev pub invariant-loop-low : goal.invariant-loop-low
invariant-loop-low g l =
    let s = g.T.Types.assignment l.initial.types in
    let t = table_of l.rules.classes.now (g.F.Names.names l.rules.facts.now) (g.F.Facts.facts l.rules.facts.now) s in
    record {
      so_far : AreClauses (λ set. All (IsTaken t (g.H.ClassGoes.test l.initial.by s) set l.target) (take l.low-index l.source)) l.clauses;
      test : SameTest (g.H.ClassGoes.test l.by) (g.H.ClassGoes.test l.initial.by);
      same : g.T.Types.assignment l.types ≡ s;
      stays : g.T.Types.stays l.initial.types l.types;
      later : g.T.Types.seen l.initial.types ≤ g.T.Types.seen l.types;
    }
