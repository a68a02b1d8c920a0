use Rattle.std.proofs.Common.{◌≡◌, ◌≤◌, take}
use Rattle.std.specs.Prelude.{All}
use Rattle.assign_rules.specs.Members.{table_of}
use Rattle.assign_rules.specs.Accepts.{like_ways, HasWay}
use Rattle.assign_rules.specs.Clauses.{Adds}
use Rattle.assign_rules.proofs.clauses.add_likes.Given as goal

abbrev pub invariant-loop-one : goal.invariant-loop-one
invariant-loop-one g l =
    let s = g.T.Types.assignment l.initial.types in
    let t = table_of l.rules.classes.now (g.F.Names.names l.rules.facts.now) (g.F.Facts.facts l.rules.facts.now) s in
    record {
      so_far : Adds (λ set. All (λ x. HasWay set (like_ways t x l.others)) (take l.one-index l.members)) l.initial.clauses l.clauses;
      same : g.T.Types.assignment l.types ≡ s;
      stays : g.T.Types.stays l.initial.types l.types;
      later : g.T.Types.seen l.initial.types ≤ g.T.Types.seen l.types;
    }
