use Rattle.std.proofs.Common.{◌≡◌, ◌≤◌, take}
use Rattle.assign_rules.specs.Members.{table_of}
use Rattle.assign_rules.specs.Accepts as spec
use Rattle.assign_rules.proofs.clauses.like_ways.Given as goal

-- the ways to those that were looked at
abbrev pub invariant-loop-other : goal.invariant-loop-other
invariant-loop-other g l =
    let t = table_of l.rules.classes.now (g.F.Names.names l.rules.facts.now) (g.F.Facts.facts l.rules.facts.now) (g.T.Types.assignment l.initial.types) in
    record {
      so_far : l.ways ≡ spec.like_ways t l.one (take l.other-index l.others);
      same : g.T.Types.assignment l.types ≡ g.T.Types.assignment l.initial.types;
      stays : g.T.Types.stays l.initial.types l.types;
      later : g.T.Types.seen l.initial.types ≤ g.T.Types.seen l.types;
    }
