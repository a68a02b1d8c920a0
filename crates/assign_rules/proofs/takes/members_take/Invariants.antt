use Rattle.std.proofs.Common.{◌≡◌, ◌≤◌, drop}
use Rattle.std.specs.List.{list_all, flat_map}
use Rattle.assign_rules.specs.Members.{table_of}
use Rattle.assign_rules.specs.Takes.{takes, bound}
use Rattle.assign_rules.proofs.takes.members_take.Given as goal

abbrev pub invariant-loop-member : goal.invariant-loop-member
invariant-loop-member g l =
    let facts = g.F.Facts.facts l.rules.facts.now in
    let t = table_of l.rules.classes.now (g.F.Names.names l.rules.facts.now) facts (g.T.Types.assignment l.initial.types) in
    record {
      left : list_all (takes facts l.count) (flat_map (bound t) (drop l.member-index l.members)) ≡ list_all (takes facts l.count) (flat_map (bound t) l.members);
      same : g.T.Types.assignment l.types ≡ g.T.Types.assignment l.initial.types;
      stays : g.T.Types.stays l.initial.types l.types;
      later : g.T.Types.seen l.initial.types ≤ g.T.Types.seen l.types;
    }
