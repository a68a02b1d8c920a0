use Rattle.std.proofs.Common.{◌≡◌, drop}
use Rattle.std.specs.List.{list_all}
use Rattle.assign_rules.specs.Takes.{takes}
use Rattle.assign_rules.proofs.takes.all_take.Given as goal

abbrev pub invariant-loop-atom : goal.invariant-loop-atom
invariant-loop-atom g l =
    let facts = g.F.Facts.facts l.rules.facts.now in
    list_all (takes facts l.count) (drop l.atom-index l.atoms) ≡ list_all (takes facts l.count) l.atoms
