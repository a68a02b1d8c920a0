use Rattle.std.proofs.Common.{◌≡◌, length}
use Rattle.assign_rules.specs.Places.{WayAt, IsGrown}
use Rattle.assign_rules.proofs.Placed.{Done}
use Rattle.assign_rules.proofs.asked.Asked.ways.Given as goal

abbrev pub invariant-loop-way : goal.invariant-loop-way
invariant-loop-way l = record {
  grown : IsGrown l.initial.self.questions l.self.questions;
  clauses : l.self.clauses ≡ l.initial.self.clauses;
  made : Done (WayAt l.self.questions) l.fn.ways l.left l.placed;
}

abbrev pub decreases-loop-way : goal.decreases-loop-way
decreases-loop-way l = length l.left
