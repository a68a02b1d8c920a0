use Rattle.std.proofs.Common.{◌≡◌, length}
use Rattle.assign_rules.specs.Places.{WaysAt, IsGrown}
use Rattle.assign_rules.proofs.Placed.{Done}
use Rattle.assign_rules.proofs.asked.Asked.all_ways.Given as goal

abbrev pub invariant-loop-ways : goal.invariant-loop-ways
invariant-loop-ways l = record {
  grown : IsGrown l.initial.self.questions l.self.questions;
  clauses : l.self.clauses ≡ l.initial.self.clauses;
  made : Done (WaysAt l.self.questions) l.fn.clauses l.left l.placed;
}

abbrev pub decreases-loop-ways : goal.decreases-loop-ways
decreases-loop-ways l = length l.left
