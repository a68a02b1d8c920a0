use Rattle.std.proofs.Common.{◌≡◌, length}
use Rattle.assign_rules.specs.Places.{IsAt, IsGrown}
use Rattle.assign_rules.proofs.Placed.{Done}
use Rattle.assign_rules.proofs.asked.Asked.places.Given as goal

abbrev pub invariant-loop-question : goal.invariant-loop-question
invariant-loop-question l = record {
  grown : IsGrown l.initial.self.questions l.self.questions;
  clauses : l.self.clauses ≡ l.initial.self.clauses;
  made : Done (IsAt l.self.questions) l.fn.way l.left l.places;
}

abbrev pub decreases-loop-question : goal.decreases-loop-question
decreases-loop-question l = length l.left
