use Rattle.std.proofs.Common.{sym, subst, ◌∙◌}
use Rattle.assign_rules.specs.Places.{IsAt}
use Rattle.assign_rules.proofs.Placed.{Done, done_more, grown_on}
use Rattle.assign_rules.proofs.asked.Asked.places.Goals as goal

pub loop-question-preserved : goal.loop-question-preserved
loop-question-preserved c =
    let now = c.loop-question in let questions = c.place_of.new.self.questions in
    record {
      grown = grown_on c.args.self.now.questions now.self.questions questions now.invariant.grown c.place_of.ensures.grown;
      clauses = c.place_of.ensures.clauses ∙ now.invariant.clauses;
      made = subst (Done (IsAt questions) c.args.way c.pop.new.self) (sym c.in_ok-push.ensures.ok)
          (done_more (IsAt now.self.questions) (IsAt questions) (λ q p. c.place_of.ensures.grown q p) c.args.way now.left c.pop.new.self now.places c.in-Some.question c.in_ok-place.place c.in-Some.ensures.last c.in_ok-place.ensures.at now.invariant.made);
    }
