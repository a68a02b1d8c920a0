use Rattle.std.proofs.Common.{sym, subst, ◌∙◌}
use Rattle.assign_rules.specs.Places.{WayAt}
use Rattle.assign_rules.proofs.Placed.{Done, done_more, grown_on, way_later}
use Rattle.assign_rules.proofs.asked.Asked.ways.Goals as goal

pub loop-way-preserved : goal.loop-way-preserved
loop-way-preserved c =
    let now = c.loop-way in let questions = c.places.new.self.questions in
    record {
      grown = grown_on c.args.self.now.questions now.self.questions questions now.invariant.grown c.places.ensures.grown;
      clauses = c.places.ensures.clauses ∙ now.invariant.clauses;
      made = subst (Done (WayAt questions) c.args.ways c.pop.new.self) (sym c.in_ok-push.ensures.ok)
          (done_more (WayAt now.self.questions) (WayAt questions) (way_later now.self.questions c.places.new.self.questions c.places.ensures.grown) c.args.ways now.left c.pop.new.self now.placed c.in-Some.way c.in_ok-places.places c.in-Some.ensures.last c.in_ok-places.ensures.at now.invariant.made);
    }
