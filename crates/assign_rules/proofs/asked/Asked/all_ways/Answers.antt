use Rattle.std.proofs.Common.{sym, subst, ◌∙◌}
use Rattle.assign_rules.specs.Places.{WaysAt}
use Rattle.assign_rules.proofs.Placed.{Done, done_more, grown_on, ways_later}
use Rattle.assign_rules.proofs.asked.Asked.all_ways.Goals as goal

pub loop-ways-preserved : goal.loop-ways-preserved
loop-ways-preserved c =
    let now = c.loop-ways in let questions = c.ways.new.self.questions in
    record {
      grown = grown_on c.args.self.now.questions now.self.questions questions now.invariant.grown c.ways.ensures.grown;
      clauses = c.ways.ensures.clauses ∙ now.invariant.clauses;
      made = subst (Done (WaysAt questions) c.args.clauses c.pop.new.self) (sym c.in_ok-push.ensures.ok)
          (done_more (WaysAt now.self.questions) (WaysAt questions) (ways_later now.self.questions c.ways.new.self.questions c.ways.ensures.grown) c.args.clauses now.left c.pop.new.self now.placed c.in-Some.ways c.in_ok-ways.ways c.in-Some.ensures.last c.in_ok-ways.ensures.at now.invariant.made);
    }
