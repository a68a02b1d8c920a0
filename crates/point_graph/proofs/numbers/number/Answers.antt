use Rattle.point_graph.proofs.Keys.{apart_of, same_self, insert_exact, insert_keeps, number_grows, stored_at}
use Rattle.point_graph.proofs.Ordering.{key_added}
use Rattle.point_graph.proofs.numbers.number.Goals as goal

pub returns-clause-listed : goal.returns-clause-listed
returns-clause-listed c = key_added c.args.points.now.keys c.args.point c.insert_full.new.self.keys c.in_ok-found.ensures.keys

pub returns-clause-at : goal.returns-clause-at
returns-clause-at c = stored_at c.insert_full.new.self.keys c.args.point c.in_ok-found.found.0 c.in_ok-found.ensures.stored

pub returns-clause-exact : goal.returns-clause-exact
returns-clause-exact c = insert_exact c.args.points.now.keys c.args.point c.insert_full.new.self.keys c.in_ok-found.ensures.keys

pub returns-clause-keeps : goal.returns-clause-keeps
returns-clause-keeps c = insert_keeps _ _ _ c.in_ok-found.ensures.keys

pub returns-clause-apart : goal.returns-clause-apart
returns-clause-apart c = apart_of _ same_self _ c.in_ok-found.ensures.unique

pub returns-clause-grows : goal.returns-clause-grows
returns-clause-grows c = number_grows c.args.points.now.keys c.args.point c.insert_full.new.self.keys c.in_ok-found.found.0 c.in_ok-found.ensures.keys
    (apart_of _ same_self _ c.in_ok-found.ensures.unique)
    (stored_at c.insert_full.new.self.keys c.args.point c.in_ok-found.found.0 c.in_ok-found.ensures.stored)
