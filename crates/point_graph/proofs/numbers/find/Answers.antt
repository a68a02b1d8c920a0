use Rattle.std.proofs.Common.{sym, ◌∙◌, true≢false}
use Rattle.point_graph.proofs.Keys.{found_at, has_any}
use Rattle.point_graph.proofs.numbers.find.Goals as goal

pub returns-in-None-clause-none : goal.returns-in-None-clause-none
returns-in-None-clause-none c = λ e h. true≢false (sym (has_any c.args.points.now.keys c.args.point h) ∙ sym c.in-None.ensures.found)

pub returns-in-Some-clause-some : goal.returns-in-Some-clause-some
returns-in-Some-clause-some c = found_at c.args.points.now.keys c.args.point c.in-Some.at (sym c.in-Some.ensures.index)
