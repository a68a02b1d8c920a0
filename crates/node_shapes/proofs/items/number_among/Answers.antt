use Rattle.std.proofs.Common.{sym, ◌∙◌}
use Rattle.std.proofs.lemmas.Bool.{eq-eqb, ne_eqb}
use Rattle.node_shapes.proofs.Numbers.{found-number, past-number, other-number}
use Rattle.node_shapes.proofs.items.number_among.Goals as goal

pub returns-then-other-node : goal.returns-then-other-node
returns-then-other-node c =
    sym (found-number c.args.rising.now c.args.node c.count_below-number.result c.in-Some.other c.count_below-number.ensures.parts (sym c.node_at.ensures ∙ c.in-Some.is) (eq-eqb c.in-Some.other.0 c.args.node.0 c.if-other-node.true))

pub returns-else-other-node : goal.returns-else-other-node
returns-else-other-node c =
    sym (other-number c.args.rising.now c.args.node c.count_below-number.result c.in-Some.other c.requires c.count_below-number.ensures.parts (sym c.node_at.ensures ∙ c.in-Some.is) (ne_eqb c.in-Some.other.0 c.args.node.0 c.if-other-node.false))

pub returns-in-None : goal.returns-in-None
returns-in-None c = sym (past-number c.args.rising.now c.args.node c.count_below-number.result c.count_below-number.ensures.parts (sym c.node_at.ensures ∙ c.in-None.is))
