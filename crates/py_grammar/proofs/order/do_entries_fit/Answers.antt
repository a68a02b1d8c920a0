use Rattle.std.proofs.Common.{◌∙◌, sym}
use Rattle.py_grammar.proofs.OrderLemmas.{entries-dict, entries-set}
use Rattle.py_grammar.proofs.order.do_entries_fit.Goals as goal

pub returns-then-makes_dict : goal.returns-then-makes_dict
returns-then-makes_dict c = c.are_of_dict.ensures ∙ entries-dict c.in-Some.first.now c.in-Some.others.now _ c.in-Some.ensures.cases.0 (sym c.if-makes_dict.ensures)

pub returns-else-makes_dict : goal.returns-else-makes_dict
returns-else-makes_dict c = c.are_of_set.ensures ∙ entries-set c.in-Some.first.now c.in-Some.others.now _ c.in-Some.ensures.cases.0 (sym c.if-makes_dict.ensures)
