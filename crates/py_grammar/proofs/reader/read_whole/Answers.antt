use Rattle.py_grammar.proofs.Exact.{Grows-cut}
use Rattle.py_grammar.proofs.reader.read_whole.Goals as goal

pub returns-in-Ok-Some-clause-only : goal.returns-in-Ok-Some-clause-only
returns-in-Ok-Some-clause-only c = rw c.in-Ok-Some.field-0-is at c.in-Ok-Some.ensures.only

pub returns-in-Ok-None-clause-older : goal.returns-in-Ok-None-clause-older
returns-in-Ok-None-clause-older c =
    rw c.shrink.ensures (Grows-cut c.args.tree.now c.whole_from.new.tree c.node_count-nodes.result c.name_count-names.result c.node_count-nodes.ensures.count c.name_count-names.ensures.count c.whole_from.ensures.older.grown)

pub returns-in-Ok-None-clause-only : goal.returns-in-Ok-None-clause-only
returns-in-Ok-None-clause-only c = rw c.in-Ok-None.field-0-is at c.in-Ok-None.ensures.only

pub returns-in-Err-clause-older : goal.returns-in-Err-clause-older
returns-in-Err-clause-older c =
    rw c.shrink-in-Err.ensures (Grows-cut c.args.tree.now c.whole_from.new.tree c.node_count-nodes.result c.name_count-names.result c.node_count-nodes.ensures.count c.name_count-names.ensures.count c.whole_from.ensures.older.grown)

pub returns-in-Ok-Some-clause-once : goal.returns-in-Ok-Some-clause-once
returns-in-Ok-Some-clause-once c = rw c.in-Ok-Some.field-0-is at c.in-Ok-Some.ensures.once

pub returns-in-Ok-Some-clause-grows : goal.returns-in-Ok-Some-clause-grows
returns-in-Ok-Some-clause-grows c = rw c.in-Ok-Some.field-0-is at c.in-Ok-Some.ensures.grows
