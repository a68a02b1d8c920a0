use Rattle.std.proofs.Common.{None, length, arith, refl}
use Rattle.py_blocks.proofs.Rows.{node-at, rows-next, rows-end}
use Rattle.py_blocks.proofs.facts.facts_of_lines.Goals as goal

pub loop-line-init : goal.loop-line-init
loop-line-init c = rw c.new-facts.ensures refl

pub facts_of-requires-clause-within : goal.facts_of-requires-clause-within
facts_of-requires-clause-within c =
    node-at (length c.args.tree.now.nodes) c.args.lines.now c.loop-line.line-index (record { column = 0; fault = None; tree = None }) c.requires.within (omega arith)

pub loop-line-preserved : goal.loop-line-preserved
loop-line-preserved c =
    rows-next c.args.tree.now c.args.lines.now c.loop-line.line-index (record { column = 0; fault = None; tree = None }) c.loop-line.facts c.push.new.self _ c.in_ok-fact.fact (omega arith) c.in_ok-push.ensures.ok c.in_ok-fact.ensures c.loop-line.invariant

pub returns : goal.returns
returns c = rows-end c.args.tree.now c.args.lines.now c.loop-line.line-index c.loop-line.facts _ (omega arith) c.loop-line.invariant
