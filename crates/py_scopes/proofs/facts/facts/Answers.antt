use Rattle.std.proofs.Common.{◌∙◌, arith}
use Rattle.py_scopes.proofs.Whole.{facts-step}
use Rattle.py_scopes.proofs.facts.facts.Goals as goal

pub loop-symbol-preserved : goal.loop-symbol-preserved
loop-symbol-preserved c =
    facts-step c.args.tree.now c.args.instances.now c.args.numbers.now.keys c.as_slice-symbols.result.now c.loop-symbol.symbol-index _ c.contains-hides.result c.loop-symbol.facts c.push.new.self _ (omega arith)
    c.in_ok-facts_by.ensures (c.contains-hides.ensures ∙ c.in_ok-hiders.ensures _) c.in_ok-push.ensures.ok c.loop-symbol.invariant
