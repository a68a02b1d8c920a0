use Rattle.std.proofs.Common.{[], ap, ◌∙◌, arith}
use Rattle.std.specs.Prelude.{filter_map, fold}
use Rattle.py_scopes.specs.Members.{hider_at, with_symbol}
use Rattle.py_scopes.proofs.Walks.{fold-step}
use Rattle.py_scopes.proofs.Classes.{all-taken}
use Rattle.py_scopes.proofs.Sets.{has-hiders}
use Rattle.py_scopes.proofs.members.hiders.Goals as goal

pub loop-occurrence-preserved : goal.loop-occurrence-preserved
loop-occurrence-preserved c =
    let all = c.occurrences-all.result.now in
    fold-step with_symbol [] c.loop-occurrence.hiders.keys c.add_symbol.new.symbols.keys (hider_at c.args.instances.now) all c.loop-occurrence.occurrence-index c.occurrence-item.result c.hider_at.result
    (omega arith) c.occurrence-item.is c.in_ok-add_symbol.ensures c.hider_at.ensures c.loop-occurrence.invariant

pub returns : goal.returns
returns c =
    let all = c.occurrences-all.result.now in
    has-hiders c.args.instances.now c.loop-occurrence.hiders.keys
    (c.loop-occurrence.invariant ∙ ap (λ l. fold with_symbol [] (filter_map (hider_at c.args.instances.now) l)) (all-taken all c.loop-occurrence.occurrence-index (omega arith) ∙ c.occurrences-all.ensures))
