use Rattle.std.proofs.Common.{[], ap, ◌∙◌, arith}
use Rattle.std.specs.Prelude.{filter_map, fold}
use Rattle.py_scopes.specs.Tables.{static_method_at, with_def}
use Rattle.py_scopes.proofs.Walks.{fold-step}
use Rattle.py_scopes.proofs.Classes.{has-statics, all-taken}
use Rattle.py_scopes.proofs.members.all_statics.Goals as goal

pub loop-occurrence-preserved : goal.loop-occurrence-preserved
loop-occurrence-preserved c =
    let all = c.occurrences-all.result.now in
    fold-step with_def [] c.loop-occurrence.statics.keys c.add_static.new.statics.keys (static_method_at c.args.search.now) all c.loop-occurrence.occurrence-index c.occurrence-item.result c.static_method_at.result
    (omega arith) c.occurrence-item.is c.in_ok-add_static.ensures c.static_method_at.ensures c.loop-occurrence.invariant

pub returns : goal.returns
returns c =
    let all = c.occurrences-all.result.now in
    has-statics c.args.search.now c.loop-occurrence.statics.keys
    (c.loop-occurrence.invariant ∙ ap (λ l. fold with_def [] (filter_map (static_method_at c.args.search.now) l)) (all-taken all c.loop-occurrence.occurrence-index (omega arith) ∙ c.occurrences-all.ensures))
