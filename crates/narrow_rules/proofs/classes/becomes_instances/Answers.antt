use Rattle.std.proofs.Common.{◌≡◌, true, rules}
use Rattle.narrow_rules.specs.Ground.{instances}
use Rattle.narrow_rules.proofs.ListLemmas.{on_err}
use Rattle.narrow_rules.proofs.RowLemmas.{becomes_others, instances_some}
use Rattle.narrow_rules.proofs.classes.becomes_instances.Goals as goal

pub returns-in_err-push_instances-clause-free : goal.returns-in_err-push_instances-clause-free
returns-in_err-push_instances-clause-free g c =
    let names = g.N.Names.names c.args.names.now in
    let positive : c.args.positive ≡ true = search rules in
    on_err _ (becomes_others c.args.positive (instances names c.args.class) positive (instances_some names c.args.class))
