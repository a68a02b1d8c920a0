use Rattle.std.specs.List.{flat_map}
use Rattle.narrow_rules.specs.Keep.{standing}
use Rattle.narrow_rules.proofs.ListLemmas.{on_err, one_flat, one_at}
use Rattle.narrow_rules.proofs.RowLemmas.{others_of, standing_some}
use Rattle.narrow_rules.proofs.classes.all_of.Goals as goal

pub returns-in_err-push_standing-clause-free : goal.returns-in_err-push_standing-clause-free
returns-in_err-push_standing-clause-free g c =
    let f = standing (g.N.Names.names c.args.names.now) c.args.standing in let listed = c.args.listed.now in
    on_err _ (others_of (flat_map f listed) (one_flat f listed (standing_some (g.N.Names.names c.args.names.now) c.args.standing) (one_at listed c.loop-class.class-index c.loop-class-test.true)))
