use Rattle.std.proofs.Common.{sym, ap, ◌∙◌}
use Rattle.std.specs.Prelude.{is_some}
use Rattle.class_rows.specs.Rows.{member_of}
use Rattle.narrow_rules.specs.Ground.{has_name}
use Rattle.narrow_rules.proofs.Named.{call_named}
use Rattle.narrow_rules.proofs.ground.has_call.Goals as goal

pub returns : goal.returns
unfolding has_name
returns c = c.is_some.ensures ∙ ap is_some (c.member.ensures ∙ ap (member_of c.args.classes.now c.args.class) (sym call_named))
