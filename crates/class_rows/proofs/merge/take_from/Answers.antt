use Rattle.std.proofs.Common.{sym, ◌∙◌}
use Rattle.class_rows.proofs.Picking.{without_taken, without_kept}
use Rattle.class_rows.proofs.merge.take_from.Goals as goal

pub returns-then-begins_with-clause-list : goal.returns-then-begins_with-clause-list
returns-then-begins_with-clause-list c =
    c.take_head.ensures ∙ without_taken c.args.class c.args.list.now (sym c.begins_with.ensures ∙ c.if-begins_with.true) c.requires.good

pub returns-else-begins_with-clause-list : goal.returns-else-begins_with-clause-list
returns-else-begins_with-clause-list c =
    without_kept c.args.class c.args.list.now (sym c.begins_with.ensures ∙ c.if-begins_with.false) c.requires.good
