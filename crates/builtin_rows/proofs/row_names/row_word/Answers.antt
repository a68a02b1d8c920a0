use Rattle.std.proofs.Common.{◌∙◌}
use Rattle.builtin_rows.proofs.RowWord.{word_is}
use Rattle.builtin_rows.proofs.row_names.row_word.Goals as goal

pub returns : goal.returns
returns c = c.name_at.ensures ∙ word_is c.args.row
