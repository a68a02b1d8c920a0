use Rattle.std.proofs.Common.{ap, ◌∙◌, ◌&&◌, List}
use Rattle.std.specs.Prelude.{bytes_eq}
use Rattle.std.specs.List.{position_from}
use Rattle.builtin_rows.specs.Rows.{is_function}
use Rattle.builtin_rows.specs.Table.{RowLine}
use Rattle.builtin_rows.proofs.Listed.{rows_are_listed}
use Rattle.builtin_rows.proofs.types.function_number.Goals as goal

pub returns : goal.returns
returns c = c.place_of_function.ensures ∙ ap (λ (lines : List RowLine). position_from (λ line. bytes_eq c.args.text.now line.name && is_function line.owner) 0 lines) rows_are_listed
