use Rattle.std.proofs.Common.{ap, ◌∙◌}
use Rattle.std.specs.Prelude.{bytes_eq}
use Rattle.std.specs.List.{position_from}
use Rattle.builtin_rows.proofs.Listed.{names_are_listed}
use Rattle.builtin_rows.proofs.types.name_place.Goals as goal

pub returns : goal.returns
returns c = c.place_of.ensures ∙ ap (position_from (bytes_eq c.args.text.now) 0) names_are_listed
