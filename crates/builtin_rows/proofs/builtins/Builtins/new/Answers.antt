use Rattle.std.proofs.Common.{◌∙◌, ap, length, refl}
use Rattle.std.proofs.lemmas.List.{length-map}
use Rattle.builtin_rows.specs.Rows.{row_of}
use Rattle.builtin_rows.specs.Table.{rows}
use Rattle.builtin_rows.proofs.NewLemmas.{types_listed, held_listed, members_listed, rows_listed}
use Rattle.builtin_rows.proofs.builtins.Builtins.new.Goals as goal

pub invariant_of-result : goal.invariant_of-result
invariant_of-result c = record {
  types_are = c.in_ok-types_of.ensures ∙ types_listed;
  held_are = c.in_ok-held_of.ensures ∙ held_listed;
  members_are = c.in_ok-members_of.ensures ∙ members_listed;
  rows_are = c.in_ok-rows_of.ensures ∙ rows_listed;
  other_is = refl;
}

pub returns : goal.returns
returns c = ap length (c.in_ok-rows_of.ensures ∙ rows_listed) ∙ length-map rows row_of
