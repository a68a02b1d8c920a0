-- How many plain arguments a row takes: from the least to the most, but `type` takes one or three.
-- From: the Python 3.12 library reference, "Built-in Functions", `type`.
use Rattle.std.specs.Prelude.{ℕ, Bool, true, false, Option, Some, None, nat_le, not, ◌&&◌, ◌==◌}
use Rattle.type_terms.specs.declared.rows.Row.{Row}
use Rattle.type_terms.specs.declared.rows.RowResult.{RowResult}
use Rattle.type_terms.specs.declared.rows.RowResult.TheVariants as form

abbrev pub is_within : Option ℕ → ℕ → Bool
is_within (Some most) count = nat_le count most
is_within None count = true

abbrev pub skips : RowResult → ℕ → Bool
skips form.ClassOfEach count = count == 2
skips _ count = false

unfoldable pub takes : Row → ℕ → Bool
takes row count = nat_le row.least count && is_within row.most count && not (skips row.result count)
