-- Parameters without a default come before those with one, told one after the other (Python 3.12 language reference, 8.7, "Function
-- definitions").
use Rattle.std.specs.Prelude.{Bool, true, false, Option, Some, None, List, if◌then◌else◌}
use Rattle.std.specs.List.{list_all}
use Rattle.py_blocks.specs.Facts.{are_ordered}

-- whether a default has been seen behind one more parameter, and None where one was and this has none
abbrev pub seen_after : Bool → Option Bool → Option Bool
seen_after seen None = Some seen
seen_after seen (Some true) = Some true
seen_after true (Some false) = None
seen_after false (Some false) = Some false

-- the others are ordered behind those before
abbrev pub ordered_after : Bool → List Bool → Bool
ordered_after seen bs = if seen then list_all (λ b. b) bs else are_ordered bs
