use Rattle.std.proofs.Common.{◌≡◌, take}
use Rattle.std.specs.List.{flat_map, filter}
use Rattle.class_rows.specs.Rows.{is_sub_of}
use Rattle.narrow_rules.specs.Keep.{standing}
use Rattle.narrow_rules.proofs.classes.those_below.Given as goal

abbrev pub invariant-loop-low : goal.invariant-loop-low
invariant-loop-low g l = l.atoms.items ≡ flat_map (standing (g.N.Names.names l.names) l.standing) (filter (λ low. is_sub_of l.classes low l.class) (take l.low-index l.listed))
