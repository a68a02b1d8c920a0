use Rattle.std.proofs.Common.{◌≡◌, take}
use Rattle.std.specs.List.{flat_map}
use Rattle.narrow_rules.specs.Keep.{standing}
use Rattle.narrow_rules.proofs.classes.all_of.Given as goal

abbrev pub invariant-loop-class : goal.invariant-loop-class
invariant-loop-class g l = l.atoms.items ≡ flat_map (standing (g.N.Names.names l.names) l.standing) (take l.class-index l.listed)
