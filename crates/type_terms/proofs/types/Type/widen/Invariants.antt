use Rattle.std.proofs.Common.{◌≡◌, take}
use Rattle.std.specs.List.{flat_map}
use Rattle.type_terms.specs.Widen.{widened, IsAlike, HasLast}
use Rattle.type_terms.proofs.types.Type.widen.Given as goal

-- what the atoms before this one become is there
abbrev pub invariant-loop-atom : goal.invariant-loop-atom
invariant-loop-atom g l =
    let names = g.F.Names.names l.facts in
    record {
      all : l.atom-items ≡ l.self;
      alike : IsAlike l.atoms.items (flat_map (widened names) (take l.atom-index l.self));
      last : HasLast names l.last l.atoms.items;
    }
