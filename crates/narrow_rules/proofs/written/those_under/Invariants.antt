use Rattle.std.proofs.Common.{◌≡◌, take}
use Rattle.std.specs.List.{filter}
use Rattle.narrow_rules.specs.Ground.{is_under}
use Rattle.narrow_rules.proofs.written.those_under.Given as goal

abbrev pub invariant-loop-member : goal.invariant-loop-member
invariant-loop-member l = l.atoms.items ≡ filter (λ member. is_under l.classes member l.atom) (take l.member-index l.members)
