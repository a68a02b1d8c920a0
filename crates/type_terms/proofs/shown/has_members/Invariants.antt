use Rattle.std.proofs.Common.{◌≡◌, ◌-◌}
use Rattle.type_terms.specs.Text.{has_members}
use Rattle.type_terms.proofs.shown.has_members.Given as goal

-- the members up to here are there, so the rest decides
abbrev pub invariant-loop-place : goal.invariant-loop-place
invariant-loop-place l = has_members l.ty l.class 0 l.count ≡ has_members l.ty l.class l.place (l.count - l.place)
