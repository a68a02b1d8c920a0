use Rattle.std.proofs.Common.{◌≡◌, drop}
use Rattle.flow_forms.specs.Clauses.{last_or}
use Rattle.flow_forms.proofs.clauses.last_else.Given as goal

abbrev pub invariant-loop-part : goal.invariant-loop-part
invariant-loop-part l = last_or l.last (drop l.part-index l.parts) ≡ last_or l.fn.here l.parts
