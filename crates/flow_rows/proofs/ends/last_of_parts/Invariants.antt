use Rattle.std.proofs.Common.{◌≡◌, drop}
use Rattle.flow_rows.specs.Ends.{last_in}
use Rattle.flow_rows.proofs.ends.last_of_parts.Given as goal

abbrev pub invariant-loop-part : goal.invariant-loop-part
invariant-loop-part l = last_in l.ends l.end (drop l.part-index l.parts) ≡ last_in l.ends l.fn.here l.parts
