use Rattle.std.proofs.Common.{◌≡◌, ◌++◌, drop, map}
use Rattle.flow_rows.specs.declared.edge.EdgeKind.TheVariants.{Plain}
use Rattle.flow_rows.specs.Points.{edge}
use Rattle.flow_rows.specs.Ends.{last_of}
use Rattle.flow_rows.proofs.matching.add_case_ends.Given as goal

abbrev pub invariant-loop-case : goal.invariant-loop-case
invariant-loop-case l =
    l.arrows ++ map (λ k. edge (last_of l.ends k l.copy) l.end Plain) (drop l.case-index l.cases)
    ≡ l.initial.arrows ++ map (λ k. edge (last_of l.ends k l.copy) l.end Plain) l.cases
