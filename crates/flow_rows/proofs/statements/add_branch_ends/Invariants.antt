use Rattle.std.proofs.Common.{◌≡◌, ◌++◌, drop, map}
use Rattle.flow_rows.specs.declared.edge.EdgeKind.TheVariants.{Plain}
use Rattle.flow_rows.specs.Points.{edge}
use Rattle.flow_rows.specs.Ends.{last_of}
use Rattle.flow_rows.proofs.statements.add_branch_ends.Given as goal

abbrev pub invariant-loop-branch : goal.invariant-loop-branch
invariant-loop-branch l =
    l.arrows ++ map (λ b. edge (last_of l.ends b.body l.copy) l.end Plain) (drop l.branch-index l.branches)
    ≡ l.initial.arrows ++ map (λ b. edge (last_of l.ends b.body l.copy) l.end Plain) l.branches
