use Rattle.std.proofs.Common.{length, List, sym, subst, arith}
use Rattle.node_references.specs.declared.reference_list.Chain.{Chain}
use Rattle.node_references.specs.Chains.{AreRuns}
use Rattle.node_references.proofs.Chaining.{runs_snoc}
use Rattle.node_references.proofs.reference_list.ReferenceList.push_root.Goals as goal

pub invariant_of-self-2 : goal.invariant_of-self-2
invariant_of-self-2 c =
    let added : Chain = record { root = c.args.root; from = 0; to = 0 } in
    subst (λ (chains : List Chain). AreRuns (length c.self.inside.names) chains) (sym c.in_ok-push.ensures.ok)
    (runs_snoc c.self.inside.chains added (length c.self.inside.names) c.self.invariant (omega arith) (omega arith))
