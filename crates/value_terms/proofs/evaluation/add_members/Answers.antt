use Rattle.std.proofs.Common.{◌++◌, subst}
use Rattle.value_terms.specs.Told.{IsAlike}
use Rattle.value_terms.proofs.EvaluationLemmas.{one_moved, all_moved}
use Rattle.value_terms.proofs.evaluation.add_members.Goals as goal

pub loop-member-preserved : goal.loop-member-preserved
loop-member-preserved c =
    one_moved (c.args.atoms.now.items ++ c.into_slot-members.result) c.loop-member.atoms.items c.loop-member.members c.pop.new.self c.in-Some.member c.push.new.self.items
    c.loop-member.invariant c.in-Some.ensures c.in_ok-push.ensures.items

pub returns : goal.returns
returns c =
    subst (λ ty. IsAlike (c.args.atoms.now.items ++ ty) c.loop-member.atoms.items) c.into_slot-members.ensures.value
    (all_moved (c.args.atoms.now.items ++ c.into_slot-members.result) c.loop-member.atoms.items c.loop-member.members c.loop-member.invariant c.in_default.ensures.0)
