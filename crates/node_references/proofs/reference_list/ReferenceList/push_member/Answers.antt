use Rattle.std.proofs.Common.{◌≡◌, ◌∙◌, ◌++◌, ◌∷◌, [], List, Some, slice_get, length, ap, sym, subst}
use Rattle.node_references.specs.declared.reference_list.Chain.{Chain}
use Rattle.node_references.specs.Reference.{Reference}
use Rattle.node_references.specs.References.{member}
use Rattle.node_references.specs.Chains.{stored, references_of, AreRuns}
use Rattle.node_references.proofs.Chaining.{runs_at, runs_longer, runs_snoc, kept_longer, stored_at, member_pushed, on_err, up_to}
use Rattle.node_references.proofs.reference_list.ReferenceList.push_member.Goals as goal

pub lengthen-requires-clause-ordered : goal.lengthen-requires-clause-ordered
lengthen-requires-clause-ordered c =
    let found : slice_get c.self.inside.chains c.args.of.0 ≡ Some c.item_at-chain.result = ap (λ chains. slice_get chains c.args.of.0) (sym c.as_slice.ensures) ∙ c.item_at-chain.ensures in
    (runs_at c.self.inside.chains (length c.self.inside.names) c.args.of.0 c.item_at-chain.result c.self.invariant found).0

pub lengthen-requires-clause-within : goal.lengthen-requires-clause-within
lengthen-requires-clause-within c =
    let found : slice_get c.self.inside.chains c.args.of.0 ≡ Some c.item_at-chain.result = ap (λ chains. slice_get chains c.args.of.0) (sym c.as_slice.ensures) ∙ c.item_at-chain.ensures in
    (runs_at c.self.inside.chains (length c.self.inside.names) c.args.of.0 c.item_at-chain.result c.self.invariant found).1

pub invariant_of-self : goal.invariant_of-self
invariant_of-self c = runs_longer c.self.inside.chains c.self.inside.names c.lengthen.new.names c.self.invariant c.lengthen.ensures.front

pub returns-in_err-from-clause-err : goal.returns-in_err-from-clause-err
returns-in_err-from-clause-err c =
    on_err c.from_residual.result (kept_longer c.self.inside.chains c.self.inside.names c.lengthen.new.names c.self.invariant c.lengthen.ensures.front ∙ c.self.view_is)

pub invariant_of-self-in_err-push : goal.invariant_of-self-in_err-push
invariant_of-self-in_err-push c =
    subst (λ (chains : List Chain). AreRuns (length c.lengthen.new.names) chains) (sym c.in_err-push.ensures.err)
    (runs_longer c.self.inside.chains c.self.inside.names c.lengthen.new.names c.self.invariant c.lengthen.ensures.front)

pub returns-in_err-push-clause-err : goal.returns-in_err-push-clause-err
returns-in_err-push-clause-err c =
    on_err c.from_residual-in_err-push.result
    (ap (references_of c.lengthen.new.names) c.in_err-push.ensures.err
    ∙ kept_longer c.self.inside.chains c.self.inside.names c.lengthen.new.names c.self.invariant c.lengthen.ensures.front ∙ c.self.view_is)

pub invariant_of-self-2 : goal.invariant_of-self-2
invariant_of-self-2 c =
    let added : Chain = record { root = c.item_at-chain.result.root; from = c.in_ok-from.from; to = c.len-to.result } in
    subst (λ (chains : List Chain). AreRuns (length c.lengthen.new.names) chains) (sym c.in_ok-push.ensures.ok)
    (runs_snoc c.self.inside.chains added (length c.lengthen.new.names)
    (runs_longer c.self.inside.chains c.self.inside.names c.lengthen.new.names c.self.invariant c.lengthen.ensures.front)
    (rw c.len-to.ensures c.in_ok-from.ensures.within) (up_to c.len-to.result (length c.lengthen.new.names) c.len-to.ensures))

pub returns-clause-ok : goal.returns-clause-ok
returns-clause-ok c =
    let found : slice_get c.self.inside.chains c.args.of.0 ≡ Some c.item_at-chain.result = ap (λ chains. slice_get chains c.args.of.0) (sym c.as_slice.ensures) ∙ c.item_at-chain.ensures in (
      stored c.self.inside.names c.item_at-chain.result,
      ap (λ (list : List Reference). slice_get list c.args.of.0) (sym c.self.view_is) ∙ stored_at c.self.inside.chains c.self.inside.names c.args.of.0 c.item_at-chain.result found,
      member_pushed c.self.inside.chains c.push.new.self c.self.inside.names c.lengthen.new.names c.item_at-chain.result c.args.name c.in_ok-from.from c.len-to.result
          c.self.invariant c.lengthen.ensures.front c.in_ok-from.ensures.run c.len-to.ensures c.in_ok-push.ensures.ok
          ∙ ap (λ (list : List Reference). list ++ member (stored c.self.inside.names c.item_at-chain.result) c.args.name ∷ []) c.self.view_is,
    )
