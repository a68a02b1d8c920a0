use Rattle.std.proofs.Common.{◌≡◌, ◌≤◌, ◌∙◌, List, Some, slice_get, length, ap, sym, subst}
use Rattle.py_base.specs.declared.ids.NameId.{NameId}
use Rattle.node_references.specs.Reference.{Reference, reference}
use Rattle.node_references.specs.Chains.{stored}
use Rattle.node_references.proofs.Chaining.{runs_at, stored_at}
use Rattle.node_references.proofs.reference_list.ReferenceList.reference.Goals as goal

pub names_between-names-requires-clause-ordered : goal.names_between-names-requires-clause-ordered
names_between-names-requires-clause-ordered c =
    let found : slice_get c.self.inside.chains c.args.id.0 ≡ Some c.item_at-chain.result = ap (λ chains. slice_get chains c.args.id.0) (sym c.as_slice.ensures) ∙ c.item_at-chain.ensures in
    (runs_at c.self.inside.chains (length c.self.inside.names) c.args.id.0 c.item_at-chain.result c.self.invariant found).0

pub names_between-names-requires-clause-within : goal.names_between-names-requires-clause-within
names_between-names-requires-clause-within c =
    let found : slice_get c.self.inside.chains c.args.id.0 ≡ Some c.item_at-chain.result = ap (λ chains. slice_get chains c.args.id.0) (sym c.as_slice.ensures) ∙ c.item_at-chain.ensures in
    subst (λ (names : List NameId). c.item_at-chain.result.to ≤ length names) (sym c.as_slice-2.ensures)
    (runs_at c.self.inside.chains (length c.self.inside.names) c.args.id.0 c.item_at-chain.result c.self.invariant found).1

pub returns : goal.returns
returns c =
    let found : slice_get c.self.inside.chains c.args.id.0 ≡ Some c.item_at-chain.result = ap (λ chains. slice_get chains c.args.id.0) (sym c.as_slice.ensures) ∙ c.item_at-chain.ensures in
    let names : stored c.self.inside.names c.item_at-chain.result ≡ reference c.item_at-chain.result.root c.names_between-names.result.now =
    ap (λ (list : List NameId). stored list c.item_at-chain.result) (sym c.as_slice-2.ensures) ∙ ap (reference c.item_at-chain.result.root) (sym c.names_between-names.ensures) in
    ap (λ (list : List Reference). slice_get list c.args.id.0) (sym c.self.view_is)
    ∙ stored_at c.self.inside.chains c.self.inside.names c.args.id.0 c.item_at-chain.result found ∙ ap Some names
