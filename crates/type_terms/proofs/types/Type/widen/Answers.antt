use Rattle.std.proofs.Common.{◌≡◌, ◌<◌, ◌≤◌, length, get_or, subst}
use Rattle.std.specs.List.{flat_map}
use Rattle.std.specs.Prelude.{IfOk}
use Rattle.std.proofs.lemmas.List.{take_all}
use Rattle.type_terms.specs.Widen.{widened, IsAlike}
use Rattle.type_terms.proofs.WidenLemmas.{alike_more, widen_is}
use Rattle.type_terms.proofs.types.Type.widen.Goals as goal

pub loop-atom-preserved : goal.loop-atom-preserved
loop-atom-preserved g c =
    let now = c.loop-atom in let i = now.atom-index in let x = c.atom-item.result in let all = c.members-atom-items.ensures.value in
    let within = subst (λ xs. i < length xs) all c.loop-atom-test.true in
    let is = subst (λ xs. x ≡ get_or xs i x) all c.atom-item.is in
    record {
      all = all;
      alike = alike_more (widened (g.F.Names.names c.args.facts.now)) c.args.self.now i x now.atoms.items c.push_widened.new.atoms.items within is now.invariant.alike c.in_ok-push_widened.ensures.alike;
      last = c.in_ok-push_widened.ensures.last;
    }

pub returns : goal.returns
returns g c =
    let now = c.loop-atom in let names = g.F.Names.names c.args.facts.now in let self = c.args.self.now in
    let ended = subst (λ xs. length xs ≤ now.atom-index) c.members-atom-items.ensures.value c.loop-atom-test.false in
    let alike = subst (λ xs. IsAlike now.atoms.items (flat_map (widened names) xs)) (take_all now.atom-index self ended) now.invariant.alike in
    subst (λ w. IfOk c.of.result (λ t. t ≡ w)) (widen_is names self now.atoms.items alike) c.of.ensures
