use Rattle.std.proofs.Common.{◌≡◌, ◌∷◌, ◌++◌, [], subst, sym, rules}
use Rattle.std.specs.Prelude.{OnOk}
use Rattle.type_terms.specs.Widen.{widened}
use Rattle.type_terms.proofs.WidenLemmas.{plain, alike_pushed, last_pushed}
use Rattle.type_terms.proofs.widen.push_widened.Goals as goal

pub returns-in_ok-copy_atom-in_default : goal.returns-in_ok-copy_atom-in_default
returns-in_ok-copy_atom-in_default g c =
    let names = g.F.Names.names c.args.facts.now in
    let r = c.push.result in let old = c.args.atoms.now.items in let new = c.push.new.atoms.items in
    let pushed : OnOk r (new ≡ old ++ c.args.atom.now ∷ []) = search rules in
    let whole = subst (λ more. OnOk r (new ≡ old ++ more)) (sym (plain names c.args.atom.now c.in_default.not-Lit)) pushed in
    record {
      alike = alike_pushed r old new (widened names c.args.atom.now) whole;
      last = last_pushed r names c.args.last.now old new (widened names c.args.atom.now) c.requires whole;
    }
