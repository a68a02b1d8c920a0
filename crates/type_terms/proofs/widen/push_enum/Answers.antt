use Rattle.std.proofs.Common.{◌≡◌, ◌++◌, Some, subst, sym, rules}
use Rattle.type_terms.specs.Types.{IsWithin}
use Rattle.type_terms.specs.Widen.{all_members, HasLast}
use Rattle.type_terms.proofs.WidenLemmas.{already, within_back}
use Rattle.type_terms.proofs.widen.push_enum.Goals as goal

pub returns-then-eq-clause-alike : goal.returns-then-eq-clause-alike
returns-then-eq-clause-alike g c =
    let names = g.F.Names.names c.args.facts.now in
    let is : c.args.last.now ≡ Some c.args.class = search rules in
    already c.args.atoms.now.items (all_members names c.args.class) (subst (λ o. HasLast names o c.args.atoms.now.items) is c.requires)

pub returns-clause-last : goal.returns-clause-last
returns-clause-last g c =
    let all = all_members (g.F.Names.names c.args.facts.now) c.args.class in
    let pushed : c.push_members.new.atoms.items ≡ c.args.atoms.now.items ++ all = search rules in
    subst (IsWithin all) (sym pushed) (within_back c.args.atoms.now.items all)
