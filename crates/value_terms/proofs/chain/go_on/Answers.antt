use Rattle.std.proofs.Common.{rules, ◌≡◌, []}
use Rattle.value_terms.proofs.ChainLemmas.{says_all}
use Rattle.value_terms.proofs.chain.go_on.Goals as goal

pub returns : goal.returns
returns g c =
    let none : c.new-out.result ≡ [] = search rules in
    says_all (g.S.Steps.rule c.args.steps.now) c.new-out.result c.push_parts.new.out _ none c.in_ok-push_parts.ensures.says
