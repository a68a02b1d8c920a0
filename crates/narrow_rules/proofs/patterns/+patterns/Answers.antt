use Rattle.std.proofs.Common.{◌≡◌, ◌-◌, ℕ, suc, subst, arith, IfOk}
use Rattle.node_shapes.specs.declared.patterns.Pattern.{Pattern}
use Rattle.narrow_rules.specs.Patterns.{pattern_test, test_within}
use Rattle.narrow_rules.proofs.patterns.+patterns.Goals as goal

pub test_of-returns : goal.test_of-returns
test_of-returns g t c =
    let d : suc (c.args.left - 1) ≡ c.args.left = omega (arith, c.if-left-eq0.false) in
    let tree = c.args.tree.now in
    let names = g.N.Names.names c.args.names.now in
    subst (λ (k : ℕ). IfOk c.form_test.result (λ test. test ≡ test_within k names tree c.args.node)) d
    (subst (λ (form : Pattern). IfOk c.form_test.result (λ test. test ≡ pattern_test (test_within (c.args.left - 1) names tree) names tree.nodes c.args.node form)) c.pattern_at.ensures c.form_test.ensures)
