use Rattle.std.proofs.Common.{◌≡◌, ◌++◌, ◌-◌, ℕ, suc, subst, arith, OnOk}
use Rattle.node_shapes.specs.declared.patterns.Pattern.{Pattern}
use Rattle.narrow_rules.specs.Patterns.{pattern_captures, captures_within}
use Rattle.narrow_rules.proofs.patterns.+captures.Goals as goal

pub add_captures-returns : goal.add_captures-returns
add_captures-returns t c =
    let d : suc (c.args.left - 1) ≡ c.args.left = omega (arith, c.if-left-eq0.false) in
    let tree = c.args.tree.now in
    subst (λ (k : ℕ). OnOk c.add_by_form.result (c.add_by_form.new.list ≡ c.args.list.now ++ captures_within k tree c.args.top c.args.node)) d
    (subst (λ (form : Pattern). OnOk c.add_by_form.result (c.add_by_form.new.list ≡ c.args.list.now ++ pattern_captures (captures_within (c.args.left - 1) tree) tree.nodes c.args.top c.args.node form)) c.pattern_at.ensures c.add_by_form.ensures)
