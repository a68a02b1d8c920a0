use Rattle.std.proofs.Common.{ℕ, List, Option, Some, sym, ◌∙◌, ap, subst, ◌+◌}
use Rattle.std.proofs.lemmas.List.{take_rest}
use Rattle.py_tokens.specs.States.{kind_from, state_kind}
use Rattle.py_tokens.specs.declared.states.State.{State}
use Rattle.py_tokens.specs.declared.kinds.Kind.{Kind}
use Rattle.py_tokens.proofs.Fronts.{Read, read_new, read_stuck, read_step, read_all}
use Rattle.py_tokens.proofs.states.longest_from.Goals as goal

pub loop-i-init : goal.loop-i-init
loop-i-init c =
    subst (λ (b : Option (ℕ × Kind)). Read kind_from (Some c.args.start) c.args.text.now b (Some c.args.start) 0) (sym c.longer-best.ensures)
    (read_new kind_from (Some c.args.start) c.args.text.now c.state_kind.result (sym c.state_kind.ensures))

pub returns-in-None : goal.returns-in-None
returns-in-None c =
    read_stuck kind_from (Some _) _ _ _ _ c.index-text-i.is c.loop-i-test.true c.loop-i.best c.loop-i.invariant
    (λ t rest. ap (λ (p : Option State). kind_from p t rest) (sym c.state_next.ensures ∙ c.in-None.is))

pub loop-i-preserved : goal.loop-i-preserved
loop-i-preserved c =
    let r = read_step kind_from (Some c.args.start) _ _ _ _ c.index-text-i.is c.loop-i-test.true c.loop-i.best (Some c.in-Some.next) c.state_kind-in-Some.result c.loop-i.invariant
    (λ t rest. ap (λ (p : Option State). kind_from p t rest) (sym c.state_next.ensures ∙ c.in-Some.is))
    (sym (c.state_kind-in-Some.ensures ∙ ap (λ (t : List ℕ). state_kind c.in-Some.next t) (take_rest c.args.text.now (c.loop-i.i + 1)))) in
    subst (λ (b : Option (ℕ × Kind)). Read kind_from (Some c.args.start) c.args.text.now b (Some c.in-Some.next) (c.loop-i.i + 1)) (sym c.longer-best-in-Some.ensures) r

pub returns : goal.returns
returns c = read_all kind_from (Some c.args.start) _ _ _ _ c.loop-i-test.false c.loop-i.auto.i-end c.loop-i.invariant
