use Rattle.std.proofs.Common.{◌++◌, ◌+◌, drop, not, sym, ap, ◌∙◌, arith}
use Rattle.std.proofs.lemmas.Bool.{not-false, not-true}
use Rattle.serial_session.specs.Typing.{is_bound_in, line_diags, is_last, diags_behind}
use Rattle.py_base.specs.Places.{at_of}
use Rattle.serial_session.specs.LineTypes.{bound_above}
use Rattle.serial_session.proofs.FaultLaws.{diags-stop, diags-go_on}
use Rattle.serial_session.proofs.typing.typing_diags.Goals as goal

pub returns-then-not-branch : goal.returns-then-not-branch
returns-then-not-branch c =
    let at = at_of c.args.places.now in
    let forms = c.args.forms.now in
    let line = c.loop-line.line in
    let form = c.index-forms-line.result in
    let kept = c.loop-line.invariant in
    let reached = c.in_ok-push_line.ensures.reached ∙ ap (λ walk. not (is_last (is_bound_in walk) (bound_above walk line) form)) kept.same in
    let last = not-false _ (sym reached ∙ c.if-not-branch.true) in
    c.in_ok-push_line.ensures.list
    ∙ ap (λ walk. c.loop-line.list ++ line_diags at (is_bound_in walk) (bound_above walk line) form) kept.same
    ∙ diags-stop at forms line form c.loop-line.list _ (omega arith) c.index-forms-line.is last kept.so_far

pub loop-line-preserved : goal.loop-line-preserved
loop-line-preserved c =
    let at = at_of c.args.places.now in
    let forms = c.args.forms.now in
    let line = c.loop-line.line in
    let form = c.index-forms-line.result in
    let kept = c.loop-line.invariant in
    let reached = c.in_ok-push_line.ensures.reached ∙ ap (λ walk. not (is_last (is_bound_in walk) (bound_above walk line) form)) kept.same in
    let last = not-true _ (sym reached ∙ c.if-not-branch.false) in
    let added = c.in_ok-push_line.ensures.list ∙ ap (λ walk. c.loop-line.list ++ line_diags at (is_bound_in walk) (bound_above walk line) form) kept.same in
    record {
      same = c.push_line.ensures.same ∙ kept.same;
      so_far =
          ap (λ list. list ++ diags_behind at (is_bound_in forms) (bound_above forms (line + 1)) (drop (line + 1) forms)) added
          ∙ diags-go_on at forms line form c.loop-line.list _ (omega arith) c.index-forms-line.is last kept.so_far;
    }
