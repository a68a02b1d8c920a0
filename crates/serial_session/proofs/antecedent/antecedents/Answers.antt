use Rattle.std.proofs.Common.{◌+◌, ◌∙◌, Some, if◌then◌else◌, sym, ap, take, arith}
use Rattle.std.proofs.lemmas.List.{length_push}
use Rattle.serial_session.specs.Antecedents.{entry_at, binding_below}
use Rattle.serial_session.specs.Typing.{binds, is_bound_in}
use Rattle.serial_session.proofs.LastBinding.{binding_below-more}
use Rattle.serial_session.proofs.AntecedentLaws.{antecedent_of-said, each-more}
use Rattle.serial_session.proofs.antecedent.antecedents.Goals as goal

pub loop-line-preserved : goal.loop-line-preserved
loop-line-preserved c =
    let forms = c.args.forms.now in
    let line = c.loop-line.line in
    let kept = c.loop-line.invariant in
    let at = c.index-forms-line.result in
    let added = antecedent_of-said (entry_at c.loop-line.bindings) (is_bound_in forms) (take line forms) kept.noted at in
    record {
      len = rw c.in_ok-push.ensures.items (length_push c.loop-line.antecedents.items c.antecedent_of.result ∙ ap (λ n. n + 1) kept.len);
      each = rw c.in_ok-push.ensures.items (each-more (is_bound_in forms) forms c.loop-line.antecedents.items line c.antecedent_of.result at kept.len (omega arith) c.index-forms-line.is (c.antecedent_of.ensures ∙ added) kept.each);
      noted = λ name.
          c.in_ok-set_entry.ensures name
          ∙ ap (λ o. if binds at name then Some (Some line) else o) (kept.noted name)
          ∙ ap (λ form. if binds form name then Some (Some line) else binding_below (is_bound_in forms) (take line forms) name) c.index-forms-line.is
          ∙ sym (binding_below-more forms line at name (omega arith));
    }
