use Rattle.std.proofs.Common.{◌++◌, [], ◌∷◌, sym, ap, ◌∙◌, Bool, is_none, Some, option_map, arith}
use Rattle.py_tokens.specs.declared.lines.LogicalLine.{LogicalLine}
use Rattle.serial_session.specs.Forms.{form_of}
use Rattle.serial_session.specs.Reading.{fault_at}
use Rattle.serial_session.proofs.ReadingLaws.{find-stop, find-go_on, filter_map-more}
use Rattle.serial_session.proofs.listing.read_lines.Goals as goal

abbrev has_no_form : LogicalLine → Bool
has_no_form line = is_none (form_of line)

pub returns-in-None : goal.returns-in-None
returns-in-None c =
    let here = ap has_no_form (sym c.line-item.is) ∙ ap is_none (sym c.in_ok-form.ensures ∙ c.in-None.is) in
    ap (option_map fault_at) (find-stop has_no_form c.args.lines.now c.loop-line.line-index c.line-item.result (omega arith) c.loop-line.invariant.0 here)
    ∙ ap (λ line. Some (fault_at line)) (sym c.line-item.is)

pub loop-line-preserved : goal.loop-line-preserved
loop-line-preserved c =
    let form = ap form_of (sym c.line-item.is) ∙ sym c.in_ok-form.ensures ∙ c.in-Some.is in (
      find-go_on has_no_form c.args.lines.now c.loop-line.line-index c.line-item.result (omega arith) c.loop-line.invariant.0 (ap is_none form),
      c.in_ok-push-in-Some.ensures.ok
          ∙ ap (λ forms. forms ++ c.in-Some.form ∷ []) c.loop-line.invariant.1
          ∙ sym (filter_map-more form_of c.args.lines.now c.loop-line.line-index c.line-item.result c.in-Some.form (omega arith) form),
    )
