use Rattle.std.proofs.Common.{[], sym, append-nil, ap, ◌∙◌, ◌++◌, ◌∷◌, arith}
use Rattle.class_rows.proofs.KnownBases.{known_more}
use Rattle.class_rows.proofs.bases.known_bases.Goals as goal
use Rattle.class_rows.proofs.bases.known_bases.Goals.{in-Known+in_ok-push, in_default}

pub loop-base-preserved : goal.loop-base-preserved
loop-base-preserved c =
    let bases = c.args.bases.now in
    let i = c.loop-base.base-index in
    elim c.match-base.branch [
      | in-Known+in_ok-push w ↦
          w.classes-is ∙ w.in_ok-push.ensures.ok ∙ ap (λ cs. cs ++ w.in-Known.class ∷ []) c.loop-base.invariant ∙ sym (known_more bases i _ _ (omega arith) w.in-Known.is)
      | in_default w ↦
          w.classes-is ∙ c.loop-base.invariant ∙ sym (append-nil _) ∙ sym (known_more bases i _ _ (omega arith) w.in_default.is)
    ]
