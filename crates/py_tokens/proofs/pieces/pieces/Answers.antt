use Rattle.std.proofs.Common.{arith, length-drop, sym, ◌∙◌, subst, List, [], false, refl}
use Rattle.std.proofs.lemmas.List.{length-take, append-nil, take_rest}
use Rattle.py_tokens.specs.Nesting.{none_open}
use Rattle.py_tokens.specs.Cut.{Cut}
use Rattle.py_tokens.specs.declared.kinds.Piece.{Piece}
use Rattle.py_tokens.proofs.Measure.{smaller_step}
use Rattle.py_tokens.proofs.CutLaws.{cut_step, whole_step}
use Rattle.py_tokens.proofs.pieces.pieces.Goals as goal

pub loop-rest-smaller : goal.loop-rest-smaller
loop-rest-smaller c =
    smaller_step c.loop-rest.opens c.after.new.opens c.loop-rest.after_number c.loop-rest.rest.now _ _ _ c.piece_at-piece.result (sym c.is_done.ensures ∙ c.loop-rest-test.true) c.here.ensures c.piece_at-piece.ensures.fits c.in_ok-after.ensures
    (simp (length-take, length-drop) (omega arith))

pub loop-rest-preserved : goal.loop-rest-preserved
loop-rest-preserved c = record {
  cuts = λ ps cut.
      cut_step c.loop-rest.opens c.after.new.opens c.loop-rest.after_number c.is_number-after_number.result c.args.text.now c.loop-rest.rest.now _ _ _ c.piece_at-piece.result c.loop-rest.out.items c.push.new.self.items ps c.loop-rest.invariant.cuts
      (sym c.is_done.ensures ∙ c.loop-rest-test.true) c.here.ensures c.piece_at-piece.ensures.fits c.in_ok-after.ensures refl c.is_number-after_number.ensures (take_rest c.loop-rest.rest.now c.piece_at-piece.result.len) c.in_ok-push.ensures.items cut;
  whole = whole_step c.loop-rest.out.items c.push.new.self.items c.piece_at-piece.result c.loop-rest.rest.now _ _ c.loop-rest.invariant.whole c.piece_at-piece.ensures.within (take_rest c.loop-rest.rest.now c.piece_at-piece.result.len) c.in_ok-push.ensures.items;
}

pub returns-clause-cut : goal.returns-clause-cut
returns-clause-cut c =
    subst (λ (ps : List Piece). Cut none_open false c.args.text.now ps) (append-nil _) (c.loop-rest.invariant.cuts [] (sym c.is_done.ensures ∙ c.loop-rest-test.false))
