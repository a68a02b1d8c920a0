use Rattle.std.proofs.Common.{◌≡◌, ◌∙◌, sym, subst, rules, arith}
use Rattle.std.specs.List.{AllByRecursion}
use Rattle.std.specs.Prelude.{IfOk}
use Rattle.type_terms.specs.Asked.{AsksSome}
use Rattle.type_terms.specs.Text.{IsAskable, member_pieces, piece_text, piece_keys, member_text, member_keys, text, text_keys}
use Rattle.type_terms.specs.View.{meaning_of}
use Rattle.type_terms.proofs.Asking.{asks_front}
use Rattle.type_terms.proofs.Streaming.{asked_more, asked_so_far, written_more, distinct_more, still_askable, asked_there}
use Rattle.type_terms.proofs.TextLemmas.{member_askable, text-deep, text_keys-deep}
use Rattle.type_terms.proofs.text.+text.Goals as goal

pub pieces_text-piece_text-requires : goal.pieces_text-piece_text-requires
pieces_text-piece_text-requires g t c =
    let askable = still_askable c.args.pieces.now c.loop-piece.piece-index c.piece-item.result _ _ c.loop-piece.invariant.same c.loop-piece-test.true c.piece-item.is IsAskable c.requires in
    search rules

pub pieces_text-returns-in_err-text-clause-asked : goal.pieces_text-returns-in_err-text-clause-asked
pieces_text-returns-in_err-text-clause-asked g t c =
    asked_so_far c.args.pieces.now c.loop-piece.piece-index c.piece-item.result _ _ c.loop-piece.invariant.same c.loop-piece-test.true c.piece-item.is
    (λ m. piece_keys m c.args.levels (text_keys m c.args.levels)) _ _ _ c.loop-piece.invariant.asked c.piece_text.ensures.asked

pub pieces_text-returns-in_err-push_text-clause-asked : goal.pieces_text-returns-in_err-push_text-clause-asked
pieces_text-returns-in_err-push_text-clause-asked g t c =
    asked_so_far c.args.pieces.now c.loop-piece.piece-index c.piece-item.result _ _ c.loop-piece.invariant.same c.loop-piece-test.true c.piece-item.is
    (λ m. piece_keys m c.args.levels (text_keys m c.args.levels)) _ _ _ c.loop-piece.invariant.asked c.piece_text.ensures.asked

pub pieces_text-loop-piece-preserved : goal.pieces_text-loop-piece-preserved
pieces_text-loop-piece-preserved g t c =
    let now = c.loop-piece in let xs = c.args.pieces.now in let levels = c.args.levels in let x = c.piece-item.result in
    record {
      same = c.piece_text.ensures.same ∙ now.invariant.same;
      written = written_more xs now.piece-index x _ _ now.invariant.same c.loop-piece-test.true c.piece-item.is
          (λ m. piece_text m (text m levels)) _ _ c.in_ok-text.text now.invariant.written c.in_ok-text.ensures.value c.in_ok-push_text.ensures;
      asked = asked_more xs now.piece-index x _ _ now.invariant.same c.loop-piece-test.true c.piece-item.is
          (λ m. piece_keys m levels (text_keys m levels)) _ _ _ now.invariant.asked c.piece_text.ensures.asked;
      stays = g.V.Types.keeps_on _ _ _ now.invariant.stays c.piece_text.ensures.stays;
      later = omega (arith, now.invariant.later, c.piece_text.ensures.cancels.later);
    }

pub member_texts-returns-in_err-text-clause-asked : goal.member_texts-returns-in_err-text-clause-asked
member_texts-returns-in_err-text-clause-asked g t c =
    asked_so_far c.args.members.now c.loop-member.member-index c.member-item.result _ _ c.loop-member.invariant.same c.loop-member-test.true c.member-item.is
    (λ m. member_keys m c.args.levels (text_keys m c.args.levels) c.args.ty.now) _ _ _ c.loop-member.invariant.asked c.member_text.ensures.asked

pub member_texts-loop-member-preserved : goal.member_texts-loop-member-preserved
member_texts-loop-member-preserved g t c =
    let now = c.loop-member in let xs = c.args.members.now in let levels = c.args.levels in let ty = c.args.ty.now in let x = c.member-item.result in
    record {
      same = c.member_text.ensures.same ∙ now.invariant.same;
      written = distinct_more xs now.member-index x _ _ now.invariant.same c.loop-member-test.true c.member-item.is
          (λ m. member_text m levels (text m levels) ty) _ _ c.in_ok-text.text now.invariant.written c.in_ok-text.ensures.value c.in_ok-push_distinct.ensures;
      asked = asked_more xs now.member-index x _ _ now.invariant.same c.loop-member-test.true c.member-item.is
          (λ m. member_keys m levels (text_keys m levels) ty) _ _ _ now.invariant.asked c.member_text.ensures.asked;
      stays = g.V.Types.keeps_on _ _ _ now.invariant.stays c.member_text.ensures.stays;
      later = omega (arith, now.invariant.later, c.member_text.ensures.cancels.later);
    }

pub typed_text-returns-in_err-ty-clause-asked : goal.typed_text-returns-in_err-ty-clause-asked
typed_text-returns-in_err-ty-clause-asked g t c = asks_front _ _ _ _ c.piece_type.ensures.asked

pub member_texts-returns-in_err-push_distinct-clause-asked : goal.member_texts-returns-in_err-push_distinct-clause-asked
member_texts-returns-in_err-push_distinct-clause-asked g t c =
    asked_so_far c.args.members.now c.loop-member.member-index c.member-item.result _ _ c.loop-member.invariant.same c.loop-member-test.true c.member-item.is
    (λ m. member_keys m c.args.levels (text_keys m c.args.levels) c.args.ty.now) _ _ _ c.loop-member.invariant.asked c.member_text.ensures.asked

pub member_text-pieces_text-requires : goal.member_text-pieces_text-requires
member_text-pieces_text-requires g t c =
    let m = meaning_of (g.V.Types.assignment c.args.view.now) (g.V.Names.names c.args.view.now) (g.V.Facts.facts c.args.view.now) (g.V.View.view c.args.view.now) in
    let is : c.as_slice.result.now ≡ member_pieces m c.args.levels c.args.ty.now c.args.member.now = search rules in
    let askable : AllByRecursion (IsAskable m) c.as_slice.result.now = subst (AllByRecursion (IsAskable m)) (sym is) (member_askable m c.args.levels c.args.ty.now c.args.member.now) in
    search rules

pub typed_text-returns-clause-asked : goal.typed_text-returns-clause-asked
typed_text-returns-clause-asked g t c =
    asked_there _ _ c.args.levels _ _ _ _ _ _ c.piece_type.ensures.same c.in_ok-ty.ensures.value c.piece_type.ensures.asked c.text_of.ensures.asked

pub text_of-returns-clause-value : goal.text_of-returns-clause-value
text_of-returns-clause-value g t c =
    let m = meaning_of (g.V.Types.assignment c.args.view.now) (g.V.Names.names c.args.view.now) (g.V.Facts.facts c.args.view.now) (g.V.View.view c.args.view.now) in
    subst (λ w. IfOk c.members_text.result (λ t. t ≡ w)) (sym (text-deep m c.args.levels c.args.ty.now c.if-levels-eq0.false)) c.members_text.ensures.value

pub text_of-returns-clause-asked : goal.text_of-returns-clause-asked
text_of-returns-clause-asked g t c =
    let m = meaning_of (g.V.Types.assignment c.args.view.now) (g.V.Names.names c.args.view.now) (g.V.Facts.facts c.args.view.now) (g.V.View.view c.args.view.now) in
    subst (λ ks. AsksSome (g.V.Types.asked c.args.view.now) ks (g.V.Types.asked c.members_text.new.view)) (sym (text_keys-deep m c.args.levels c.args.ty.now c.if-levels-eq0.false)) c.members_text.ensures.asked
