use Rattle.std.proofs.Common.{◌≡◌, ◌++◌, ◌∷◌, [], map, sym, ap, ◌∙◌, arith}
use Rattle.py_base.specs.declared.key.Key.TheVariants.{Elem}
use Rattle.std.specs.List.{range_with_len}
use Rattle.std.proofs.lemmas.List.FromFn.{map-range_with_len_more}
use Rattle.assign_rules.proofs.members.filled_slots.Goals as goal

pub loop-place-preserved : goal.loop-place-preserved
loop-place-preserved g c =
    let now = c.loop-place in
    let s = g.T.Types.assignment c.args.types.now in
    let one : c.into_slot.result ≡ s (Elem c.args.site now.place) = c.into_slot.ensures.value ∙ c.in_ok-slot.ensures.value ∙ ap (λ f. f (Elem c.args.site now.place)) now.invariant.same in
    record {
      made = c.in_ok-push.ensures ∙ ap (λ xs. xs ++ c.into_slot.result ∷ []) now.invariant.made ∙ ap (λ x. map (λ place. s (Elem c.args.site place)) (range_with_len 0 now.place) ++ x ∷ []) one ∙ sym (map-range_with_len_more (λ place. s (Elem c.args.site place)) 0 now.place now.place (omega arith));
      same = c.get.ensures.same ∙ now.invariant.same;
      stays = g.T.Types.keeps_on _ _ _ now.invariant.stays c.get.ensures.stays;
      later = omega (arith, now.invariant.later, c.get.ensures.cancels.later);
    }
