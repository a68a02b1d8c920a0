use Rattle.std.proofs.Common.{◌≡◌, ◌+◌, false, List, length, get_or, map, [], ◌∷◌, length-append, subst, sym, ap, ◌∙◌, arith}
use Rattle.std.proofs.lemmas.List.{length-map}
use Rattle.std.specs.Prelude.{All, IfOk, MatchOption}
use Rattle.class_rows.specs.Merge.{has, IsMergeBehind, HasMerge}
use Rattle.class_rows.specs.Rows.{order_of, merged_lists}
use Rattle.class_rows.specs.Waits.{AreBelow, waiting}
use Rattle.py_base.specs.declared.ids.ClassId.{ClassId}
use Rattle.class_rows.proofs.Merging.{all_below_more, lists_below, lists_waits, order_from_merge}
use Rattle.class_rows.proofs.SingleBase.{base_order}
use Rattle.class_rows.proofs.linear.linearize.Goals as goal

pub merge-requires-clause-below : goal.merge-requires-clause-below
merge-requires-clause-below c =
    let P : List (List ClassId) → Type 0 = All (AreBelow (length c.args.waits.now)) in
    subst P (sym (c.deref_mut.ensures.value ∙ c.in_ok-lists.ensures)) (all_below_more (length c.args.rows.now) (length c.args.waits.now) _ c.requires.places (lists_below c.args.rows.now c.args.bases.now c.requires.table c.requires.below))

pub merge-requires-clause-held : goal.merge-requires-clause-held
merge-requires-clause-held c =
    let P : List (List ClassId) → Type 0 = All (AreBelow (length c.args.holders.now)) in
    subst P (sym (c.deref_mut.ensures.value ∙ c.in_ok-lists.ensures)) (all_below_more (length c.args.rows.now) (length c.args.holders.now) _ c.requires.held (lists_below c.args.rows.now c.args.bases.now c.requires.table c.requires.below))

pub merge-requires-clause-fits : goal.merge-requires-clause-fits
merge-requires-clause-fits c = λ n.
    let bases = c.args.bases.now in
    let same = c.deref_mut.ensures.value ∙ c.in_ok-lists.ensures in
    let few = lists_waits n c.args.rows.now bases c.requires.table c.requires.below in
    let long : length (merged_lists (order_of c.args.rows.now) bases) ≡ length bases + 1 = length-append (map (order_of c.args.rows.now) bases) (bases ∷ []) ∙ ap (λ k. k + 1) (length-map bases (order_of c.args.rows.now)) in
    omega (arith, few, long, ap (waiting n) same, ap length c.in_ok-lists.ensures, c.in_ok-lists.lists.ok.0, c.in_ok-lists.lists.ok.1, c.in_ok-lists.lists.small)

pub returns-clause-order : goal.returns-clause-order
returns-clause-order c =
    let bases = c.args.bases.now in
    let class = c.args.class in
    let same = c.deref_mut.ensures.value ∙ c.in_ok-lists.ensures in
    let P : List (List ClassId) → Type 0 = λ lists. IfOk c.merge.result (λ m. MatchOption m (HasMerge lists → ⊥) (IsMergeBehind class lists)) in
    let lacks : has c.id.result bases ≡ false = sym c.contains.ensures.value ∙ c.if-contains.false in
    order_from_merge class (merged_lists (order_of c.args.rows.now) bases) bases c.merge.result (ap (λ x. has x bases) (sym c.id.ensures) ∙ lacks) (subst P same c.merge.ensures.merge)

pub returns-in-len1-clause-order : goal.returns-in-len1-clause-order
returns-in-len1-clause-order c =
    let bases = c.args.bases.now in
    let rows = c.args.rows.now in
    let d : ClassId = record { 0 = 0 } in
    let base = get_or bases 0 d in
    let lacks : has c.id.result bases ≡ false = sym c.contains.ensures.value ∙ c.if-contains.false in
    let sound = c.requires.table base (c.requires.below 0 d (omega (arith, c.in-len1.len_at_least))) in (
      ap (λ x. has x bases) (sym c.id.ensures) ∙ lacks,
      (order_of rows base, c.in_ok-order.ensures, base_order (order_of rows) bases d c.in-len1.len_at_least c.in-len1.len_below sound.first sound.once),
    )
