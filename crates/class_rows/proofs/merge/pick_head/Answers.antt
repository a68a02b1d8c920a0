use Rattle.std.proofs.Common.{◌≡◌, ◌<◌, true, false, [], ℕ, sym, subst, ap, ◌∙◌, rules, arith}
use Rattle.std.specs.Prelude.{Option, Some, None, IfSome, slice_get, slice_index_or}
use Rattle.std.specs.BTreeSet.{contains}
use Rattle.std.specs.Ordering.{nat_cmp}
use Rattle.std.proofs.lemmas.Bool.{false≢true}
use Rattle.class_rows.specs.Waits.{free_in, IsFirst}
use Rattle.class_rows.proofs.Taking.{pick_free, pick_none}
use Rattle.class_rows.proofs.merge.pick_head.Goals as goal

pub returns-in-Some-free_head-clause-pick : goal.returns-in-Some-free_head-clause-pick
returns-in-Some-free_head-clause-pick c =
    let lists = c.args.lists.now in
    let waits = c.args.waits.now in
    let place = c.in-Some.place in
    let list = c.in-Some-get.list.now in
    let here : list ≡ slice_index_or lists place [] = c.in-Some-get.ensures.lookup.3.1 [] in
    let free : free_in waits list ≡ Some c.in-Some-free_head.head = sym c.free_head.ensures ∙ c.in-Some-free_head.is in
    let P : Option ℕ → Type 0 = IsFirst c.loop-place.ready in
    let first = subst P c.in-Some.is c.first_place.ensures.first in
    sym (pick_free waits lists c.requires.below c.requires.waits place c.in-Some-free_head.head (ap (free_in waits) (sym here) ∙ free)
    (λ j d less e. absurd (omega (arith, less, first j (c.loop-place.invariant j d e)))))

pub loop-place-smaller : goal.loop-place-smaller
loop-place-smaller c =
    let P : Option ℕ → Type 0 = λ o. IfSome o (λ k. contains nat_cmp c.loop-place.ready k ≡ true) in
    let member = subst P c.in-Some.is c.first_place.ensures.member in
    let removed : c.remove.result ≡ true = c.remove.ensures.test ∙ member in
    omega (arith, rw removed at c.remove.ensures.len)

pub returns-clause-pick : goal.returns-clause-pick
returns-clause-pick c =
    let P : Option ℕ → Type 0 = IsFirst c.loop-place.ready in
    let none : c.first_place.result ≡ None = search rules in
    let first = subst P none c.first_place.ensures.first in
    sym (pick_none c.args.waits.now c.args.lists.now c.requires.below c.requires.waits (λ j d e. false≢true (sym (first j) ∙ c.loop-place.invariant j d e)))
