use Rattle.std.proofs.Common.{◌≡◌, ◌<◌, ◌||◌, Bool, true, false, ℕ, ◌+◌, List, [], length, ◌∙◌, sym, refl, subst, ap, drop, map, get_or, arith, rules}
use Rattle.std.specs.Prelude.{All, Option, Some, None}
use Rattle.std.specs.BTreeSet.{BTreeSet, contains}
use Rattle.std.specs.Ordering.{nat_cmp}
use Rattle.std.proofs.lemmas.List.{get_or_default, drop_all}
use Rattle.py_base.specs.declared.ids.ClassId.{ClassId}
use Rattle.class_rows.specs.Merge.{has, without}
use Rattle.class_rows.specs.Waits.{has_place, AreBelow, AreHeld, AreReady}
use Rattle.class_rows.proofs.Taking.{taken, held_step, tails_step, left_step, same_step, below_step, ready_step, ready_more, all_taken}
use Rattle.class_rows.proofs.merge.take_class.Goals as goal
use Rattle.class_rows.proofs.merge.take_class.Goals.{in-Some+in_ok-make_ready, in_default}

pub loop-place-preserved : goal.loop-place-preserved
loop-place-preserved c =
    let now = c.loop-place in
    let class = c.args.class in
    let items = c.places_of-place-items.result.now in
    let i = now.place-index in
    let p = get_or items i 0 in
    let within : i < length items = omega arith in
    let at : p ≡ get_or items i p = get_or_default items i 0 p within in
    let is : c.take_at.new.lists ≡ taken class now.lists p = c.take_at.ensures.lists in
    let waits' = c.take_at.new.waits in
    let same : length waits' ≡ length now.waits = c.take_at.ensures.length in
    let B : List (List ClassId) → Type 0 = All (AreBelow (length waits')) in
    let N : ℕ → Type 0 = λ n. All (AreBelow n) (taken class now.lists p) in
    let T : List (List ClassId) → Type 0 = λ ls. (k : ℕ) → has class (drop 1 (get_or ls k [])) ≡ false in
    let H : List (List ClassId) → Type 0 = AreHeld c.args.holders.now in
    let L : List (List ClassId) → Type 0 = λ ls. (k : ℕ) → has class (get_or ls k []) ≡ true → has_place k (drop (i + 1) items) ≡ true in
    let R : List (List ClassId) → Type 0 = λ ls. AreReady waits' ls c.match-take_at.ready in
    let Q : BTreeSet ℕ → Type 0 = AreReady waits' (taken class now.lists p) in
    let step : (ready' : BTreeSet ℕ) → ((k : ℕ) → contains nat_cmp now.ready k ≡ true → contains nat_cmp ready' k ≡ true) → ((d : ClassId) (k : ℕ) → c.take_at.result ≡ Some d → has_place k (get_or c.args.holders.now d.0 []) ≡ true → contains nat_cmp ready' k ≡ true) → Q ready' =
    λ ready' more new. ready_step now.waits now.lists now.invariant.below now.invariant.waits class p now.invariant.tails now.ready now.invariant.ready waits' ready' c.args.holders.now c.take_at.result now.invariant.held c.take_at.ensures.freed more new in
    record {
      places = same ∙ now.invariant.places;
      below = subst B (sym is) (subst N (sym same) (below_step (length now.waits) class now.lists p now.invariant.below));
      waits = c.take_at.ensures.waits;
      tails = subst T (sym is) (tails_step class now.lists p now.invariant.tails);
      held = subst H (sym is) (held_step c.args.holders.now class now.lists p now.invariant.held);
      ready = subst R (sym is) (elim c.match-take_at.branch [
        | in-Some+in_ok-make_ready w ↦
            let ready' = w.make_ready.new.ready in
            let made : (k : ℕ) → contains nat_cmp ready' k ≡ (contains nat_cmp now.ready k || has_place k (get_or c.args.holders.now w.in-Some.freed.0 [])) =
            λ k. w.in_ok-make_ready.ensures k ∙ ap (λ ps. contains nat_cmp now.ready k || has_place k ps) w.places_of.ensures in
            subst Q (sym w.ready-is) (step ready' (λ k h. made k ∙ ap (λ b. b || has_place k (get_or c.args.holders.now w.in-Some.freed.0 [])) h)
            (λ d k f h. made k ∙ ready_more c.args.holders.now c.take_at.result w.in-Some.freed d k (contains nat_cmp now.ready k) w.in-Some.is f h))
        | in_default w ↦ subst Q (sym w.ready-is) (step now.ready (λ k h. h) (λ d k f h. absurd (w.in_default.not-Some d f)))
      ]);
      left = subst L (sym is) (left_step class now.lists items i p within at now.invariant.left);
      same = ap (map (without class)) is ∙ same_step class now.lists p ∙ now.invariant.same;
    }

pub returns-clause-lists : goal.returns-clause-lists
returns-clause-lists c =
    let items = c.places_of-place-items.result.now in
    let i = c.loop-place.place-index in
    sym (all_taken c.args.class c.loop-place.lists (drop i items) (drop_all i items (omega arith)) c.loop-place.invariant.left) ∙ c.loop-place.invariant.same
