use Rattle.std.proofs.Common.{refl, sym, ◌∙◌, subst, ℕ, length, All}
use Rattle.std.proofs.lemmas.Bool.{false≢true}
use Rattle.class_rows.specs.Waits.{AreBelow}
use Rattle.class_rows.proofs.Counting.{waiting_exhausted}
use Rattle.class_rows.proofs.Picking.{pick_good, below_without}
use Rattle.class_rows.proofs.Leads.{led_start, led_more, led_all, led_nowhere, pick_shrinks}
use Rattle.class_rows.proofs.Taking.{all_ready}
use Rattle.class_rows.proofs.merge.merge.Goals as goal

pub loop-class-init : goal.loop-class-init
loop-class-init c =
    let N : ℕ → Type 0 = λ n. All (AreBelow n) c.args.lists.now in
    record {
      places = c.count_tails.ensures.length;
      below = subst N (sym c.count_tails.ensures.length) c.requires.below;
      waits = c.count_tails.ensures.waits;
      held = c.in_ok-note_all.ensures.held;
      ready = all_ready c.count_tails.new.waits c.args.lists.now c.in_ok-ready.ready c.in_ok-ready.ensures;
      leads = led_start c.args.first c.args.lists.now c.args.lists.now c.in_ok-order.order refl c.in_ok-order.ensures;
    }

pub take_class-requires-clause-good : goal.take_class-requires-clause-good
take_class-requires-clause-good c = pick_good c.loop-class.lists c.in-Some.class (sym c.pick_head.ensures.pick ∙ c.in-Some.is)

pub loop-class-smaller : goal.loop-class-smaller
loop-class-smaller c =
    pick_shrinks c.in-Some.class c.loop-class.lists c.take_class.new.lists (sym c.pick_head.ensures.pick ∙ c.in-Some.is) c.in_ok-take_class.ensures.lists

pub loop-class-preserved : goal.loop-class-preserved
loop-class-preserved c =
    let class = c.in-Some.class in
    let picked = sym c.pick_head.ensures.pick ∙ c.in-Some.is in
    let P : ℕ → Type 0 = λ n. All (AreBelow n) c.take_class.new.lists in
    record {
      places = c.take_class.ensures.length ∙ c.loop-class.invariant.places;
      below = subst P (sym c.take_class.ensures.length) (below_without (length c.loop-class.waits) class c.loop-class.lists c.take_class.new.lists c.in_ok-take_class.ensures.lists c.loop-class.invariant.below);
      waits = c.in_ok-take_class.ensures.waits;
      held = c.in_ok-take_class.ensures.held;
      ready = c.in_ok-take_class.ensures.ready;
      leads = led_more c.args.first c.args.lists.now c.loop-class.lists c.take_class.new.lists c.loop-class.order c.push.new.self class picked c.in_ok-take_class.ensures.lists c.in_ok-push.ensures.ok c.loop-class.invariant.leads;
    }

pub returns-then-are_exhausted-clause-clear : goal.returns-then-are_exhausted-clause-clear
returns-then-are_exhausted-clause-clear c = λ n below.
    c.loop-class.invariant.waits n below ∙ waiting_exhausted n c.loop-class.lists (c.are_exhausted.ensures.0 c.if-are_exhausted.true)

pub returns-then-are_exhausted-clause-merge : goal.returns-then-are_exhausted-clause-merge
returns-then-are_exhausted-clause-merge c =
    led_all c.args.first c.args.lists.now c.loop-class.lists c.loop-class.order c.loop-class.invariant.leads (c.are_exhausted.ensures.0 c.if-are_exhausted.true)

pub returns-clause-merge : goal.returns-clause-merge
returns-clause-merge c =
    led_nowhere c.args.first c.args.lists.now c.loop-class.lists c.loop-class.order c.loop-class.invariant.leads (sym c.pick_head.ensures.pick ∙ c.in_default.is) (λ none. false≢true (sym c.if-are_exhausted.false ∙ c.are_exhausted.ensures.1 none))
