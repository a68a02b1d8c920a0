use Rattle.std.proofs.Common.{false, ◌∙◌, ap, get_or, refl}
use Rattle.py_blocks.specs.declared.line.LineKind.TheVariants as kinds
use Rattle.py_blocks.specs.Stages.{stage_with}
use Rattle.py_blocks.proofs.Staging.{stages-more}
use Rattle.py_blocks.proofs.settle.add_stages.Goals as goal

pub loop-at-preserved : goal.loop-at-preserved
loop-at-preserved c =
    let xs = c.args.standing.now in
    let at = c.loop-at.at in
    let x = get_or xs at (record { column = 0; kind = kinds.Plain; opens = false; bare = false; returns = false; jumps = false; fits = false; place = 0 }) in
    let before = rw c.as_slice.ensures.value at c.stage_at-before.ensures in
    stages-more xs c.loop-at.stages.items c.push.new.self.items at x _ c.stage_with.result c.loop-at-test.true refl c.loop-at.invariant (c.stage_with.ensures ∙ ap (λ s. stage_with s x.kind) before) c.in_ok-push.ensures.items
