use Rattle.std.proofs.Common.{◌≡◌, ◌∙◌, Some, slice_get, ap, sym, arith}
use Rattle.node_references.proofs.Chaining.{copied_next}
use Rattle.node_references.proofs.reference_list.copy_run.Goals as goal

pub loop-at-preserved : goal.loop-at-preserved
loop-at-preserved c =
    let low = c.loop-at.invariant.low in
    let high = c.loop-at-test.true in
    let here : slice_get c.loop-at.names c.loop-at.at ≡ Some c.item_at-name.result = ap (λ names. slice_get names c.loop-at.at) (sym c.as_slice.ensures) ∙ c.item_at-name.ensures in
    record {
      run = copied_next c.args.names.now c.loop-at.names c.push.new.self c.args.from c.args.to c.loop-at.at c.item_at-name.result
          low high c.requires.within c.loop-at.invariant.run here c.in_ok-push.ensures.ok;
      low = omega (arith, low);
      high = omega (arith, high);
    }
