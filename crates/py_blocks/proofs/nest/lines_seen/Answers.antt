use Rattle.std.proofs.Common.{◌++◌, ◌∷◌, [], List, map, sym, ap, ◌∙◌, arith}
use Rattle.std.specs.List.{range_with_len}
use Rattle.std.proofs.lemmas.List.FromFn.{map-range_with_len_more}
use Rattle.py_blocks.specs.declared.line.Line.{Line}
use Rattle.py_blocks.specs.Faults.{seen_at}
use Rattle.py_blocks.proofs.Seeing.{none-seen}
use Rattle.py_blocks.proofs.nest.lines_seen.Goals as goal

pub loop-at-preserved : goal.loop-at-preserved
loop-at-preserved c =
    let lines = c.args.lines.now in
    let at = c.loop-at.at in
    record {
      seen = c.in_ok-push.ensures.items
          ∙ (ap (λ (ls : List Line). ls ++ c.seen_at-line.result ∷ []) c.loop-at.invariant.seen
          ∙ (ap (λ (x : Line). map (seen_at lines) (range_with_len 0 at) ++ x ∷ []) c.seen_at-line.ensures
          ∙ sym (map-range_with_len_more (seen_at lines) 0 at at (omega arith))));
      blocks = c.in_ok-blocks.ensures;
    }

pub returns-clause-written : goal.returns-clause-written
returns-clause-written c = none-seen c.args.lines.now (range_with_len 0 c.loop-at.at) c.loop-at.seen.items c.loop-at.invariant.seen
