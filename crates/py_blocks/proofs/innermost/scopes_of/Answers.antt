use Rattle.std.proofs.Common.{◌++◌, ◌∷◌, [], List, ℕ, Option, map, sym, ap, ◌∙◌, arith}
use Rattle.std.specs.List.{range_with_len}
use Rattle.std.proofs.lemmas.List.FromFn.{map-range_with_len_more}
use Rattle.py_blocks.specs.Innermost.{scope_at}
use Rattle.py_blocks.proofs.innermost.scopes_of.Goals as goal

pub loop-at-preserved : goal.loop-at-preserved
loop-at-preserved c =
    let lines = c.args.lines.now in
    let at = c.loop-at.at in
    record {
      scopes = c.in_ok-push.ensures.items
          ∙ (ap (λ (ls : List (Option ℕ)). ls ++ c.scope_at-scope.result ∷ []) c.loop-at.invariant.scopes
          ∙ (ap (λ (o : Option ℕ). map (scope_at lines) (range_with_len 0 at) ++ o ∷ []) c.scope_at-scope.ensures
          ∙ sym (map-range_with_len_more (scope_at lines) 0 at at (omega arith))));
      blocks = c.in_ok-blocks.ensures;
    }
