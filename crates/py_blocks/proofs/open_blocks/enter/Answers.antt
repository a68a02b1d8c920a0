use Rattle.std.proofs.Common.{◌++◌, ◌∷◌, [], ◌+◌, List, ℕ, nat_lt, ap, ◌∙◌}
use Rattle.std.specs.List.{filter}
use Rattle.py_blocks.specs.Enclosing.{column_at}
use Rattle.py_blocks.proofs.OpenBlocks.{open-next}
use Rattle.py_blocks.proofs.open_blocks.enter.Goals as goal

pub returns : goal.returns
returns c =
    let lines = c.args.lines.now in
    let at = c.args.at in
    c.in_ok-next.ensures
    ∙ (ap (λ (col : ℕ). filter (λ (j : ℕ). nat_lt (column_at lines j) col) c.as_slice.result.now) c.column_at.ensures
    ∙ (ap (filter (λ (j : ℕ). nat_lt (column_at lines j) (column_at lines (at + 1)))) (c.as_slice.ensures.value ∙ (c.in_ok-push.ensures.items ∙ ap (λ (o : List ℕ). o ++ at ∷ []) c.requires.blocks))
    ∙ open-next lines at))
