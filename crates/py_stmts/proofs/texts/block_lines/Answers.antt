use Rattle.std.proofs.Common.{◌≡◌, ◌<◌, ◌∷◌, ◌+◌, List, length, drop, sym, ◌∙◌, ap, subst, arith}
use Rattle.std.proofs.lemmas.List.{drop_more, drop_all}
use Rattle.py_tokens.specs.declared.lines.LogicalLine.{LogicalLine}
use Rattle.py_stmts.specs.Module.{IsRowOf}
use Rattle.py_stmts.proofs.ReadLines.{AreRead, AreRead-more, AreRead-all}
use Rattle.py_stmts.proofs.texts.block_lines.Goals as goal

pub loop-line-preserved : goal.loop-line-preserved
loop-line-preserved c =
    let lines = c.args.lines.now in
    let i = c.loop-line.line-index in
    let lt : i < length lines = omega arith in
    let next : drop i lines ≡ c.line-item.result ∷ drop (i + 1) lines = drop_more lines i c.line-item.result lt ∙ ap (λ (x : LogicalLine). x ∷ drop (i + 1) lines) (sym c.line-item.is) in
    let known = subst (λ (rest : List LogicalLine). AreRead IsRowOf c.loop-line.tree lines rest c.loop-line.rows) next c.loop-line.invariant in
    rw c.in_ok-push.ensures.ok (AreRead-more IsRowOf c.loop-line.tree c.block_line.new.tree lines (drop (i + 1) lines) c.line-item.result c.loop-line.rows c.in_ok-row.row known c.block_line.ensures.older c.in_ok-row.ensures.linked c.in_ok-row.ensures.row.0 c.in_ok-row.ensures.row.1 c.in_ok-row.ensures.some c.in_ok-row.ensures.none)

pub returns-clause-rows : goal.returns-clause-rows
returns-clause-rows c = AreRead-all IsRowOf c.loop-line.tree c.args.lines.now (drop c.loop-line.line-index c.args.lines.now) c.loop-line.rows (drop_all c.loop-line.line-index c.args.lines.now (omega arith)) c.loop-line.invariant
