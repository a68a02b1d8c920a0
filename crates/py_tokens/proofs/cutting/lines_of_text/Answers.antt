use Rattle.std.proofs.Common.{sym, subst, List, false, length, take, drop, ◌-◌}
use Rattle.std.proofs.lemmas.List.{take_rest}
use Rattle.py_tokens.specs.Nesting.{none_open}
use Rattle.py_tokens.specs.Cut.{Cut}
use Rattle.py_tokens.specs.declared.kinds.Piece.{Piece}
use Rattle.py_tokens.proofs.Exists.{cut_of, only_cut}
use Rattle.py_tokens.proofs.cutting.lines_of_text.Goals as goal

pub returns-clause-is_cut : goal.returns-clause-is_cut
returns-clause-is_cut c =
    let start = c.mark_len-start.result in
    cut_of c.args.text.now _ c.deref.result.now c.in_ok-lines.lines c.mark_len-start.result c.mark_len-start.ensures.value (take_rest c.args.text.now c.mark_len-start.result)
    (subst (λ (ps : List Piece). Cut none_open false (take (length c.args.text.now - start) (drop start c.args.text.now)) ps) (sym c.deref.ensures.value) c.in_ok-pieces.ensures.cut)
    c.in_ok-lines.ensures.lines

pub returns-clause-lines : goal.returns-clause-lines
returns-clause-lines c = only_cut c.args.text.now c.in_ok-lines.lines (returns-clause-is_cut c)
