use Rattle.std.proofs.Common.{sym, ◌∙◌, subst, Option, IfSome, length, not}
use Rattle.py_tokens.specs.Lines.{IsWithin, is_gap}
use Rattle.py_tokens.specs.declared.lines.Placed.{Placed}
use Rattle.py_tokens.proofs.LineLaws.{found_within}
use Rattle.py_tokens.proofs.lines.line_of.Goals as goal

pub indentation-requires : goal.indentation-requires
indentation-requires c =
    subst (λ (o : Option Placed). IfSome o (IsWithin c.args.start (length c.args.text.now))) (sym c.first_shown.ensures ∙ c.in-Some.is)
    (found_within (IsWithin c.args.start (length c.args.text.now)) (λ x. not (is_gap x.kind)) c.args.line.now c.requires.within)
