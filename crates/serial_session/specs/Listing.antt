-- The list of a text: the diagnostics that are published for it.
use Rattle.std.specs.Prelude.{ℕ, List, [], ◌∷◌, nat_lt, if◌then◌else◌, Option, Some, None, is_none, map, filter_map, length}
use Rattle.std.specs.List.{find}
use Rattle.std.specs.Str.{chars}
use Rattle.py_base.specs.declared.span.Span.{Span}
use Rattle.py_base.specs.declared.diag.Diag.{Diag}
use Rattle.py_base.specs.Lines.{physical_lines}
use Rattle.py_base.specs.Places.{at_of}
use Rattle.py_tokens.specs.declared.lines.LogicalLine.{LogicalLine}
use Rattle.py_tokens.specs.LogicalLines.{logical_lines}
use Rattle.diagnostics.specs.Messages.{diagnostic, notice_row}
use Rattle.diagnostics.specs.declared.notice.Notice.TheVariants.{TextLimit}
use Rattle.serial_session.specs.Forms.{form_of}
use Rattle.serial_session.specs.LineFaults.{line_fault}
use Rattle.serial_session.specs.Typing.{typing_diags}

abbrev pub line_lengths : List ℕ → List ℕ
line_lengths characters = map length (physical_lines characters)

-- a text that is too long has this diagnostic alone
abbrev pub too_long : Diag
too_long = diagnostic (0 ∷ 0 ∷ 0 ∷ 0 ∷ []) (notice_row TextLimit)

-- where a line is faulty the list has the first such line alone
abbrev pub lines_list : (Span → List ℕ) → Option LogicalLine → List LogicalLine → List Diag
lines_list at (Some line) lines = line_fault at line.span line.fault ∷ []
lines_list at None lines = typing_diags at (filter_map form_of lines)

abbrev pub list_of_lines : (Span → List ℕ) → List LogicalLine → List Diag
list_of_lines at lines = lines_list at (find (λ line. is_none (form_of line)) lines) lines

-- the list of a text of these bytes, of which there are at most 524,288
unfoldable pub list_of : List ℕ → List Diag
list_of text =
    if nat_lt 524288 (length text) then too_long ∷ []
    else list_of_lines (at_of (line_lengths (chars text))) (logical_lines (chars text))
