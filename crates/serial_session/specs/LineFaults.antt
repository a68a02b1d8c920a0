-- What is wrong with a line that has no form: its token fault, or else its form.
-- Python 3.12 language reference, 2 (lexical analysis).
use Rattle.std.specs.Prelude.{ℕ, List, Option, Some, None}
use Rattle.py_base.specs.declared.span.Span.{Span}
use Rattle.py_base.specs.declared.diag.Diag.{Diag}
use Rattle.py_tokens.specs.declared.kinds.TokenFault.{TokenFault}
use Rattle.py_tokens.specs.declared.kinds.TokenFault.TheVariants as faults
use Rattle.diagnostics.specs.Messages.{diagnostic, notice_row}
use Rattle.diagnostics.specs.declared.notice.Notice.{Notice}
use Rattle.diagnostics.specs.declared.notice.Notice.TheVariants.{BadCharacter, UnclosedString, UnclosedBracket, BadDedent, NotAStatement, NestingLimit, WideLiteral}

-- what is said of a line with this token fault, or without one
abbrev pub notice_of : Option TokenFault → Notice
notice_of None = NotAStatement
notice_of (Some faults.BadCharacter) = BadCharacter
notice_of (Some faults.UnclosedString) = UnclosedString
notice_of (Some faults.UnclosedBracket) = UnclosedBracket
notice_of (Some faults.BadDedent) = BadDedent
notice_of (Some faults.NestingLimit) = NestingLimit
notice_of (Some faults.WideLiteral) = WideLiteral

-- the diagnostic of a faulty line
abbrev pub line_fault : (Span → List ℕ) → Span → Option TokenFault → Diag
line_fault at span fault = diagnostic (at span) (notice_row (notice_of fault))
