-- Spans and lines that stand within a text of so many characters.
use Rattle.std.specs.Prelude.{ℕ, ◌≤◌, All}
use Rattle.py_base.specs.declared.span.Span.{Span}
use Rattle.py_tokens.specs.declared.lines.LogicalLine.{LogicalLine}

abbrev pub IsSpanIn : ℕ → Span → Type 0
IsSpanIn count span = (span.from ≤ count) × (span.to ≤ count)

-- the line and its tokens stand within the text
abbrev pub IsLineIn : ℕ → LogicalLine → Type 0
IsLineIn count line = IsSpanIn count line.span × All (λ token. IsSpanIn count token.span) line.tokens
