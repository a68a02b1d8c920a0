-- What the lines of a text read stands within the text.
use Rattle.std.specs.Prelude.{ℕ, IfSome}
use Rattle.py_tokens.specs.Spans.{IsSpanIn}
use Rattle.serial_session.specs.declared.form.Form.{Form}
use Rattle.serial_session.specs.Antecedents.{read_of}

-- the name that the line reads, if it reads one, stands within a text of so many characters
abbrev pub IsReadIn : ℕ → Form → Type 0
IsReadIn count form = IfSome (read_of form) (λ read. IsSpanIn count read.span)
