-- The lines of a text are read until one is faulty: one that has no form.
use Rattle.std.specs.Prelude.{◌≡◌, List, Option, Some, None, is_none, option_map, filter_map}
use Rattle.std.specs.List.{find}
use Rattle.py_base.specs.declared.span.Span.{Span}
use Rattle.py_tokens.specs.declared.kinds.TokenFault.{TokenFault}
use Rattle.py_tokens.specs.declared.lines.LogicalLine.{LogicalLine}
use Rattle.serial_session.specs.declared.listing.Reading.{Reading}
use Rattle.serial_session.specs.declared.listing.Reading.TheVariants.{Valid, Faulty}
use Rattle.serial_session.specs.Forms.{form_of}

abbrev pub first_faulty : List LogicalLine → Option LogicalLine
first_faulty lines = find (λ line. is_none (form_of line)) lines

-- where a faulty line stands, with its token fault, if it has one
abbrev pub fault_at : LogicalLine → Span × Option TokenFault
fault_at line = (line.span, line.fault)

abbrev pub IsReading : List LogicalLine → Reading → Type 0
IsReading lines (Valid forms) = (first_faulty lines ≡ None) × (forms ≡ filter_map form_of lines)
IsReading lines (Faulty span fault) = option_map fault_at (first_faulty lines) ≡ Some (span, fault)
