use Rattle.std.proofs.Common.{◌≡◌, None, take, filter_map}
use Rattle.serial_session.specs.Forms.{form_of}
use Rattle.serial_session.specs.Reading.{first_faulty}
use Rattle.serial_session.proofs.listing.read_lines.Given as goal

abbrev pub invariant-loop-line : goal.invariant-loop-line
invariant-loop-line l =
    (first_faulty (take l.line-index l.lines) ≡ None) × (l.forms ≡ filter_map form_of (take l.line-index l.lines))
