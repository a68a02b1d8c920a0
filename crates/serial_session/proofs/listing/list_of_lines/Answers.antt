use Rattle.std.proofs.Common.{subst, ◌∙◌, sum, filter_map}
use Rattle.std.proofs.lemmas.List.Elements.{All-same}
use Rattle.serial_session.specs.Forms.{form_of}
use Rattle.serial_session.specs.Reading.{IsReading}
use Rattle.serial_session.specs.Spans.{IsReadIn}
use Rattle.serial_session.proofs.SpanLaws.{forms-within, first-within}
use Rattle.serial_session.proofs.listing.list_of_lines.Goals as goal

pub typing_diags-requires : goal.typing_diags-requires
typing_diags-requires c =
    let lines = c.args.lines.now in
    let reading = subst (IsReading lines) c.in-Valid.is c.in_ok-forms.ensures in
    All-same (IsReadIn (sum c.args.places.now)) c.as_slice.result.now (filter_map form_of lines) (c.as_slice.ensures ∙ reading.1) (forms-within (sum c.args.places.now) lines c.requires)

pub line_fault-requires : goal.line_fault-requires
line_fault-requires c =
    let lines = c.args.lines.now in
    let reading = subst (IsReading lines) c.in-Faulty.is c.in_ok-forms.ensures in
    first-within (sum c.args.places.now) lines c.in-Faulty.span c.in-Faulty.fault c.requires reading
