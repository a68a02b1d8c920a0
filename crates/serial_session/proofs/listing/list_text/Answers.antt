use Rattle.std.proofs.Common.{sym, subst, All}
use Rattle.std.proofs.lemmas.List.Elements.{All-same}
use Rattle.py_tokens.specs.Spans.{IsLineIn}
use Rattle.serial_session.proofs.listing.list_text.Goals as goal

pub list_of_lines-requires : goal.list_of_lines-requires
list_of_lines-requires c =
    All-same (IsLineIn _) c.as_slice.result.now c.in_ok-cut.cut.lines c.as_slice.ensures
    (subst (λ count. All (IsLineIn count) c.in_ok-cut.cut.lines) (sym c.in_ok-places.ensures.all) c.in_ok-cut.ensures.within)
