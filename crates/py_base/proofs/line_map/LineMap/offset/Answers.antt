use Rattle.std.proofs.Common.{arith, sym, ◌∙◌, ◌+◌}
use Rattle.std.proofs.lemmas.Bool.{ltb-true, ltb-false}
use Rattle.py_base.proofs.PlaceLaws.{offset_of_beside, place_of-offset_of}
use Rattle.py_base.proofs.StartLaws.{table_read, line_in_lengths, offset_found, offset_below}
use Rattle.py_base.proofs.line_map.LineMap.offset.Goals as goal

pub returns-in_err-start : goal.returns-in_err-start
returns-in_err-start c =
    let t = table_read c.args.self.now c.self.inside.starts.items c.as_slice.result.now c.self.inside.count c.as_slice.ensures.value c.self.invariant c.self.view_is in
    let none = sym (offset_below c.args.self.now c.as_slice.result.now c.self.inside.count c.args.place t (ltb-false _ _ (sym c.in_err-start.ensures.lookup.0))) in
    record { offset = c.from_residual.ensures ∙ none; inverse = rw c.from_residual.ensures tt }

pub columns-requires : goal.columns-requires
columns-requires c =
    let t = table_read c.args.self.now c.self.inside.starts.items c.as_slice.result.now c.self.inside.count c.as_slice.ensures.value c.self.invariant c.self.view_is in
    line_in_lengths c.args.self.now c.as_slice.result.now c.self.inside.count c.args.place.line t (ltb-true _ _ (sym c.in_ok-start.ensures.lookup.0))

pub overflow_add-result : goal.overflow_add-result
overflow_add-result c =
    let t = table_read c.args.self.now c.self.inside.starts.items c.as_slice.result.now c.self.inside.count c.as_slice.ensures.value c.self.invariant c.self.view_is in
    let found = offset_found c.args.self.now c.as_slice.result.now c.self.inside.count c.in_ok-start.field-0.now c.args.place t (ltb-true _ _ (sym c.in_ok-start.ensures.lookup.0)) c.in_ok-start.ensures.lookup.1 (rw c.columns.ensures at c.if-place-columns.true) in
    omega (arith, found.within, t.table.short)

pub returns-then-place-columns : goal.returns-then-place-columns
returns-then-place-columns c =
    let t = table_read c.args.self.now c.self.inside.starts.items c.as_slice.result.now c.self.inside.count c.as_slice.ensures.value c.self.invariant c.self.view_is in
    let found = offset_found c.args.self.now c.as_slice.result.now c.self.inside.count c.in_ok-start.field-0.now c.args.place t (ltb-true _ _ (sym c.in_ok-start.ensures.lookup.0)) c.in_ok-start.ensures.lookup.1 (rw c.columns.ensures at c.if-place-columns.true) in
    record { offset = sym found.is; inverse = place_of-offset_of c.args.self.now c.args.place (c.in_ok-start.field-0.now + c.args.place.col) found.is }

pub returns-else-place-columns : goal.returns-else-place-columns
returns-else-place-columns c = record { offset = sym (offset_of_beside c.args.self.now c.args.place (rw c.columns.ensures at c.if-place-columns.false)); inverse = tt }
