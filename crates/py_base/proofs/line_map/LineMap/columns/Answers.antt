use Rattle.std.proofs.Common.{arith, sym}
use Rattle.std.proofs.lemmas.Bool.{ltb-true, ltb-false}
use Rattle.py_base.proofs.StartLaws.{table_read, line_there, columns_to_next, columns_to_end}
use Rattle.py_base.proofs.line_map.LineMap.columns.Goals as goal

pub offset_bounds-starts-line : goal.offset_bounds-starts-line
offset_bounds-starts-line c =
    let t = table_read c.args.self.now c.self.inside.starts.items c.as_slice-starts.result.now c.self.inside.count c.as_slice-starts.ensures.value c.self.invariant c.self.view_is in
    omega (arith, line_there c.args.self.now c.as_slice-starts.result.now c.self.inside.count c.args.line t c.requires, t.table.few)

pub bounds-starts-line : goal.bounds-starts-line
bounds-starts-line c =
    let t = table_read c.args.self.now c.self.inside.starts.items c.as_slice-starts.result.now c.self.inside.count c.as_slice-starts.ensures.value c.self.invariant c.self.view_is in
    line_there c.args.self.now c.as_slice-starts.result.now c.self.inside.count c.args.line t c.requires

pub overflow_add-line : goal.overflow_add-line
overflow_add-line c =
    let t = table_read c.args.self.now c.self.inside.starts.items c.as_slice-starts.result.now c.self.inside.count c.as_slice-starts.ensures.value c.self.invariant c.self.view_is in
    omega (arith, line_there c.args.self.now c.as_slice-starts.result.now c.self.inside.count c.args.line t c.requires, t.table.few)

pub overflow_sub-result : goal.overflow_sub-result
overflow_sub-result c =
    let t = table_read c.args.self.now c.self.inside.starts.items c.as_slice-starts.result.now c.self.inside.count c.as_slice-starts.ensures.value c.self.invariant c.self.view_is in
    (columns_to_next c.args.self.now c.as_slice-starts.result.now c.self.inside.count c.args.line c.in-Some.next.now t (ltb-true _ _ (sym c.in-Some.ensures.lookup.0)) c.in-Some.ensures.lookup.1).0

pub overflow_sub-result-in-None : goal.overflow_sub-result-in-None
overflow_sub-result-in-None c =
    let t = table_read c.args.self.now c.self.inside.starts.items c.as_slice-starts.result.now c.self.inside.count c.as_slice-starts.ensures.value c.self.invariant c.self.view_is in
    let there = line_there c.args.self.now c.as_slice-starts.result.now c.self.inside.count c.args.line t c.requires in
    (columns_to_end c.args.self.now c.as_slice-starts.result.now c.self.inside.count c.args.line t there (ltb-false _ _ (sym c.in-None.ensures.lookup.0))).0

pub returns-in-Some : goal.returns-in-Some
returns-in-Some c =
    let t = table_read c.args.self.now c.self.inside.starts.items c.as_slice-starts.result.now c.self.inside.count c.as_slice-starts.ensures.value c.self.invariant c.self.view_is in
    (columns_to_next c.args.self.now c.as_slice-starts.result.now c.self.inside.count c.args.line c.in-Some.next.now t (ltb-true _ _ (sym c.in-Some.ensures.lookup.0)) c.in-Some.ensures.lookup.1).1

pub returns-in-None : goal.returns-in-None
returns-in-None c =
    let t = table_read c.args.self.now c.self.inside.starts.items c.as_slice-starts.result.now c.self.inside.count c.as_slice-starts.ensures.value c.self.invariant c.self.view_is in
    let there = line_there c.args.self.now c.as_slice-starts.result.now c.self.inside.count c.args.line t c.requires in
    (columns_to_end c.args.self.now c.as_slice-starts.result.now c.self.inside.count c.args.line t there (ltb-false _ _ (sym c.in-None.ensures.lookup.0))).1
