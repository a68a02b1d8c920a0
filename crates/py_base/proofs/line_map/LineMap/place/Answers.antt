use Rattle.std.proofs.Common.{sym}
use Rattle.py_base.proofs.PlaceLaws.{offset_of-place_of}
use Rattle.py_base.proofs.StartLaws.{table_read, line_found, starts_rise, some_length}
use Rattle.py_base.proofs.line_map.LineMap.place.Goals as goal

pub count_up_to-line-requires : goal.count_up_to-line-requires
count_up_to-line-requires c =
    let t = table_read c.args.self.now c.self.inside.starts.items c.as_slice-starts.result.now c.self.inside.count c.as_slice-starts.ensures.value c.self.invariant c.self.view_is in
    starts_rise c.as_slice-starts.result.now c.self.inside.count t.table.rise

pub overflow_sub-line : goal.overflow_sub-line
overflow_sub-line c =
    let t = table_read c.args.self.now c.self.inside.starts.items c.as_slice-starts.result.now c.self.inside.count c.as_slice-starts.ensures.value c.self.invariant c.self.view_is in
    let found = line_found c.args.self.now c.as_slice-starts.result.now c.self.inside.count c.args.offset c.count_up_to-line.result t c.count_up_to-line.ensures.within c.count_up_to-line.ensures.parts in
    found.some

pub overflow_sub-result : goal.overflow_sub-result
overflow_sub-result c =
    let t = table_read c.args.self.now c.self.inside.starts.items c.as_slice-starts.result.now c.self.inside.count c.as_slice-starts.ensures.value c.self.invariant c.self.view_is in
    let found = line_found c.args.self.now c.as_slice-starts.result.now c.self.inside.count c.args.offset c.count_up_to-line.result t c.count_up_to-line.ensures.within c.count_up_to-line.ensures.parts in
    found.before

pub returns : goal.returns
returns c =
    let t = table_read c.args.self.now c.self.inside.starts.items c.as_slice-starts.result.now c.self.inside.count c.as_slice-starts.ensures.value c.self.invariant c.self.view_is in
    let found = line_found c.args.self.now c.as_slice-starts.result.now c.self.inside.count c.args.offset c.count_up_to-line.result t c.count_up_to-line.ensures.within c.count_up_to-line.ensures.parts in
    record {
      place = sym found.place;
      inverse = rw (← found.place) (offset_of-place_of c.args.self.now c.args.offset (some_length c.args.self.now c.as_slice-starts.result.now c.self.inside.count t) c.requires);
    }
