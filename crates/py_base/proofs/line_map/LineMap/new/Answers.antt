use Rattle.std.proofs.Common.{arith, chars}
use Rattle.std.proofs.lemmas.List.{length-map}
use Rattle.std.specs.Str.Iter.{chars_rest}
use Rattle.py_base.proofs.LineLaws.{some_line, sum-lengths}
use Rattle.py_base.proofs.ScanLaws.{scanned_none, scanned_line, scanned_character, count_fits, scanned_table, scanned_lengths}
use Rattle.py_base.proofs.line_map.LineMap.new.Goals as goal

pub loop-c-init : goal.loop-c-init
loop-c-init c =
    (tt, tt, rw (c.in_ok-push.ensures.items, c.new-starts.ensures.items, c.chars-rest.ensures.rest) (scanned_none c.args.text.now c.utf8.text))

pub overflow_add-count : goal.overflow_add-count
overflow_add-count c =
    omega (arith, count_fits c.args.text.now c.loop-c.starts.items (chars_rest c.loop-c.rest) (chars_rest c.next.new.self) c.loop-c.count c.in-Some.c c.utf8.text c.requires c.loop-c.invariant.2 c.in-Some.ensures.steps.0)

pub loop-c-preserved-in-Continue-branch-2 : goal.loop-c-preserved-in-Continue-branch-2
loop-c-preserved-in-Continue-branch-2 c =
    (tt, tt, rw c.in_ok-push-2.ensures.items (scanned_line c.args.text.now c.loop-c.starts.items (chars_rest c.loop-c.rest) (chars_rest c.next.new.self) c.loop-c.count c.in-Some.c c.loop-c.invariant.2 c.in-Some.ensures.steps.0 (cc)))

pub loop-c-preserved : goal.loop-c-preserved
loop-c-preserved c =
    (tt, tt, scanned_character c.args.text.now c.loop-c.starts.items (chars_rest c.loop-c.rest) (chars_rest c.next.new.self) c.loop-c.count c.in-Some.c c.loop-c.invariant.2 c.in-Some.ensures.steps.0 (cc))

pub invariant_of-result : goal.invariant_of-result
invariant_of-result c = scanned_table c.args.text.now c.loop-c.starts.items (chars_rest c.loop-c.rest) c.loop-c.count c.utf8.text c.requires c.loop-c.invariant.2 c.in_default.ensures.steps.0.0

pub returns : goal.returns
returns c =
    let lines = scanned_lengths c.args.text.now c.loop-c.starts.items (chars_rest c.loop-c.rest) c.loop-c.count c.loop-c.invariant.2 c.in_default.ensures.steps.0.0 in
    record {
      lines = lines;
      some = rw (lines, length-map) (some_line (chars c.args.text.now));
      all = rw lines (sum-lengths (chars c.args.text.now));
    }
