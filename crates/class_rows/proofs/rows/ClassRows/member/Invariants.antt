use Rattle.std.proofs.Common.{◌≡◌, drop}
use Rattle.std.specs.Prelude.{slice_get, filter_map}
use Rattle.class_rows.specs.Rows.{order_of, own_member_of, member_of}
use Rattle.class_rows.proofs.rows.ClassRows.member.Given as goal

abbrev pub invariant-loop-owner : goal.invariant-loop-owner
invariant-loop-owner l =
    slice_get (filter_map (λ d. own_member_of l.self d l.name) (drop l.owner-index (order_of l.self l.fn.class))) 0 ≡ member_of l.self l.fn.class l.name
