use Rattle.std.proofs.Common.{rules}
use Rattle.std.proofs.lemmas.List.Filters.{dedup_is}
use Rattle.std.specs.List.Sorted.{IsPermutation, IsSorted}
use Rattle.std.specs.Ordering.{eq_by_cmp}
use Rattle.py_base.specs.DiagOrder.{diag_cmp}
use Rattle.diagnostics.proofs.Sorting.{sorted_list}
use Rattle.diagnostics.proofs.list.sorted.Goals as goal

pub returns : goal.returns
returns c =
    let sorted : IsSorted diag_cmp c.sort.new.self.items = search rules in
    let kept = dedup_is (eq_by_cmp diag_cmp) _ _ c.dedup.ensures.filtered in
    let moved : IsPermutation c.args.found c.sort.new.self.items = rw c.into_vec-diags.ensures at c.sort.ensures.permutation in
    rw (c.from_vec.ensures, kept) (sorted_list c.equal_diags_are_the_same.ensures c.args.found c.sort.new.self.items moved sorted)
