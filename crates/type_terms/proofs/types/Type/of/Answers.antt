use Rattle.std.proofs.Common.{◌∙◌, rules}
use Rattle.std.proofs.lemmas.List.Filters.{dedup_is}
use Rattle.std.specs.List.Sorted.{IsSorted}
use Rattle.std.specs.Ordering.{eq_by_cmp}
use Rattle.type_terms.specs.Order.{atom_cmp}
use Rattle.type_terms.proofs.TypeLaws.{sorted-IsType, sorted_is}
use Rattle.type_terms.proofs.types.Type.of.Goals as goal

pub invariant_of-result : goal.invariant_of-result
invariant_of-result c =
    let sorted : IsSorted atom_cmp c.sort.new.self.items = search rules in
    let kept = dedup_is (eq_by_cmp atom_cmp) _ _ c.dedup.ensures.filtered in
    rw (c.from_vec.ensures, kept) (sorted-IsType c.sort.new.self.items sorted)

pub returns : goal.returns
returns c =
    let sorted : IsSorted atom_cmp c.sort.new.self.items = search rules in
    let kept = dedup_is (eq_by_cmp atom_cmp) _ _ c.dedup.ensures.filtered in
    c.from_vec.ensures ∙ kept ∙ sorted_is c.args.atoms.items c.sort.new.self.items c.sort.ensures.permutation sorted
