-- Sorting and dropping repeats gives the published list.
use Rattle.std.proofs.Common.{◌≡◌, Bool, true, false, List, refl, ◌↔◌, rules}
use Rattle.std.proofs.lemmas.Cmp.{eq_by_cmp_equiv}
use Rattle.std.proofs.lemmas.List.Kept.{Contains-dedup, Contains-from_dedup, IsStrictlySortedBy-dedup}
use Rattle.std.proofs.lemmas.List.Sorted.{Contains-permutation, IsPermutation-sym}
use Rattle.std.specs.Cmp.{IsTotalOrder}
use Rattle.std.specs.Cmp.Rules.{comparing}
use Rattle.std.specs.FinMap.{IsAntisymmetric}
use Rattle.std.specs.List.{dedup}
use Rattle.std.specs.List.Sorted.{IsPermutation, IsSorted}
use Rattle.std.specs.Ordering.{eq_by_cmp, is_eq}
use Rattle.std.specs.declared.cmp.Ordering.{Ordering}
use Rattle.std.specs.declared.cmp.Ordering.TheVariants.{Less, Equal, Greater}
use Rattle.py_base.specs.declared.diag.Diag.{Diag}
use Rattle.py_base.specs.DiagOrder.{diag_cmp}
use Rattle.diagnostics.specs.SortedList.{IsSortedList}

pub total : IsTotalOrder diag_cmp
total = search (comparing, rules)

is_equal : (o : Ordering) → is_eq o ≡ true → o ≡ Equal
is_equal Less e = cc
is_equal Equal e = refl
is_equal Greater e = cc

pub sorted_list : IsAntisymmetric diag_cmp → (found moved : List Diag) → IsPermutation found moved → IsSorted diag_cmp moved → IsSortedList found (dedup (eq_by_cmp diag_cmp) moved)
sorted_list tells found moved p h = record {
  rises = IsStrictlySortedBy-dedup total (λ x y. refl) moved h;
  has = λ d. (
    λ c. Contains-permutation moved found d (IsPermutation-sym found moved p) (Contains-from_dedup (eq_by_cmp diag_cmp) moved d c),
    λ c. Contains-dedup (eq_by_cmp_equiv total) (λ x y e. tells x y (is_equal (diag_cmp x y) e)) moved d (Contains-permutation found moved d p c),
  );
}
