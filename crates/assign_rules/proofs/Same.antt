-- What the order of members tells of slices.
use Rattle.std.proofs.Common.{◌≡◌, List, true, Ordering, Equal, sym, ◌∙◌}
use Rattle.std.specs.Ordering.{is_eq}
use Rattle.std.specs.Cmp.{Equal-is}
use Rattle.std.specs.Cmp.Lexicographic.{slice_cmp}
use Rattle.std.specs.FinMap.{slice_cmp-IsAntisymmetric}
use Rattle.type_terms.specs.declared.atom.Atom.{Atom}
use Rattle.type_terms.specs.Order.{atom_cmp}
use Rattle.type_terms.proofs.OrderLaws.{atom_cmp_tells}

pub slices_same : (xs ys : List Atom) (o : Ordering) → o ≡ slice_cmp atom_cmp xs ys → is_eq o ≡ true → xs ≡ ys
slices_same xs ys o e h = slice_cmp-IsAntisymmetric atom_cmp_tells xs ys (sym e ∙ (Equal-is o).0 h)

pub not_equal : (o : Ordering) → (o ≡ Equal → ⊥) → is_eq o ≡ true → ⊥
not_equal o f h = f ((Equal-is o).0 h)
