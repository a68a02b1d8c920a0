-- The order of atoms is total, and ties only an atom with itself.
use Rattle.std.specs.FinSet.{IsAntisymmetric}
use Rattle.type_terms.specs.Order.{atom_cmp, key}
use Rattle.type_terms.specs.KeyOrder.{key_cmp_tells}
pub use Rattle.type_terms.specs.KeyOrder.{atom_cmp_total}
use Rattle.type_terms.proofs.KeyTells.{key_same}

pub atom_cmp_tells : IsAntisymmetric atom_cmp
unfolding atom_cmp
atom_cmp_tells a b e = key_same a b (key_cmp_tells (key a) (key b) e)
