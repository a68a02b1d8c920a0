use Rattle.type_terms.proofs.OrderLaws.{atom_cmp_total, atom_cmp_tells}
use Rattle.type_terms.proofs.order.order_is_total.Goals as goal

pub returns : goal.returns
returns c = record { total = atom_cmp_total; tells = atom_cmp_tells }
