use Rattle.type_terms.proofs.WidenLemmas.{widen-IsType, has-widen, widen-none, widen-union}
use Rattle.type_terms.proofs.laws.widen_is_exact.Goals as goal

pub returns : goal.returns
returns c = record { rises = widen-IsType; members = has-widen; never = widen-none; joins = widen-union }
