use Rattle.std.proofs.Common.{map}
use Rattle.py_grammar.proofs.OrderLemmas.{scan_whole}
use Rattle.py_grammar.proofs.order.is_in_order.Goals as goal

pub parts-init : goal.parts-init
parts-init c = scan_whole c.args.order (map (λ x. x.kind) c.args.parts.now)
