-- The point of a node is that of its operand, where it has none of its own.
use Rattle.std.proofs.Common.{◌≡◌, ℕ, ◌<◌, List, Option, None, Some, IfSome, slice_get}
use Rattle.py_base.specs.declared.ids.NodeId.{NodeId}
use Rattle.py_base.specs.declared.ids.PointId.{PointId}
use Rattle.flow_rows.specs.declared.point.Point.{Point}
use Rattle.flow_rows.specs.Points.{own}
use Rattle.flow_rows.specs.Flow.{Has}
use Rattle.point_graph.specs.Numbers.{IsNumber}
use Rattle.point_graph.specs.Operands.{IsPointAt, of_operand}

pub from_operand : (points : List Point) (operands : List (Option NodeId)) (n a : NodeId) (copy : ℕ) (found : Option PointId)
    → (Has points (own n copy) → ⊥) → slice_get operands n.0 ≡ Some (Some a) → a.0 < n.0
    → IfSome found (λ id. (p : Point) × IsNumber points id p × IsPointAt points operands a copy p)
    → IfSome found (λ id. (p : Point) × IsNumber points id p × IsPointAt points operands n copy p)
from_operand points operands n a copy None away at lt h = h
from_operand points operands n a copy (Some id) away at lt h = (h.0, h.1, of_operand a away at lt h.2)
