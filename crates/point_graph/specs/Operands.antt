-- The point of a node in a copy, also where it stands under a condition: `and`, `or`, `not`, brackets and the conditional expression have
-- no point of their own there, and theirs is that of the operand that is evaluated first (Python 3.12 language reference, sections 6.2.3,
-- 6.11 and 6.13).
use Rattle.std.specs.Prelude.{ℕ, ◌≡◌, ◌<◌, List, Option, None, Some, slice_get, map}
use Rattle.py_base.specs.declared.ids.NodeId.{NodeId}
use Rattle.flow_rows.specs.declared.point.Point.{Point}
use Rattle.flow_rows.specs.declared.form.Form.{Form}
use Rattle.flow_rows.specs.declared.form.Form.TheVariants as forms
use Rattle.flow_rows.specs.Points.{own}
use Rattle.flow_rows.specs.Flow.{Has}

-- the operand that is evaluated first
abbrev pub operand : Form → Option NodeId
operand (forms.And a b) = Some a
operand (forms.Or a b) = Some a
operand (forms.Not a) = Some a
operand (forms.Group a) = Some a
operand (forms.Conditional choice) = Some choice.test
operand form = None

-- the operands of all nodes
abbrev pub operands_of : List Form → List (Option NodeId)
operands_of forms = map operand forms

-- THE POINT OF A NODE in a copy, among these points: its own, and where that is none of them, that of its operand, which is an older node
pub data IsPointAt (points : List Point) (operands : List (Option NodeId)) : NodeId → ℕ → Point → Type 0 where
  itself : {n : NodeId} {c : ℕ} → Has points (own n c) → IsPointAt points operands n c (own n c)
  of_operand : {n : NodeId} {c : ℕ} {p : Point} (a : NodeId)
      → (Has points (own n c) → ⊥) → slice_get operands n.0 ≡ Some (Some a) → a.0 < n.0
      → IsPointAt points operands a c p → IsPointAt points operands n c p
