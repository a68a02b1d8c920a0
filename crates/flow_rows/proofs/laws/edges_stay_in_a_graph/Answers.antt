use Rattle.std.proofs.Common.{refl, ap, sym, inl, inr}
use Rattle.flow_rows.specs.declared.edge.Edge.{Edge}
use Rattle.flow_rows.proofs.laws.edges_stay_in_a_graph.Goals as goal

pub returns : goal.returns
returns c = λ forms t e h starts. elim h [
  | inl own ↦ (own.0, own.1, inr (inr (e, own.2, inl refl)), inr (inr (e, own.2, inr refl)))
  | inr start ↦ absurd (starts (sym (ap (λ (x : Edge). x.kind) start.3)))
]
