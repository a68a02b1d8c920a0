-- The edges to the starts of graphs come to the steps.
use Rattle.std.proofs.Common.{◌≡◌, ℕ, ◌<◌, ◌+◌, List, [], ◌∷◌, ◌++◌, refl, ap, sym, subst, ◌⊎◌, inl, inr, arith}
use Rattle.std.proofs.lemmas.Bool.{cases_lt}
use Rattle.py_base.specs.declared.ids.NodeId.{NodeId}
use Rattle.flow_rows.specs.declared.point.Point.{Point}
use Rattle.flow_rows.specs.declared.edge.Edge.{Edge}
use Rattle.flow_rows.specs.declared.edge.EdgeKind.TheVariants as kinds
use Rattle.flow_rows.specs.declared.form.Form.{Form}
use Rattle.flow_rows.specs.Points.{edge, own, start}
use Rattle.flow_rows.specs.Flow.{Has, HasGraph}
use Rattle.flow_rows.proofs.Flowing.{has_split, has_left, has_right}
use Rattle.point_graph.specs.declared.numbers.Step.{Step}
use Rattle.point_graph.specs.Numbers.{IsNumber, IsStep}
use Rattle.point_graph.specs.Building.{AreMore, IsStartOf, IsStartBelow}

pub more_nothing : (points : List Point) (IsOne : Edge → Type 0) (steps : List Step) → ((e : Edge) → IsOne e → ⊥) → AreMore points IsOne steps steps
more_nothing points IsOne steps none = record { old_stay = λ s h. h; sound = λ s h. inl h; known = λ e h. absurd (none e h) }

pub start_pushed : (forms : List Form) (points : List Point) (root : NodeId) (steps new_steps : List Step) (s : Step)
    → HasGraph forms root → Has points (own root 0)
    → IsNumber points s.from (own root 0) → IsNumber points s.to (start root) → s.kind ≡ kinds.Start
    → new_steps ≡ steps ++ s ∷ []
    → AreMore points (IsStartOf forms points root) steps new_steps
start_pushed forms points root steps new_steps s has there from to kind is =
    let e : Edge = edge (own root 0) (start root) kinds.Start in
    let one : IsStep points e s = record { from = from; to = to; kind = kind } in
    record {
      old_stay = λ x h. subst (λ (l : List Step). Has l x) (sym is) (has_left steps (s ∷ []) x h);
      sound = λ x h. elim (has_split steps (s ∷ []) x (subst (λ (l : List Step). Has l x) is h)) [
        | inl a ↦ inl a
        | inr b ↦ elim b [
          | inl same ↦ inr (e, (has, there, refl), subst (λ (y : Step). IsStep points e y) same one)
          | inr never ↦ absurd never
        ]
      ];
      known = λ x r. (
        s,
        subst (λ (l : List Step). Has l s) (sym is) (has_right steps (s ∷ []) s (inl refl)),
        subst (λ (y : Edge). IsStep points y s) r.2 one,
      );
    }

last_or_below : (k n : ℕ) → k < n + 1 → (k < n) ⊎ (k ≡ n)
last_or_below k n h = elim (cases_lt k n) [ inl lt ↦ inl lt | inr ge ↦ inr (omega arith) ]

same_node : (root : NodeId) (n : ℕ) → root.0 ≡ n → root ≡ record { 0 = n }
same_node root n h = ap (λ (k : ℕ). record { 0 = k }) h

pub starts_none : (forms : List Form) (points : List Point) (steps : List Step) → AreMore points (IsStartBelow forms points 0) steps steps
starts_none forms points steps = more_nothing points (IsStartBelow forms points 0) steps (λ e r. absurd (omega (arith, r.1)))

pub starts_more : (forms : List Form) (points : List Point) (n : ℕ) (steps middle new_steps : List Step)
    → AreMore points (IsStartBelow forms points n) steps middle
    → AreMore points (IsStartOf forms points (record { 0 = n })) middle new_steps
    → AreMore points (IsStartBelow forms points (n + 1)) steps new_steps
starts_more forms points n steps middle new_steps a b = record {
  old_stay = λ s h. b.old_stay s (a.old_stay s h);
  sound = λ s h. elim (b.sound s h) [
    | inl m ↦ elim (a.sound s m) [ inl o ↦ inl o | inr r ↦ inr (r.0, (r.1.0, omega (arith, r.1.1), r.1.2), r.2) ]
    | inr r ↦ inr (r.0, (record { 0 = n }, omega arith, r.1), r.2)
  ];
  known = λ e r. elim (last_or_below r.0.0 n r.1) [
    | inl lt ↦ let k = a.known e (r.0, lt, r.2) in (k.0, b.old_stay k.0 k.1, k.2)
    | inr q ↦ b.known e (subst (λ (x : NodeId). IsStartOf forms points x e) (same_node r.0 n q) r.2)
  ];
}
