-- The way outward ends before its steps are counted out.
use Rattle.std.proofs.Common.{◌≡◌, ℕ, zero, suc, ◌+◌, ◌<◌, ◌≤◌, List, [], ◌∷◌, length, refl, sym, ap, ◌∙◌, arith}
use Rattle.std.specs.Prelude.{Option, Some, None, IfSome, slice_get}
use Rattle.py_base.specs.declared.ids.NodeId.{NodeId}
use Rattle.py_base.specs.Tree.{Arena, IsLinked}
use Rattle.node_shapes.specs.declared.outward.Step.{Step}
use Rattle.node_shapes.specs.Outward.{step_of, outward_from, steps, outward}
use Rattle.node_shapes.proofs.StepTables.{newer, none-beyond, IsNewer, step-is}
use Rattle.node_shapes.specs.Tables.{steps_outward, step_or_none, first_step, is_pattern_step, use_by}
use Rattle.node_shapes.specs.Uses.{is_pattern, use_along}

enough : (a : Arena) (linked : IsLinked a) (left : ℕ) (id : NodeId) → length a.nodes ≤ left + id.0 → steps left a.nodes id ≡ steps (suc left) a.nodes id
enough a linked zero id le = sym (ap (λ o. outward_from o (steps zero a.nodes)) (none-beyond a id linked (omega (arith, le))))
enough a linked (suc left) id le = go (step_of a.nodes id) refl (λ s h. enough a linked left s.around (omega (arith, h, le)))
  where
    go : (o : Option Step) → step_of a.nodes id ≡ o → ((s : Step) → id.0 < s.around.0 → steps left a.nodes s.around ≡ steps (suc left) a.nodes s.around)
        → outward_from o (steps left a.nodes) ≡ outward_from o (steps (suc left) a.nodes)
    go None e on = refl
    go (Some s) e on = ap (λ l. s ∷ l) (on s (newer a id s linked e).0)

pub way-on : (a : Arena) (id : NodeId) (o : Option Step) → IsLinked a → o ≡ step_of a.nodes id → outward a.nodes id ≡ outward_from o (outward a.nodes)
way-on a id o linked e = enough a linked (length a.nodes) id (omega arith) ∙ ap (λ x. outward_from x (outward a.nodes)) (sym e)

pub newer-step : (a : Arena) (id : NodeId) (o : Option Step) → IsLinked a → o ≡ step_of a.nodes id → IfSome o (IsNewer id.0 (length a.nodes))
newer-step a id None linked e = tt
newer-step a id (Some s) linked e = newer a id s linked (sym e)

-- what is said of a step
pub record IsStep (a : Arena) (id : NodeId) (o : Option Step) : Type 0 where
  pub step : o ≡ step_of a.nodes id
  pub way : outward a.nodes id ≡ outward_from o (outward a.nodes)
  pub newer : IfSome o (IsNewer id.0 (length a.nodes))

pub step-done : (a : Arena) (id : NodeId) (table : List (Option Step)) (o : Option Step) → (table ≡ steps_outward a.nodes) × IsLinked a → o ≡ step_or_none (slice_get table id.0) → IsStep a id o
step-done a id table o inside e =
    let same = e ∙ step-is a id table inside.0 inside.1 in
    record { step = same; way = way-on a id o inside.1 same; newer = newer-step a id o inside.1 same }

-- what is asked of a way is asked of its first step
pub pattern-step : (way : List Step) → is_pattern way ≡ is_pattern_step (first_step way)
pattern-step [] = refl
pattern-step (s ∷ ss) = refl

pub use-step : (way : List Step) → use_along way ≡ use_by (first_step way)
use-step [] = refl
use-step (s ∷ ss) = refl
