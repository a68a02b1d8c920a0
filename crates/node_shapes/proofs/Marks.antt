-- Marks of the functions whose bodies have a `yield`, by one pass over the nodes.
use Rattle.std.proofs.Common.{◌≡◌, ℕ, ◌+◌, ◌<◌, ◌≤◌, ◌==◌, Bool, true, false, ◌||◌, List, [], ◌∷◌, length, map, refl, sym, ap, ◌∙◌, arith, if◌then◌else◌, inl, inr}
use Rattle.std.specs.Prelude.{Option, Some, None, option_map, slice_get, slice_set, filter}
use Rattle.std.specs.List.{list_any}
use Rattle.std.proofs.lemmas.Bool.{eqb-true, eqb-false, ne_eqb}
use Rattle.std.proofs.lemmas.List.Elements.{filter-append}
use Rattle.std.proofs.lemmas.List.Folds.{list_any-append}
use Rattle.std.proofs.lemmas.Option.{slice_get_within, slice_get_past, slice_get_cases}
use Rattle.std.proofs.Math.Bool.{or-false}
use Rattle.py_base.specs.declared.ids.NodeId.{NodeId}
use Rattle.py_base.specs.declared.node.Node.{Node}
use Rattle.py_base.specs.Nodes.{kind_at}
use Rattle.node_shapes.specs.Around.{function_around}
use Rattle.node_shapes.specs.Bodies.{is_that, has_yield}
use Rattle.node_shapes.specs.Items.{first_ids}
use Rattle.node_shapes.specs.Kinds.{is_yield}
use Rattle.node_shapes.specs.Tables.{no_mark, yielding, marked, MarksNode}
use Rattle.node_shapes.proofs.IdLists.{get-set_same, get-set_other, ids-next, get-made, made-by-get}

as-before : (o : Option Bool) → o ≡ option_map (λ b. b || false) o
as-before None = refl
as-before (Some b) = ap Some (sym (or-false b))

pub mark-none : (old : List Bool) → MarksNode None old old
mark-none old i = as-before (slice_get old i)

or-yes : (b c : Bool) → c ≡ true → (b || c) ≡ true
or-yes true c e = refl
or-yes false c e = e

pub mark-set : (node : NodeId) (old new : List Bool) → node.0 < length old → new ≡ slice_set old node.0 true → MarksNode (Some node) old new
mark-set node old new within made i = ap (λ l. slice_get l i) made ∙ go (i == node.0) refl
  where
    there : i ≡ node.0 → (i == node.0) ≡ true → slice_get (slice_set old node.0 true) i ≡ option_map (marked (Some node) i) (slice_get old i)
    there same e = elim (slice_get_cases old i).1 [
      | inl h ↦ ap (slice_get (slice_set old node.0 true)) same ∙ get-set_same old node.0 true within ∙ sym (ap (option_map (marked (Some node) i)) h.2 ∙ ap Some (or-yes h.0 (i == node.0) e))
      | inr h ↦ absurd (omega (arith, h.0, same, within))
    ]

    go : (b : Bool) → (i == node.0) ≡ b → slice_get (slice_set old node.0 true) i ≡ option_map (marked (Some node) i) (slice_get old i)
    go true e = there (eqb-true i node.0 e) e
    go false e = get-set_other old node.0 i true (λ same. eqb-false i node.0 e (sym same)) ∙ as-before (slice_get old i) ∙ ap (λ b. option_map (λ o. o || b) (slice_get old i)) (sym e)

pub mark-past : (node : NodeId) (old : List Bool) → length old ≤ node.0 → MarksNode (Some node) old old
mark-past node old past i = elim (slice_get_cases old i).1 [
  | inl h ↦
      let within = slice_get_within old i h.0 h.2 in
      let apart : (i == node.0) ≡ false = ne_eqb i node.0 (λ e. omega (arith, within, past, e)) in
      as-before (slice_get old i) ∙ ap (λ b. option_map (λ o. o || b) (slice_get old i)) (sym apart)
  | inr h ↦ let gone = slice_get_past old i h.0 in gone ∙ sym (ap (option_map (marked (Some node) i)) gone)
]

-- what the nodes so far mark
abbrev pub has_mark : List Node → ℕ → ℕ → Bool
has_mark nodes number i = list_any (λ y. is_that (record { 0 = i }) (function_around nodes y)) (filter (λ n. is_yield (kind_at nodes n)) (first_ids number))

abbrev pub AreMarked : List Node → ℕ → List Bool → Type 0
AreMarked nodes number now = (i : ℕ) → i < length nodes → slice_get now i ≡ Some (has_mark nodes number i)

pub marks-start : (nodes : List Node) (now : List Bool) → now ≡ map no_mark (first_ids (length nodes)) → AreMarked nodes 0 now
marks-start nodes now e i lt = ap (λ l. slice_get l i) e ∙ get-made no_mark (length nodes) i lt

mark-more : (nodes : List Node) (number i : ℕ) → has_mark nodes (number + 1) i ≡ marked (yielding nodes (record { 0 = number })) i (has_mark nodes number i)
mark-more nodes number i =
    let here : NodeId = record { 0 = number } in
    let test : NodeId → Bool = λ y. is_that (record { 0 = i }) (function_around nodes y) in
    let kept : NodeId → Bool = λ n. is_yield (kind_at nodes n) in
    ap (λ l. list_any test (filter kept l)) (ids-next number) ∙ ap (list_any test) (filter-append kept (first_ids number) (here ∷ []))
    ∙ list_any-append test (filter kept (first_ids number)) (filter kept (here ∷ [])) ∙ ap (λ b. has_mark nodes number i || b) (go (is_yield (kind_at nodes here)))
  where
    go : (b : Bool) → list_any (λ y. is_that (record { 0 = i }) (function_around nodes y)) (if b then record { 0 = number } ∷ [] else [])
        ≡ is_that (record { 0 = i }) (if b then function_around nodes (record { 0 = number }) else None)
    go true = or-false (is_that (record { 0 = i }) (function_around nodes (record { 0 = number })))
    go false = refl

pub marks-next : (nodes : List Node) (number : ℕ) (node : Option NodeId) (now new : List Bool) → node ≡ yielding nodes (record { 0 = number }) → MarksNode node now new → AreMarked nodes number now
    → AreMarked nodes (number + 1) new
marks-next nodes number node now new is marks before i lt =
    marks i ∙ ap (option_map (marked node i)) (before i lt) ∙ ap (λ n. Some (marked n i (has_mark nodes number i))) is ∙ ap Some (sym (mark-more nodes number i))

pub marks-end : (nodes : List Node) (number : ℕ) (now : List Bool) → number ≡ length nodes → length now ≡ length nodes → AreMarked nodes number now → now ≡ map (has_yield nodes) (first_ids (length nodes))
marks-end nodes number now done count before = made-by-get (has_yield nodes) (length nodes) now count (λ i lt. before i lt ∙ ap (λ k. Some (has_mark nodes k i)) done)
