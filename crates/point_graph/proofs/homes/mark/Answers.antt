use Rattle.std.proofs.Common.{◌≡◌, List, [], ◌∷◌, Some, slice_get, refl, sym, ◌∙◌, ap, inl, true≢false}
use Rattle.std.proofs.lemmas.Option.{slice_get_within}
use Rattle.py_base.specs.declared.ids.GraphId.{GraphId}
use Rattle.point_graph.proofs.Keys.{keeps_append}
use Rattle.point_graph.proofs.Entering.{marked, marked_list}
use Rattle.flow_rows.specs.Flow.{Has}
use Rattle.point_graph.proofs.Ordering.{number_there, number_new}
use Rattle.point_graph.proofs.homes.mark.Goals as goal

pub returns-clause-of : goal.returns-clause-of
returns-clause-of c =
    let away : slice_get c.args.homes.now c.args.id.0 ≡ Some c.args.graph → ⊥ = λ h.
    true≢false (sym (c.is_home.ensures.1 (ap (λ (l : List GraphId). slice_get l c.args.id.0) c.as_slice.ensures ∙ h)) ∙ c.if-is_home.false) in
    marked c.args.homes.now c.set_home.new.homes c.args.list.now c.push.new.self c.args.id c.args.graph c.requires.of away
    c.in_ok-set_home.ensures.here c.in_ok-set_home.ensures.elsewhere c.in_ok-push.ensures.ok

pub returns-clause-list : goal.returns-clause-list
returns-clause-list c = marked_list c.args.list.now c.push.new.self c.args.id c.in_ok-push.ensures.ok

pub returns-clause-keeps : goal.returns-clause-keeps
returns-clause-keeps c = keeps_append c.args.list.now (c.args.id ∷ []) c.push.new.self c.in_ok-push.ensures.ok

pub returns-clause-listed : goal.returns-clause-listed
returns-clause-listed c =
    let away : Has c.args.list.now c.args.id → ⊥ = λ h.
    true≢false (sym (c.is_home.ensures.1 (ap (λ (l : List GraphId). slice_get l c.args.id.0) c.as_slice.ensures ∙ (c.requires.of.exact c.args.id).0 h)) ∙ c.if-is_home.false) in
    number_new c.args.list.now c.push.new.self c.args.id away c.in_ok-push.ensures.ok

pub returns-then-is_home-clause-grows : goal.returns-then-is_home-clause-grows
returns-then-is_home-clause-grows c =
    let home : slice_get c.args.homes.now c.args.id.0 ≡ Some c.args.graph =
    sym (ap (λ (l : List GraphId). slice_get l c.args.id.0) c.as_slice.ensures) ∙ c.is_home.ensures.0 c.if-is_home.true in
    inl (refl, slice_get_within c.args.homes.now c.args.id.0 c.args.graph home)

pub returns-then-is_home-clause-listed : goal.returns-then-is_home-clause-listed
returns-then-is_home-clause-listed c =
    let home : slice_get c.args.homes.now c.args.id.0 ≡ Some c.args.graph =
    sym (ap (λ (l : List GraphId). slice_get l c.args.id.0) c.as_slice.ensures) ∙ c.is_home.ensures.0 c.if-is_home.true in
    number_there c.args.list.now c.args.id ((c.requires.of.exact c.args.id).1 home)
