use Rattle.std.proofs.Common.{◌≡◌, refl, sym, ap, slice_get, subst, length, arith, Option, List, [], ◌∷◌, ◌∙◌, length-append}
use Rattle.py_base.specs.declared.ids.NodeId.{NodeId}
use Rattle.py_base.specs.declared.ids.RefId.{RefId}
use Rattle.node_references.specs.Reference.{Reference}
use Rattle.node_references.specs.declared.shape.Shape.{Shape}
use Rattle.node_references.specs.References.{shape_at, by_shape}
use Rattle.node_references.specs.Numbers.{IsNumberOf}
use Rattle.node_references.specs.Numbering.{AreNumbersOf, AreOfNodes, AreKnownBelow}
use Rattle.node_references.proofs.Within.{shape_older, parts_below, number_here, of_nodes_more, known_more, known_all}
use Rattle.node_references.proofs.Ordering.{order_more}
use Rattle.node_references.proofs.referred.referred.Goals as goal

pub number_of_shape-requires-clause-linked : goal.number_of_shape-requires-clause-linked
number_of_shape-requires-clause-linked c = c.loop-place.invariant.linked

pub number_of_shape-requires-clause-within : goal.number_of_shape-requires-clause-within
number_of_shape-requires-clause-within c =
    rw (c.shape_of-shape.ensures, c.kind.ensures, c.parts.ensures, c.as_slice.ensures)
    (parts_below c.args.tree.now c.args.scopes.now.owners c.loop-place.numbering.list c.loop-place.table c.loop-place.place (shape_at c.args.tree.now (record { 0 = c.loop-place.place }))
    (shape_older c.args.tree.now (record { 0 = c.loop-place.place }) c.node_count-place-end.ensures.linked) c.loop-place.invariant.known)

pub loop-place-init : goal.loop-place-init
loop-place-init c = record {
  long = rw c.new-table.ensures refl;
  each = λ e i r at. absurd (cc (sym (ap (λ (l : List Reference). slice_get l i) e) ∙ at));
  ordered = λ e i j r q lt at. absurd (cc (sym (ap (λ (l : List Reference). slice_get l i) e) ∙ at));
  linked = c.requires.linked;
  known = λ n lt. absurd (omega (arith, lt));
}

pub loop-place-preserved : goal.loop-place-preserved
loop-place-preserved c =
    let n : NodeId = record { 0 = c.loop-place.place } in
    let same : c.shape_of-shape.result ≡ shape_at c.args.tree.now n = rw (c.shape_of-shape.ensures, c.kind.ensures, c.parts.ensures) refl in
    let numbered : (inner : NodeId → Option Reference) → AreNumbersOf c.loop-place.numbering.list c.loop-place.table (shape_at c.args.tree.now n) inner
    → IsNumberOf c.number_of_shape.new.numbering.list c.in_ok-id.id (by_shape inner c.args.tree.now c.args.scopes.now.owners n (shape_at c.args.tree.now n)) =
    subst (λ (s : Shape). (inner : NodeId → Option Reference) → AreNumbersOf c.loop-place.numbering.list c.loop-place.table s inner
    → IsNumberOf c.number_of_shape.new.numbering.list c.in_ok-id.id (by_shape inner c.args.tree.now c.args.scopes.now.owners n s)) same
    (subst (λ (t : List (Option RefId)). (inner : NodeId → Option Reference) → AreNumbersOf c.loop-place.numbering.list t c.shape_of-shape.result inner
    → IsNumberOf c.number_of_shape.new.numbering.list c.in_ok-id.id (by_shape inner c.args.tree.now c.args.scopes.now.owners n c.shape_of-shape.result)) c.as_slice.ensures
    c.in_ok-id.ensures.at) in
    record {
      long = rw (c.in_ok-push.ensures.ok) (omega (arith, length-append c.loop-place.table (c.in_ok-id.id ∷ []), c.loop-place.invariant.long));
      each = λ e. of_nodes_more c.args.tree.now c.args.scopes.now.owners c.loop-place.numbering.list c.number_of_shape.new.numbering.list n c.in_ok-id.id
          (c.loop-place.invariant.each e) c.in_ok-id.ensures.alone
          (number_here c.args.tree.now c.args.scopes.now.owners c.loop-place.numbering.list c.number_of_shape.new.numbering.list c.loop-place.table n c.in_ok-id.id
          c.node_count-place-end.ensures.linked c.loop-place.invariant.known numbered);
      ordered = λ e. order_more c.args.tree.now c.args.scopes.now.owners c.loop-place.numbering.list c.number_of_shape.new.numbering.list c.loop-place.table n c.in_ok-id.id
          (c.loop-place.invariant.ordered e) (c.loop-place.invariant.each e) c.loop-place.invariant.known c.in_ok-id.ensures.keeps c.in_ok-id.ensures.alone
          c.in_ok-id.ensures.linked.apart;
      linked = c.in_ok-id.ensures.linked;
      known = known_more c.args.tree.now c.args.scopes.now.owners c.loop-place.numbering.list c.number_of_shape.new.numbering.list c.loop-place.table c.push.new.self n c.in_ok-id.id
          c.node_count-place-end.ensures.linked c.loop-place.invariant.long c.loop-place.invariant.known c.in_ok-id.ensures.keeps numbered c.in_ok-push.ensures.ok;
    }

pub returns-clause-each : goal.returns-clause-each
returns-clause-each c =
    let done : c.loop-place.place ≡ length c.args.tree.now.nodes = omega (arith, c.loop-place-test.false, c.loop-place.auto.place-end, c.node_count-place-end.ensures.count) in
    λ e. subst (λ k. AreOfNodes c.args.tree.now c.args.scopes.now.owners c.loop-place.numbering.list k) done (c.loop-place.invariant.each e)

pub returns-clause-ordered : goal.returns-clause-ordered
returns-clause-ordered c = c.loop-place.invariant.ordered

pub returns-clause-known : goal.returns-clause-known
returns-clause-known c =
    let done : c.loop-place.place ≡ length c.args.tree.now.nodes = omega (arith, c.loop-place-test.false, c.loop-place.auto.place-end, c.node_count-place-end.ensures.count) in
    known_all c.args.tree.now c.args.scopes.now.owners c.loop-place.numbering.list c.loop-place.table
    (c.loop-place.invariant.long ∙ done)
    (subst (λ k. AreKnownBelow c.args.tree.now c.args.scopes.now.owners c.loop-place.numbering.list c.loop-place.table k) done c.loop-place.invariant.known)

pub returns-clause-long : goal.returns-clause-long
returns-clause-long c =
    let done : c.loop-place.place ≡ length c.args.tree.now.nodes = omega (arith, c.loop-place-test.false, c.loop-place.auto.place-end, c.node_count-place-end.ensures.count) in
    c.loop-place.invariant.long ∙ done
