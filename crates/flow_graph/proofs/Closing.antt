-- Each number that the table gives is that of a reference.
use Rattle.std.proofs.Common.{◌≡◌, ℕ, ◌<◌, List, length, refl, subst, inl, inr, Option, None, Some, IfSome, slice_get}
use Rattle.std.proofs.lemmas.Option.{slice_get_within}
use Rattle.py_base.specs.declared.ids.NodeId.{NodeId}
use Rattle.py_base.specs.declared.ids.PointId.{PointId}
use Rattle.py_base.specs.declared.ids.RefId.{RefId}
use Rattle.py_base.specs.Tree.{Arena}
use Rattle.py_scopes.specs.declared.owner.Owner.{Owner}
use Rattle.flow_rows.specs.declared.point.Point.{Point}
use Rattle.flow_rows.specs.declared.point.Role.{Role}
use Rattle.flow_rows.specs.declared.point.Role.TheVariants as roles
use Rattle.point_graph.specs.Graph.{Numbered, listed_or}
use Rattle.node_references.specs.Reference.{Reference}
use Rattle.node_references.specs.Numbers.{flat, IsNumberOf}
use Rattle.flow_graph.specs.declared.table.References.{References}
use Rattle.flow_graph.specs.Table.{read_by_role, read_at, bound_id, AreOccurring, AreBelow, condition_of, mirrored_of, IsBindingOf, IsConditionOf, AreReferences, IsClosed}
use Rattle.flow_graph.specs.declared.condition.TestForm.{TestForm}

number_below : (list : List Reference) (x : Option RefId) (r : Option Reference) → IsNumberOf list x r → IfSome x (λ r. r.0 < length list)
number_below list None r h = tt
number_below list (Some id) None h = absurd h
number_below list (Some id) (Some r) h = slice_get_within list id.0 r h

binding_below : (list : List Reference) (x : Option (RefId × NodeId)) (b : Option (Reference × NodeId)) → IsBindingOf list x b
    → IfSome x (λ b. b.0.0 < length list)
binding_below list None b h = tt
binding_below list (Some x) None h = absurd h
binding_below list (Some x) (Some b) h = slice_get_within list x.0.0 b.0 h.0

condition_below : (list : List Reference) (x : Option (RefId × TestForm)) (c : Option (Reference × TestForm)) → IsConditionOf list x c → IfSome x (λ c. c.0.0 < length list)
condition_below list None c h = tt
condition_below list (Some x) None h = absurd h
condition_below list (Some x) (Some c) h = slice_get_within list x.0.0 c.0 h.0

found_below : (count : ℕ) (x : Option RefId) (r : RefId) → IfSome x (λ r. r.0 < count) → x ≡ Some r → r.0 < count
found_below count x r h e = subst (λ (y : Option RefId). IfSome y (λ r. r.0 < count)) e h

none_some : {A : Type 0} (x : A) → None ≡ Some x → ⊥
none_some x h = cc h

read_below : (count : ℕ) (reads : List (Option RefId)) (p : Option Point) (r : RefId) → ((n : ℕ) → IfSome (flat (slice_get reads n)) (λ r. r.0 < count))
    → read_at reads p ≡ Some r → r.0 < count
read_below count reads None r below e = absurd (none_some r e)
read_below count reads (Some p) r below e = go p.role e
  where
    go : (role : Role) → read_by_role reads p.node role ≡ Some r → r.0 < count
    go roles.Own e = found_below count (flat (slice_get reads p.node.0)) r (below p.node.0) e
    go roles.Again e = absurd (none_some r e)
    go roles.Behind e = absurd (none_some r e)
    go roles.Fail e = absurd (none_some r e)
    go roles.Handlers e = absurd (none_some r e)
    go roles.Start e = absurd (none_some r e)

bound_below : (count : ℕ) (x : Option (RefId × NodeId)) (r : RefId) → IfSome x (λ b. b.0.0 < count) → bound_id x ≡ Some r → r.0 < count
bound_below count None r h e = absurd (none_some r e)
bound_below count (Some x) r h e = found_below count (Some x.0) r h e

occurring_below : (count : ℕ) (points : List Point) (reads : List (Option RefId)) (bindings : List (Option (RefId × NodeId))) (ids : List PointId) (refs : List RefId)
    → ((n : ℕ) → IfSome (flat (slice_get reads n)) (λ r. r.0 < count)) → ((p : ℕ) → IfSome (flat (slice_get bindings p)) (λ b. b.0.0 < count))
    → AreOccurring points reads bindings ids refs → AreBelow count refs
occurring_below count points reads bindings ids refs read bound occurring r has =
    let (p, among, at) = (occurring.exact r).0 has in
    elim at [
      | inl a ↦ read_below count reads (slice_get points p.0) r read a
      | inr b ↦ bound_below count (flat (slice_get bindings p.0)) r (bound p.0) b
    ]

-- what is right by its references is closed
pub closed : (a : Arena) (os : List Owner) (g : Numbered) (t : References) → AreReferences a os g t → IsClosed t
closed a os g t h =
    let read : (n : ℕ) → IfSome (flat (slice_get t.reads n)) (λ r. r.0 < length t.list) = λ n. number_below t.list (flat (slice_get t.reads n)) _ (h.reads (record { 0 = n })) in
    let bound : (p : ℕ) → IfSome (flat (slice_get t.bindings p)) (λ b. b.0.0 < length t.list) = λ p. binding_below t.list (flat (slice_get t.bindings p)) _ (h.bindings (record { 0 = p })) in
    record {
      prefixes = h.prefixes;
      reads = read;
      bindings = bound;
      tests = λ n. condition_below t.list (condition_of (slice_get t.tests n)) _ (h.tests (record { 0 = n }));
      mirrors = λ n. condition_below t.list (mirrored_of (slice_get t.tests n)) _ (h.mirrors (record { 0 = n }));
      graphs = λ n refs at. occurring_below (length t.list) g.points t.reads t.bindings _ refs read bound (h.graphs n refs at);
    }
