-- The symbol that a reference begins with is that of some name.
use Rattle.std.proofs.Common.{◌≡◌, ℕ, zero, suc, List, [], refl, ap, sym, ◌∙◌, subst, Option, None, Some, slice_get}
use Rattle.py_base.specs.declared.ids.NodeId.{NodeId}
use Rattle.py_base.specs.declared.ids.NameId.{NameId}
use Rattle.py_base.specs.declared.ids.SymId.{SymId}
use Rattle.py_base.specs.Tree.{Arena}
use Rattle.py_scopes.specs.declared.owner.Owner.{Owner}
use Rattle.py_scopes.specs.declared.owner.Owner.TheVariants as owners
use Rattle.node_references.specs.declared.reference.Root.{Root}
use Rattle.node_references.specs.declared.reference.Root.TheVariants as roots
use Rattle.node_references.specs.declared.shape.Shape.{Shape}
use Rattle.node_references.specs.declared.shape.Shape.TheVariants as shapes
use Rattle.node_references.specs.Reference.{Reference}
use Rattle.node_references.specs.References.{bare, of_owner, of_attribute, by_shape, shape_at, within, reference_of}

some_same : {A : Type 0} {x y : A} → Some x ≡ Some y → x ≡ y
some_same e = cc e

-- what a name stands for has no names behind it
is_bare : (o : Option Owner) (r : Reference) → of_owner o ≡ Some r → r ≡ bare r.root
is_bare (Some (owners.Local s)) r h = subst (λ (y : Reference). y ≡ bare y.root) (some_same h) refl
is_bare (Some (owners.Outer s)) r h = subst (λ (y : Reference). y ≡ bare y.root) (some_same h) refl
is_bare (Some (owners.Builtin name)) r h = absurd (cc h)
is_bare (Some owners.Undefined) r h = absurd (cc h)
is_bare None r h = absurd (cc h)

-- an attribute begins with what stands before its name
begins : (o : Option Reference) (name : Option NameId) (r : Reference) → of_attribute o name ≡ Some r → (q : Reference) × (o ≡ Some q) × (q.root ≡ r.root)
begins None name r h = absurd (cc h)
begins (Some q) None r h = absurd (cc h)
begins (Some q) (Some name) r h = (q, refl, ap (λ (y : Reference). y.root) (some_same h))

not_both : (n : NodeId) (x : SymId) → ◌≡◌ {A = Root} (roots.Subject n) (roots.Symbol x) → ⊥
not_both n x h = cc h

owned_within : (left : ℕ) (a : Arena) (os : List Owner) (n : NodeId) (r : Reference) (x : SymId) → within left a os n ≡ Some r → r.root ≡ roots.Symbol x
    → (m : NodeId) × (of_owner (slice_get os m.0) ≡ Some (bare (roots.Symbol x)))
owned_within zero a os n r x h e = absurd (cc h)
owned_within (suc left) a os n r x h e = go (λ p q is same. owned_within left a os p q x is same) (shape_at a n) h
  where
    go : ((p : NodeId) (q : Reference) → within left a os p ≡ Some q → q.root ≡ roots.Symbol x → (m : NodeId) × (of_owner (slice_get os m.0) ≡ Some (bare (roots.Symbol x))))
        → (s : Shape) → by_shape (within left a os) a os n s ≡ Some r
        → (m : NodeId) × (of_owner (slice_get os m.0) ≡ Some (bare (roots.Symbol x)))
    go older shapes.Name w = (n, w ∙ ap Some (is_bare (slice_get os n.0) r w) ∙ ap (λ (y : Root). Some (bare y)) e)
    go older (shapes.Attribute p) w = let (q, is, same) = begins (within left a os p) _ r w in older p q is (same ∙ e)
    go older (shapes.Group p) w = older p r w e
    go older shapes.Match w = absurd (not_both n x (ap (λ (y : Reference). y.root) (some_same w) ∙ e))
    go older shapes.Other w = absurd (cc w)

pub owned : (a : Arena) (os : List Owner) (n : NodeId) (r : Reference) (x : SymId) → reference_of a os n ≡ Some r → r.root ≡ roots.Symbol x
    → (m : NodeId) × (of_owner (slice_get os m.0) ≡ Some (bare (roots.Symbol x)))
unfolding reference_of
owned a os n r x h e = owned_within (suc n.0) a os n r x h e
