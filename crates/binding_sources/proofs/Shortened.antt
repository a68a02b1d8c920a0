-- Of the names behind the first, as many as are asked.
use Rattle.std.proofs.Common.{◌≡◌, List, [], ◌∷◌, refl, ap, ◌∙◌}
use Rattle.std.specs.Prelude.{Option, Some, None, slice_get}
use Rattle.std.specs.Option.{option_map}
use Rattle.py_base.specs.declared.ids.NodeId.{NodeId}
use Rattle.py_base.specs.declared.ids.NameId.{NameId}
use Rattle.py_base.specs.Tree.{Arena}
use Rattle.py_scopes.specs.Table.{ScopeTable}
use Rattle.node_shapes.specs.Chains.{Chain}
use Rattle.binding_sources.specs.declared.meanings.Brought.{Brought}
use Rattle.binding_sources.specs.declared.meanings.Brought.TheVariants as brought
use Rattle.binding_sources.specs.declared.meanings.Meaning.{Meaning}
use Rattle.binding_sources.specs.declared.meanings.Meaning.TheVariants as meanings
use Rattle.binding_sources.specs.declared.verdicts.Decorator.{Decorator}
use Rattle.binding_sources.specs.Meanings.{Named, named_with, named_by, meaning_of_owner, behind, short_chain, short_meaning, brought_of, imported_by, imported_as}
use Rattle.binding_sources.specs.Verdicts.{by_meaning, by_named, setter_by, decorator_by}
use Rattle.binding_sources.specs.Joining.{with_behind, short_named, imported_behind, imported_short, decorator_behind, decorator_short, setter_behind, setter_short}

with-names : (names : List NameId) (m : Option Meaning) → option_map short_meaning (option_map (named_with names) m) ≡ option_map (with_behind (behind names)) m
with-names names None = refl
with-names names (Some m) = refl

pub named-short : (t : ScopeTable) (o : Option Chain) → option_map short_meaning (named_by t o) ≡ short_named t (option_map short_chain o)
named-short t None = refl
named-short t (Some c) = with-names c.names (meaning_of_owner t (slice_get t.owners c.first.0))

by-names : (b : Option Brought) (names : List NameId) → imported_by b names ≡ imported_behind b (behind names)
by-names None [] = refl
by-names None (x ∷ []) = refl
by-names None (x ∷ y ∷ names) = refl
by-names (Some (brought.Module m)) [] = refl
by-names (Some (brought.Module m)) (x ∷ []) = refl
by-names (Some (brought.Module m)) (x ∷ y ∷ names) = refl
by-names (Some (brought.Member m name)) [] = refl
by-names (Some (brought.Member m name)) (x ∷ []) = refl
by-names (Some (brought.Member m name)) (x ∷ y ∷ names) = refl
by-names (Some brought.Unknown) [] = refl
by-names (Some brought.Unknown) (x ∷ []) = refl
by-names (Some brought.Unknown) (x ∷ y ∷ names) = refl

pub imported-short : (a : Arena) (o : Option Named) → imported_as a o ≡ imported_short a (option_map short_meaning o)
imported-short a None = refl
imported-short a (Some x) = by-names (brought_of a x.meaning) x.names

by-behind : (a : Arena) (m : Meaning) (names : List NameId) (imported : Option (NodeId × NameId)) → by_meaning a m names imported ≡ decorator_behind a m (behind names) imported
by-behind a (meanings.Builtin name) [] imported = refl
by-behind a (meanings.Builtin name) (x ∷ []) imported = refl
by-behind a (meanings.Builtin name) (x ∷ y ∷ names) imported = refl
by-behind a (meanings.Bound b) [] imported = refl
by-behind a (meanings.Bound b) (x ∷ []) imported = refl
by-behind a (meanings.Bound b) (x ∷ y ∷ names) imported = refl

pub decorator-short : (a : Arena) (o : Option Named) → by_named a o ≡ decorator_short a (option_map short_meaning o)
decorator-short a None = refl
decorator-short a (Some x) =
    by-behind a x.meaning x.names (imported_as a (Some x)) ∙ ap (decorator_behind a x.meaning (behind x.names)) (imported-short a (Some x))

by-setter : (a : Arena) (t : ScopeTable) (p : NodeId) (names : List NameId) (other : Decorator) → setter_by a t p names other ≡ setter_behind a t p (behind names) other
by-setter a t p [] other = refl
by-setter a t p (x ∷ []) other = refl
by-setter a t p (x ∷ y ∷ names) other = refl

pub setter-short : (a : Arena) (t : ScopeTable) (o : Option Chain) (other : Decorator) → decorator_by a t o other ≡ setter_short a t (option_map short_chain o) other
setter-short a t None other = refl
setter-short a t (Some c) other = by-setter a t c.first c.names other
