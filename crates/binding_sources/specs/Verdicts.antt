-- What decorators leave of the name of a def or a class (Python 3.12 language reference, 8.7 and 8.8; library reference, "Built-in Functions"
-- for `staticmethod`, `classmethod`, `property` and `p.setter`, "abc" and "typing" for the others).
use Rattle.std.specs.Prelude.{ℕ, Bool, true, false, ◌&&◌, ◌||◌, List, [], ◌∷◌, map, Option, None, Some, slice_get, bytes_eq, codes, if◌then◌else◌}
use Rattle.std.specs.List.{list_any}
use Rattle.std.specs.Option.{option_map}
use Rattle.py_base.specs.declared.ids.NodeId.{NodeId}
use Rattle.py_base.specs.declared.ids.NameId.{NameId}
use Rattle.py_base.specs.Tree.{Arena, name_at}
use Rattle.py_base.specs.declared.node.NodeKind.{NodeKind}
use Rattle.py_base.specs.declared.node.NodeKind.TheVariants as kinds
use Rattle.py_base.specs.Nodes.{kind_at, name_of}
use Rattle.py_scopes.specs.declared.owner.Owner.{Owner}
use Rattle.py_scopes.specs.declared.owner.Owner.TheVariants as owners
use Rattle.py_scopes.specs.Table.{ScopeTable}
use Rattle.node_shapes.specs.Chains.{Chain, chain}
use Rattle.node_shapes.specs.Definitions.{decorators_of}
use Rattle.binding_sources.specs.declared.sources.Source.{Source}
use Rattle.binding_sources.specs.declared.sources.Source.TheVariants as source
use Rattle.binding_sources.specs.declared.meanings.Meaning.{Meaning}
use Rattle.binding_sources.specs.declared.meanings.Meaning.TheVariants as meanings
use Rattle.binding_sources.specs.declared.verdicts.Decoration.{Decoration}
use Rattle.binding_sources.specs.declared.verdicts.Decorator.{Decorator}
use Rattle.binding_sources.specs.declared.verdicts.Decorator.TheVariants as decorators
use Rattle.binding_sources.specs.declared.verdicts.DefKind.{DefKind}
use Rattle.binding_sources.specs.declared.verdicts.DefKind.TheVariants as defs
use Rattle.binding_sources.specs.declared.verdicts.Verdict.{Verdict}
use Rattle.binding_sources.specs.declared.verdicts.Verdict.TheVariants as verdicts
use Rattle.binding_sources.specs.Sources.{source_of}
use Rattle.binding_sources.specs.Meanings.{Named, meaning_of, imported_as}

abbrev pub is_named : Arena → NameId → List ℕ → Bool
is_named a name text = bytes_eq (name_at a.names name.0) text

abbrev pub of_builtin : Arena → NameId → Decorator
of_builtin a name =
    if is_named a name (codes "staticmethod") then decorators.StaticMethod
    else (if is_named a name (codes "classmethod") then decorators.ClassMethod
    else (if is_named a name (codes "property") then decorators.Property else decorators.Unknown))

-- a module of one word, without dots
abbrev pub is_word : Arena → NodeKind → Option NameId → List ℕ → Bool
is_word a kinds.Name (Some name) text = is_named a name text
is_word a kind name text = false

abbrev pub is_module : Arena → NodeId → List ℕ → Bool
is_module a m text = is_word a (kind_at a.nodes m) (name_of a.nodes m) text

abbrev pub is_kept : Arena → NodeId → NameId → Bool
is_kept a m name =
    (is_module a m (codes "abc") && is_named a name (codes "abstractmethod"))
    || ((is_module a m (codes "typing") || is_module a m (codes "typing_extensions"))
    && (is_named a name (codes "override") || is_named a name (codes "final")))

abbrev pub of_imported : Arena → Option (NodeId × NameId) → Decorator
of_imported a None = decorators.Unknown
of_imported a (Some x) = if is_kept a x.0 x.1 then decorators.Kept else decorators.Unknown

abbrev pub by_meaning : Arena → Meaning → List NameId → Option (NodeId × NameId) → Decorator
by_meaning a (meanings.Builtin name) [] imported = of_builtin a name
by_meaning a meaning names imported = of_imported a imported

abbrev pub by_named : Arena → Option Named → Decorator
by_named a None = decorators.Unknown
by_named a (Some x) = by_meaning a x.meaning x.names (imported_as a (Some x))

abbrev pub is_property : Decorator → Bool
is_property decorators.Property = true
is_property _ = false

-- a node is bound to a def under `property`
abbrev pub binds_property : Arena → ScopeTable → Option Source → Bool
binds_property a t (Some (source.Def statement)) =
    list_any (λ e. is_property (by_named a (meaning_of a t e))) (decorators_of a.nodes statement)
binds_property a t _ = false

abbrev pub has_property : Arena → ScopeTable → Option (List NodeId) → Bool
has_property a t None = false
has_property a t (Some bound) = list_any (λ b. binds_property a t (source_of a b)) bound

abbrev pub owns_property : Arena → ScopeTable → Option Owner → Bool
owns_property a t (Some (owners.Local s)) = has_property a t (slice_get t.bound s.0)
owns_property a t (Some (owners.Outer s)) = has_property a t (slice_get t.bound s.0)
owns_property a t _ = false

-- A PROPERTY is a name of whose bindings one is a def under `property`. `p.setter` of one leaves the name what it was; brackets around `p` are
-- seen through.
abbrev pub setter_or : Bool → NodeId → Decorator → Decorator
setter_or true p other = decorators.Setter p
setter_or false p other = other

abbrev pub setter_by : Arena → ScopeTable → NodeId → List NameId → Decorator → Decorator
setter_by a t p (name ∷ []) other = setter_or (is_named a name (codes "setter") && owns_property a t (slice_get t.owners p.0)) p other
setter_by a t p names other = other

abbrev pub decorator_by : Arena → ScopeTable → Option Chain → Decorator → Decorator
decorator_by a t None other = other
decorator_by a t (Some c) other = setter_by a t c.first c.names other

-- WHAT A DECORATOR IS, by its expression
abbrev pub decorator_of : Arena → ScopeTable → NodeId → Decorator
decorator_of a t n = decorator_by a t (chain a.nodes n) (by_named a (meaning_of a t n))

-- an unknown one decides; else the first setter; else the name is the def or the class
abbrev pub with_decorator : Decorator → Verdict → Verdict
with_decorator decorators.Unknown rest = verdicts.Unknown
with_decorator (decorators.Setter p) verdicts.Unknown = verdicts.Unknown
with_decorator (decorators.Setter p) rest = verdicts.Setter p
with_decorator _ rest = rest

abbrev pub verdict : List Decorator → Verdict
verdict [] = verdicts.Itself
verdict (d ∷ more) = with_decorator d (verdict more)

-- the kind of a def goes by the one of `staticmethod`, `classmethod` and `property` that stands nearest to it, whatever the others are
abbrev pub kind_or : Decorator → DefKind → DefKind
kind_or decorators.StaticMethod other = defs.StaticMethod
kind_or decorators.ClassMethod other = defs.ClassMethod
kind_or decorators.Property other = defs.Property
kind_or _ other = other

abbrev pub def_kind : DefKind → List Decorator → DefKind
def_kind nearest [] = nearest
def_kind nearest (d ∷ more) = def_kind (kind_or d nearest) more

-- THE VERDICT ON THE DECORATORS of a def or a class: what its name is bound to, and the kind of the def
abbrev pub decoration : List Decorator → Decoration
decoration ds = record { verdict = verdict ds; kind = def_kind defs.Plain ds }

abbrev pub decoration_of : Arena → ScopeTable → NodeId → Decoration
decoration_of a t statement = decoration (map (decorator_of a t) (decorators_of a.nodes statement))

-- as decorators leave it
abbrev pub under : Verdict → Source → Source
under verdicts.Itself given = given
under (verdicts.Setter p) given = source.Value p
under verdicts.Unknown given = source.Unknown

abbrev pub decorated : Arena → ScopeTable → Source → Source
decorated a t (source.Def statement) = under (decoration_of a t statement).verdict (source.Def statement)
decorated a t (source.Class statement) = under (decoration_of a t statement).verdict (source.Class statement)
decorated a t given = given

-- THE SOURCE OF A BOUND NODE under the verdict on decorators: a def or a class under an unknown one is Unknown, and the name under `p.setter`
-- has the value of `p`
abbrev pub binding_source : Arena → ScopeTable → NodeId → Option Source
binding_source a t n = option_map (decorated a t) (source_of a n)
