-- Helper definitions for private functions: what nodes within and the node around them make of a source, what a link of a chain says of the names
-- behind its first, and what decorators above make of what those below say. No public clause cites this file, and no standard speaks of it.
use Rattle.std.specs.Prelude.{Bool, ◌&&◌, Option, None, Some, slice_get, codes}
use Rattle.std.specs.Option.{option_map}
use Rattle.py_base.specs.declared.ids.NodeId.{NodeId}
use Rattle.py_base.specs.declared.ids.NameId.{NameId}
use Rattle.py_base.specs.Tree.{Arena}
use Rattle.node_shapes.specs.declared.expressions.Expression.{Expression}
use Rattle.node_shapes.specs.declared.expressions.Expression.TheVariants as form
use Rattle.py_scopes.specs.Table.{ScopeTable}
use Rattle.binding_sources.specs.declared.chains.NamesBehind.{NamesBehind}
use Rattle.binding_sources.specs.declared.chains.NamesBehind.TheVariants as behinds
use Rattle.binding_sources.specs.declared.chains.Link.{Link}
use Rattle.binding_sources.specs.declared.chains.Link.TheVariants as links
use Rattle.binding_sources.specs.declared.chains.ShortChain.{ShortChain}
use Rattle.binding_sources.specs.declared.meanings.Brought.{Brought}
use Rattle.binding_sources.specs.declared.meanings.Brought.TheVariants as brought
use Rattle.binding_sources.specs.declared.meanings.Meaning.{Meaning}
use Rattle.binding_sources.specs.declared.meanings.Meaning.TheVariants as meanings
use Rattle.binding_sources.specs.declared.meanings.ShortMeaning.{ShortMeaning}
use Rattle.binding_sources.specs.declared.sources.Handing.{Handing}
use Rattle.binding_sources.specs.declared.sources.Handing.TheVariants as handings
use Rattle.binding_sources.specs.declared.verdicts.Decoration.{Decoration}
use Rattle.binding_sources.specs.declared.verdicts.Decorator.{Decorator}
use Rattle.binding_sources.specs.declared.verdicts.Decorator.TheVariants as decorators
use Rattle.binding_sources.specs.declared.verdicts.Verdict.{Verdict}
use Rattle.binding_sources.specs.declared.verdicts.Verdict.TheVariants as verdicts
use Rattle.binding_sources.specs.Meanings.{meaning_of_owner, meaning_of, brought_of}
use Rattle.binding_sources.specs.Verdicts.{of_builtin, of_imported, kind_or, is_property, by_named, is_named, owns_property, setter_or}

abbrev pub joined : Handing → Handing → Handing
joined handings.Whole around = around
joined (handings.Part p) handings.Unknown = handings.Unknown
joined (handings.Part p) around = handings.Part p
joined handings.Unknown around = handings.Unknown

-- the names behind, with one before them
abbrev pub with_name : Option NameId → NamesBehind → NamesBehind
with_name None further = further
with_name (Some name) behinds.Nothing = behinds.Name name
with_name (Some name) further = behinds.Several

abbrev pub link_by : Expression → Link
link_by (form.Name m) = links.First
link_by (form.Attribute e name) = links.Further e (Some name)
link_by (form.Group e) = links.Further e None
link_by _ = links.NoLink

abbrev pub with_behind : NamesBehind → Meaning → ShortMeaning
with_behind behind meaning = record { meaning = meaning; behind = behind }

abbrev pub short_named : ScopeTable → Option ShortChain → Option ShortMeaning
short_named t None = None
short_named t (Some c) = option_map (with_behind c.behind) (meaning_of_owner t (slice_get t.owners c.first.0))

abbrev pub imported_behind : Option Brought → NamesBehind → Option (NodeId × NameId)
imported_behind (Some (brought.Member m name)) behinds.Nothing = Some (m, name)
imported_behind (Some (brought.Module m)) (behinds.Name name) = Some (m, name)
imported_behind _ _ = None

abbrev pub imported_short : Arena → Option ShortMeaning → Option (NodeId × NameId)
imported_short a None = None
imported_short a (Some x) = imported_behind (brought_of a x.meaning) x.behind

abbrev pub decorator_behind : Arena → Meaning → NamesBehind → Option (NodeId × NameId) → Decorator
decorator_behind a (meanings.Builtin name) behinds.Nothing imported = of_builtin a name
decorator_behind a meaning behind imported = of_imported a imported

abbrev pub decorator_short : Arena → Option ShortMeaning → Decorator
decorator_short a None = decorators.Unknown
decorator_short a (Some x) = decorator_behind a x.meaning x.behind (imported_short a (Some x))

-- what decorators above say, and those below
abbrev pub with_verdict : Verdict → Verdict → Verdict
with_verdict verdicts.Itself below = below
with_verdict (verdicts.Setter p) verdicts.Unknown = verdicts.Unknown
with_verdict (verdicts.Setter p) below = verdicts.Setter p
with_verdict verdicts.Unknown below = verdicts.Unknown

-- the decorators among parts
abbrev pub has_property_decorator : Arena → ScopeTable → NodeId → Bool
has_property_decorator a t e = is_property (by_named a (meaning_of a t e))

abbrev pub setter_behind : Arena → ScopeTable → NodeId → NamesBehind → Decorator → Decorator
setter_behind a t p (behinds.Name name) other = setter_or (is_named a name (codes "setter") && owns_property a t (slice_get t.owners p.0)) p other
setter_behind a t p behind other = other

abbrev pub setter_short : Arena → ScopeTable → Option ShortChain → Decorator → Decorator
setter_short a t None other = other
setter_short a t (Some c) other = setter_behind a t c.first c.behind other

-- one more decorator below
abbrev pub decorated_by : Decorator → Verdict
decorated_by decorators.Unknown = verdicts.Unknown
decorated_by (decorators.Setter p) = verdicts.Setter p
decorated_by _ = verdicts.Itself

abbrev pub with_below : Decoration → Decorator → Decoration
with_below above d = record { verdict = with_verdict above.verdict (decorated_by d); kind = kind_or d above.kind }
