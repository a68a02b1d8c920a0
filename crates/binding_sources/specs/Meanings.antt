-- What a name or a chain stands for, where its symbol has one binding alone (Python 3.12 language reference, 4.2.2 for names, 7.11 for imports,
-- 6.3.1 for attributes; typing specification, "Import conventions": a name that is bound once can stand for what it is bound to).
use Rattle.std.specs.Prelude.{Bool, true, false, List, [], ◌∷◌, Option, None, Some, slice_get, if◌then◌else◌}
use Rattle.std.specs.List.{list_all}
use Rattle.std.specs.Option.{option_map}
use Rattle.py_base.specs.declared.ids.NodeId.{NodeId}
use Rattle.py_base.specs.declared.ids.NameId.{NameId}
use Rattle.py_base.specs.declared.ids.SymId.{SymId}
use Rattle.py_base.specs.Tree.{Arena}
use Rattle.py_base.specs.declared.node.NodeKind.{NodeKind}
use Rattle.py_base.specs.declared.node.NodeKind.TheVariants as kinds
use Rattle.py_base.specs.Nodes.{kind_at, name_of}
use Rattle.py_scopes.specs.declared.owner.Owner.{Owner}
use Rattle.py_scopes.specs.declared.owner.Owner.TheVariants as owners
use Rattle.py_scopes.specs.Table.{ScopeTable}
use Rattle.node_shapes.specs.declared.imports.ImportItem.{ImportItem}
use Rattle.node_shapes.specs.declared.outward.Step.{Step}
use Rattle.node_shapes.specs.Imports.{import_item}
use Rattle.node_shapes.specs.Chains.{Chain, chain}
use Rattle.node_shapes.specs.Outward.{step_of}
use Rattle.node_shapes.specs.Parts.{first_of}
use Rattle.binding_sources.specs.declared.sources.Source.{Source}
use Rattle.binding_sources.specs.declared.sources.Source.TheVariants as source
use Rattle.binding_sources.specs.declared.meanings.Brought.{Brought}
use Rattle.binding_sources.specs.declared.meanings.Brought.TheVariants as brought
use Rattle.binding_sources.specs.declared.meanings.Meaning.{Meaning}
use Rattle.binding_sources.specs.declared.meanings.Meaning.TheVariants as meanings
use Rattle.binding_sources.specs.declared.meanings.ShortMeaning.{ShortMeaning}
use Rattle.binding_sources.specs.declared.chains.NamesBehind.{NamesBehind}
use Rattle.binding_sources.specs.declared.chains.NamesBehind.TheVariants as behinds
use Rattle.binding_sources.specs.declared.chains.ShortChain.{ShortChain}
use Rattle.binding_sources.specs.Sources.{source_of}

-- a tree with its table of scopes
pub record Scoped : Type 0 where
  pub arena : Arena
  pub table : ScopeTable

-- `import m` brings the module; `import a.b` without `as` binds `a`, of which nothing is known
abbrev pub module_by : NodeKind → ImportItem → Brought
module_by kinds.DottedName item = if item.renamed then brought.Module item.imported else brought.Unknown
module_by kind item = brought.Module item.imported

-- `from m import n` brings the name of the module; of a relative import nothing is known
abbrev pub member_by : Option NameId → NodeId → NodeKind → Brought
member_by None origin kind = brought.Unknown
member_by (Some name) origin kinds.RelativeSource = brought.Unknown
member_by (Some name) origin kind = brought.Member origin name

abbrev pub member_from : Arena → Option NameId → Option NodeId → Brought
member_from a name None = brought.Unknown
member_from a name (Some origin) = member_by name origin (kind_at a.nodes origin)

abbrev pub brought_at : Arena → ImportItem → NodeKind → NodeId → Option Brought
brought_at a item kinds.Import around = Some (module_by (kind_at a.nodes item.imported) item)
brought_at a item kinds.ImportFrom around = Some (member_from a (name_of a.nodes item.imported) (first_of a.nodes around))
brought_at a item kind around = None

abbrev pub brought_in : Arena → Option ImportItem → Option Step → Option Brought
brought_in a None step = None
brought_in a (Some item) None = None
brought_in a (Some item) (Some s) = brought_at a item s.kind s.around

-- WHAT AN ITEM OF AN IMPORT BRINGS; none of another node
abbrev pub brought_by : Arena → NodeId → Option Brought
brought_by a item = brought_in a (import_item a.nodes item) (step_of a.nodes item)

-- THE ONLY BINDING OF A SYMBOL, where it has just one. Its source says what it is: a class, a def, an import, a value.
abbrev pub single : Option (List NodeId) → Option NodeId
single (Some (b ∷ [])) = Some b
single _ = None

abbrev pub only_binding : ScopeTable → SymId → Option NodeId
only_binding t s = single (slice_get t.bound s.0)

-- WHAT THE OWNER OF A NAME STANDS FOR: what is bound at its symbol's only binding, or the builtin that nobody binds
abbrev pub meaning_of_owner : ScopeTable → Option Owner → Option Meaning
meaning_of_owner t (Some (owners.Local s)) = option_map meanings.Bound (only_binding t s)
meaning_of_owner t (Some (owners.Outer s)) = option_map meanings.Bound (only_binding t s)
meaning_of_owner t (Some (owners.Builtin name)) = Some (meanings.Builtin name)
meaning_of_owner t _ = None

-- what a name or a chain begins with, and the names behind that
pub record Named : Type 0 where
  pub meaning : Meaning
  pub names : List NameId

abbrev pub named_with : List NameId → Meaning → Named
named_with names meaning = record { meaning = meaning; names = names }

abbrev pub named_by : ScopeTable → Option Chain → Option Named
named_by t None = None
named_by t (Some c) = option_map (named_with c.names) (meaning_of_owner t (slice_get t.owners c.first.0))

-- WHAT A NAME OR A CHAIN STANDS FOR: what its first name does, and the names behind it, which are members of that: of a class, of a module, of
-- what is imported. Nothing where the first name has no only binding and is no builtin.
unfoldable pub meaning_of : Arena → ScopeTable → NodeId → Option Named
meaning_of a t n = named_by t (chain a.nodes n)

-- the names behind the first of a chain as far as one, which is all that decorators and imports ask
abbrev pub behind : List NameId → NamesBehind
behind [] = behinds.Nothing
behind (name ∷ []) = behinds.Name name
behind (name ∷ other ∷ more) = behinds.Several

abbrev pub short_chain : Chain → ShortChain
short_chain c = record { first = c.first; behind = behind c.names }

abbrev pub short_meaning : Named → ShortMeaning
short_meaning x = record { meaning = x.meaning; behind = behind x.names }

-- what the import brings that is bound
abbrev pub brought_of_source : Arena → Option Source → Option Brought
brought_of_source a (Some (source.Imported item)) = brought_by a item
brought_of_source a _ = None

abbrev pub brought_of : Arena → Meaning → Option Brought
brought_of a (meanings.Bound b) = brought_of_source a (source_of a b)
brought_of a (meanings.Builtin name) = None

abbrev pub imported_by : Option Brought → List NameId → Option (NodeId × NameId)
imported_by (Some (brought.Member m name)) [] = Some (m, name)
imported_by (Some (brought.Module m)) (name ∷ []) = Some (m, name)
imported_by _ _ = None

abbrev pub imported_as : Arena → Option Named → Option (NodeId × NameId)
imported_as a None = None
imported_as a (Some x) = imported_by (brought_of a x.meaning) x.names

-- THE NAME OF A MODULE that a name or a chain stands for, with the node that spells the module: `n` of `from m import n`, `m.n` of `import m`
abbrev pub imported_name : Arena → ScopeTable → NodeId → Option (NodeId × NameId)
imported_name a t n = imported_as a (meaning_of a t n)

-- A NAME OF AN UNKNOWN IMPORT: it has bindings, and each is an import of which nothing is known. Which modules and which names of theirs are
-- known is told by `is_known`, a premise of those who have the rows of modules; of `import a.b` and of a relative import nothing is.
abbrev pub is_unknown_brought : (Brought → Bool) → Option Brought → Bool
is_unknown_brought is_known None = false
is_unknown_brought is_known (Some brought.Unknown) = true
is_unknown_brought is_known (Some b) = if is_known b then false else true

abbrev pub are_unknown : (Brought → Bool) → Arena → Option (List NodeId) → Bool
are_unknown is_known a None = false
are_unknown is_known a (Some []) = false
are_unknown is_known a (Some (b ∷ more)) =
    list_all (λ x. is_unknown_brought is_known (brought_of_source a (source_of a x))) (b ∷ more)

abbrev pub is_unknown_import : (Brought → Bool) → Arena → ScopeTable → SymId → Bool
is_unknown_import is_known a t s = are_unknown is_known a (slice_get t.bound s.0)
