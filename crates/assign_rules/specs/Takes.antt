-- Whether a function or a class can take so many plain arguments (Python language reference 6.3.4, "Calls"; data model, `object.__init__`).
use Rattle.std.specs.Prelude.{ℕ, ◌==◌, ◌||◌, ◌&&◌, if◌then◌else◌, nat_lt, Bool, true, false, not, List, [], ◌∷◌, length, drop, filter, Option, Some, None}
use Rattle.std.specs.List.{list_any, list_all, flat_map}
use Rattle.py_base.specs.Builtins.{id_of}
use Rattle.py_base.specs.declared.builtin.Builtin.TheVariants as builtin
use Rattle.py_base.specs.declared.ids.ClassId.{ClassId}
use Rattle.py_base.specs.declared.ids.FuncId.{FuncId}
use Rattle.py_base.specs.declared.ids.NameId.{NameId}
use Rattle.py_base.specs.declared.ids.SymId.{SymId}
use Rattle.py_base.specs.declared.key.Key.TheVariants.{Sym}
use Rattle.class_rows.specs.Rows.{ClassRow, order_of, own_member_of, row_at}
use Rattle.type_terms.specs.declared.atom.Atom.{Atom, out-Atom}
use Rattle.type_terms.specs.declared.atom.Atom.TheVariants as atom
use Rattle.type_terms.specs.declared.atom.Atom.TheOpen.{Atom-F}
use Rattle.type_terms.specs.declared.facts.FuncKind.{FuncKind}
use Rattle.type_terms.specs.declared.facts.FuncKind.TheVariants as kind
use Rattle.type_terms.specs.declared.facts.Param.{Param}
use Rattle.type_terms.specs.declared.facts.ParamKind.{ParamKind}
use Rattle.type_terms.specs.declared.facts.ParamKind.TheVariants as way
use Rattle.type_terms.specs.Facts.{FactTable}
use Rattle.assign_rules.specs.declared.takes.Init.{Init}
use Rattle.assign_rules.specs.declared.takes.Init.TheVariants.{Own, Anything, Nothing}
use Rattle.assign_rules.specs.Members.{Table, is_class, is_builtin, call_result}

-- `__init__`, by its place among the names of the language
abbrev pub init_name : NameId
init_name = record { 0 = 135 }

abbrev pub is_by_place : ParamKind → Bool
is_by_place way.PlaceOnly = true
is_by_place way.Plain = true
is_by_place _ = false

abbrev pub is_star : ParamKind → Bool
is_star way.Star = true
is_star _ = false

abbrev pub is_key_only : ParamKind → Bool
is_key_only way.KeyOnly = true
is_key_only _ = false

-- plain arguments fill the parameters that are taken by place, in order, and then `*`; each parameter without a default is filled
abbrev pub takes_plain : List Param → ℕ → Bool
takes_plain params count =
    let placed = filter (λ p. is_by_place p.kind) params in
    list_all (λ p. p.default || not (is_key_only p.kind)) params
    && (not (nat_lt (length placed) count) || list_any (λ p. is_star p.kind) params)
    && list_all (λ p. p.default) (drop count placed)

-- the parameters of a method whose first one is taken
abbrev pub without_first : List Param → List Param
without_first [] = []
without_first (p ∷ ps) = if is_by_place p.kind then ps else p ∷ ps

abbrev pub func_takes : FactTable → FuncId → ℕ → Bool
func_takes facts func count = takes_plain ((facts.func func).params) count

abbrev pub bound_takes : FactTable → FuncId → ℕ → Bool
bound_takes facts func count = takes_plain (without_first ((facts.func func).params)) count

-- a def of a class as its instance has it
abbrev pub bound_func : Table → FuncId → FuncKind → List Atom
bound_func t func kind.Property = call_result t func
bound_func t func kind.Method = atom.Bound func ∷ []
bound_func t func kind.Class = atom.Bound func ∷ []
bound_func t func _ = atom.Func func ∷ []

abbrev pub level_bound : Table → Atom → Atom-F Atom → List Atom
level_bound t a (Atom-F.Func func) = bound_func t func ((t.facts.func func).kind)
level_bound t a _ = a ∷ []

unfoldable pub bound : Table → Atom → List Atom
bound t a = level_bound t a (out-Atom a)

abbrev pub level_takes : FactTable → ℕ → Atom-F Atom → Bool
level_takes facts count (Atom-F.Func func) = func_takes facts func count
level_takes facts count (Atom-F.Bound func) = bound_takes facts func count
level_takes facts count _ = true

-- a def takes what its parameters say, and anything else so many as there are
unfoldable pub takes : FactTable → ℕ → Atom → Bool
takes facts count a = level_takes facts count (out-Atom a)

-- a class of the order that takes anything: one with an Unknown base, and a builtin one other than `object`
abbrev pub takes_anything : List ClassRow → ClassId → Bool
takes_anything classes class = (row_at classes class).unknown_base || (is_builtin class && not (is_class class (id_of builtin.Object)))

-- what decides at a class, where no class before it did
abbrev pub by_own : Option SymId → Bool → Init
by_own (Some symbol) any = Own symbol
by_own None true = Anything
by_own None false = Nothing

abbrev pub init_at : List ClassRow → ClassId → Init
init_at classes class = by_own (own_member_of classes class init_name) (takes_anything classes class)

abbrev pub or_behind : Init → Init → Init
or_behind (Own symbol) behind = Own symbol
or_behind Anything behind = Anything
or_behind Nothing behind = behind

-- the first class of an order that has `__init__` or takes anything decides
abbrev pub init_in : List ClassRow → List ClassId → Init
init_in classes [] = Nothing
init_in classes (class ∷ order) = or_behind (init_at classes class) (init_in classes order)

-- where none does, `object`'s takes nothing
abbrev pub init_takes : Table → ℕ → Init → Bool
init_takes t count (Own symbol) = list_all (takes t.facts count) (flat_map (bound t) (t.types (Sym symbol)))
init_takes t count Anything = true
init_takes t count Nothing = count == 0

abbrev pub class_takes : Table → ClassId → ℕ → Bool
class_takes t class count = init_takes t count (init_in t.classes (order_of t.classes class))
