-- What a call of a member gives (Python language reference, 6.3.4, calls). Whether the arguments fit is for the checks.
use Rattle.std.specs.Prelude.{Bool, List, None, Option, Some, false, if◌then◌else◌, ℕ, ◌==◌, ◌||◌}
use Rattle.py_base.specs.declared.ids.ClassId.{ClassId}
use Rattle.py_base.specs.declared.ids.FuncId.{FuncId}
use Rattle.py_base.specs.declared.ids.NameId.{NameId}
use Rattle.py_base.specs.declared.ids.SiteId.{SiteId}
use Rattle.type_terms.specs.Order.{literal_class}
use Rattle.type_terms.specs.declared.atom.Atom.{Atom, out-Atom}
use Rattle.type_terms.specs.declared.atom.Atom.TheOpen.{Atom-F}
use Rattle.type_terms.specs.declared.atom.Slots.{Slots}
use Rattle.value_terms.specs.Term.{fixed, never}
use Rattle.op_rules.specs.Bindings.{call_of}
use Rattle.op_rules.specs.Classes.{is_class, is_under}
use Rattle.op_rules.specs.Instances.{instances}
use Rattle.op_rules.specs.Iterations.{iteration}
use Rattle.op_rules.specs.Names.{abstractmethod-name, assert_never-name, call-name, cast-name, final-name, override-name, reveal_type-name}
use Rattle.op_rules.specs.Protocols.{by_method}
use Rattle.op_rules.specs.Results.{CallSite, argument, row_gives}
use Rattle.op_rules.specs.World.{Rule, Value, World, or_fault, unknown, when}
use Rattle.py_base.specs.declared.builtin.Builtin.TheVariants as builtin
use Rattle.type_terms.specs.declared.atom.Slots.TheVariants as slots

unfoldable pub row_call : World → ℕ → Atom → CallSite → Value
row_call w row receiver call = row_gives (iteration w) w (w.builtins.row row).result receiver call

-- a class: its instance, a builtin class by its row
abbrev pub class_call_by : World → Atom → ClassId → CallSite → Option ℕ → Value
class_call_by w a class call (Some row) = row_call w row a call
class_call_by w a class call None = fixed (instances w class)

unfoldable pub class_call : World → Atom → ClassId → CallSite → Value
class_call w a class call = class_call_by w a class call (w.builtins.class_call class)

-- Callable: its result
abbrev pub slots_result : Slots (List Atom) → Option Value
slots_result (slots.AnyArguments type) = Some (fixed type)
slots_result (slots.Arguments types type) = Some (fixed type)
slots_result _ = None

-- a lambda: what it returns
abbrev pub lambda_result : World → Option FuncId → Value
lambda_result w (Some func) = call_of w func
lambda_result w None = unknown

-- the names of typing that give their first argument when they are called
abbrev pub gives_argument : NameId → Bool
gives_argument name =
    name.0 == cast-name.0 || name.0 == reveal_type-name.0 || name.0 == override-name.0 || name.0 == final-name.0 || name.0 == abstractmethod-name.0

-- `assert_never` gives nothing; another one isn't called
abbrev pub special_call : NameId → ℕ → Option Value
special_call name count = if gives_argument name then Some (argument count 0) else when (name.0 == assert_never-name.0) never

-- an instance: its `__call__`; one of `type` is Unknown without a fault
abbrev pub instance_call : World → Atom → ClassId → Option Value
instance_call w a class = by_method w call-name a (when (is_under w class builtin.Callable) unknown)

abbrev pub site_call : World → Atom → SiteId → Option Value
site_call w a site = if is_class site.class builtin.Function then Some (lambda_result w (w.facts.func_at site.node)) else instance_call w a site.class

abbrev pub generic_call : World → Atom → ClassId → Slots (List Atom) → Option Value
generic_call w a class all = if is_class class builtin.Callable then slots_result all else instance_call w a class

abbrev pub level_call : World → Atom → CallSite → Atom-F Atom → Option Value
level_call w a call (Atom-F.Lit value) = instance_call w a (literal_class value)
level_call w a call (Atom-F.Inst class) = instance_call w a class
level_call w a call (Atom-F.Gen class all) = generic_call w a class all
level_call w a call (Atom-F.Site site) = site_call w a site
level_call w a call (Atom-F.Class class) = Some (class_call w a class call)
level_call w a call (Atom-F.Func func) = Some (call_of w func)
level_call w a call (Atom-F.Bound func) = Some (call_of w func)
level_call w a call (Atom-F.BuiltMethod row receiver) = Some (row_call w row receiver call)
level_call w a call (Atom-F.BuiltFunc row) = Some (row_call w row a call)
level_call w a call (Atom-F.Special name) = special_call name call.count
level_call w a call Atom-F.Unknown = Some unknown
level_call w a call _ = None

unfoldable pub called : World → Atom → CallSite → Rule
called w a call = or_fault a (level_call w a call (out-Atom a))

-- which members are `reveal_type` and `assert_never`
abbrev pub level_named : NameId → Atom-F Atom → Bool
level_named wanted (Atom-F.Special name) = name.0 == wanted.0
level_named wanted _ = false

abbrev pub is_reveal_type : Atom → Bool
is_reveal_type a = level_named reveal_type-name (out-Atom a)

abbrev pub is_assert_never : Atom → Bool
is_assert_never a = level_named assert_never-name (out-Atom a)
