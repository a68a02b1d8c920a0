-- What the type of a member symbol becomes on the way to the attribute, and what a call of a function of the file gives (Python language reference, 3.2.8,
-- callable types; Python typing specification, "Callables").
use Rattle.std.specs.Prelude.{List, None, Option, Some, if◌then◌else◌, ◌||◌}
use Rattle.py_base.specs.declared.ids.FuncId.{FuncId}
use Rattle.py_base.specs.declared.ids.SymId.{SymId}
use Rattle.type_terms.specs.Types.{both_bools}
use Rattle.type_terms.specs.declared.atom.Atom.{Atom, out-Atom}
use Rattle.type_terms.specs.declared.atom.Atom.TheOpen.{Atom-F}
use Rattle.type_terms.specs.declared.facts.FuncKind.{FuncKind}
use Rattle.type_terms.specs.declared.facts.FuncRow.{FuncRow}
use Rattle.value_terms.specs.Term.{each, fixed, member, read}
use Rattle.op_rules.specs.World.{Value, World, unknown}
use Rattle.value_terms.specs.declared.ask.Ask.TheVariants as ask
use Rattle.type_terms.specs.declared.atom.Atom.TheVariants as atom
use Rattle.type_terms.specs.declared.facts.FuncKind.TheVariants as kind

-- a call of a def or a lambda: Unknown where it is async or its body has `yield`, bool under TypeGuard and TypeIs, else the annotation, else what it
-- returns

abbrev pub annotated : Option (List Atom) → FuncId → Value
annotated (Some type) func = fixed type
annotated None func = read (ask.Ret func)

abbrev pub row_result_of : FuncRow → FuncId → Value
row_result_of row func = if row.is_async || row.is_generator then unknown else (if row.guard then fixed both_bools else annotated row.result func)

unfoldable pub call_of : World → FuncId → Value
call_of w func = row_result_of (w.facts.func func) func

-- a def of a class seen through an instance: Bound, under `staticmethod` itself; a property gives its result
abbrev pub func_on_instance : World → FuncId → FuncKind → Value
func_on_instance w func kind.Plain = member (atom.Func func)
func_on_instance w func kind.Method = member (atom.Bound func)
func_on_instance w func kind.Static = member (atom.Func func)
func_on_instance w func kind.Class = member (atom.Bound func)
func_on_instance w func kind.Property = call_of w func

abbrev pub level_on_instance : World → Atom → Atom-F Atom → Value
level_on_instance w a (Atom-F.Func func) = func_on_instance w func (w.facts.func func).kind
level_on_instance w a _ = member a

unfoldable pub bound_on_instance : World → Atom → Value
bound_on_instance w a = level_on_instance w a (out-Atom a)

-- seen through the class: itself, but for a `classmethod`, which is Bound
abbrev pub func_on_class : FuncId → FuncKind → Value
func_on_class func kind.Class = member (atom.Bound func)
func_on_class func _ = member (atom.Func func)

abbrev pub level_on_class : World → Atom → Atom-F Atom → Value
level_on_class w a (Atom-F.Func func) = func_on_class func (w.facts.func func).kind
level_on_class w a _ = member a

unfoldable pub bound_on_class : World → Atom → Value
bound_on_class w a = level_on_class w a (out-Atom a)

-- the type of a member symbol, through an instance and through the class
abbrev pub through_instance : World → SymId → Value
through_instance w sym = each (read (ask.Sym sym)) (bound_on_instance w)

abbrev pub through_class : World → SymId → Value
through_class w sym = each (read (ask.Sym sym)) (bound_on_class w)
