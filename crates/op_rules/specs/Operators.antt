-- What an operator with two operands gives, for one member of each side (Python language reference, 3.3.8, emulating numeric types, and 6.7 to 6.9): the left one's own `__add__` and its
-- kin, else the right one's `__radd__` and its kin, else the rows of numbers, text and containers; with Unknown Unknown; None nothing and a fault; else Unknown and a fault.
use Rattle.std.specs.Prelude.{Bool, None, Option, Some, false, if◌then◌else◌, is_some, true, ◌&&◌, ◌||◌}
use Rattle.py_base.specs.declared.ids.NameId.{NameId}
use Rattle.py_base.specs.declared.node.Op.{Op}
use Rattle.type_terms.specs.declared.atom.Atom.{Atom, out-Atom}
use Rattle.type_terms.specs.declared.atom.Atom.TheOpen.{Atom-F}
use Rattle.value_terms.specs.Outcome.{gives}
use Rattle.op_rules.specs.Containers.{containers}
use Rattle.op_rules.specs.Names.{left_method, right_method}
use Rattle.op_rules.specs.Numbers.{numbers}
use Rattle.op_rules.specs.Protocols.{has_any_method, own_method}
use Rattle.op_rules.specs.Texts.{texts}
use Rattle.op_rules.specs.World.{Rule, Value, World, first_of, none_refused, or_else, refused, ruled, unknown}

abbrev pub method_of : World → Atom → Option NameId → Option Value
method_of w a (Some name) = own_method w name a
method_of w a None = None

-- the operator's own methods, the left one first
unfoldable pub methods : World → Op → Atom → Atom → Option Value
methods w op left right = first_of (method_of w left (left_method op)) (method_of w right (right_method op))

abbrev pub after_numbers : World → Op → Atom → Atom → Option Value
after_numbers w op left right = first_of (texts w op left right) (containers w op left right)

-- the rows of the table
unfoldable pub table_rows : World → Op → Atom → Atom → Option Value
table_rows w op left right = first_of (numbers w op left right) (after_numbers w op left right)

abbrev pub own_pair : World → Op → Atom → Atom → Option Value
own_pair w op left right = first_of (methods w op left right) (table_rows w op left right)

-- `__getattr__` or an Unknown base stands for the method
abbrev pub stands_in : World → Atom → Option NameId → Bool
stands_in w a name = is_some name && has_any_method w a

abbrev pub is_unknown : Atom-F Atom → Bool
is_unknown Atom-F.Unknown = true
is_unknown _ = false

abbrev pub is_none : Atom-F Atom → Bool
is_none Atom-F.None = true
is_none _ = false

abbrev pub is_either : (Atom-F Atom → Bool) → Atom → Atom → Bool
is_either property left right = property (out-Atom left) || property (out-Atom right)

unfoldable pub without_row : World → Op → Atom → Atom → Rule
without_row w op left right =
    if stands_in w left (left_method op) || stands_in w right (right_method op) || is_either is_unknown left right then gives unknown
    else (if is_either is_none left right then none_refused else refused)

unfoldable pub binary : World → Op → Atom → Atom → Rule
binary w op left right = or_else (ruled (own_pair w op left right)) (without_row w op left right)
