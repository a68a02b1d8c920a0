-- The names that the rules speak of, by their places in the list of the names of the language, and the methods that stand for operators (Python language
-- reference, 3.3, special method names).
use Rattle.std.specs.Prelude.{None, Option, Some, ℕ}
use Rattle.py_base.specs.declared.ids.NameId.{NameId}
use Rattle.py_base.specs.declared.node.Op.{Op}
use Rattle.py_base.specs.declared.node.Op.TheVariants as operator

abbrev pub name_at : ℕ → NameId
name_at n = record { 0 = n }

abbrev pub name-name : NameId
name-name = name_at 281

abbrev pub value-name : NameId
value-name = name_at 339

abbrev pub cast-name : NameId
cast-name = name_at 194

abbrev pub assert_never-name : NameId
assert_never-name = name_at 185

abbrev pub reveal_type-name : NameId
reveal_type-name = name_at 304

abbrev pub override-name : NameId
override-name = name_at 287

abbrev pub final-name : NameId
final-name = name_at 226

abbrev pub abstractmethod-name : NameId
abstractmethod-name = name_at 175

abbrev pub call-name : NameId
call-name = name_at 122

abbrev pub enter-name : NameId
enter-name = name_at 126

abbrev pub getattr-name : NameId
getattr-name = name_at 131

abbrev pub getitem-name : NameId
getitem-name = name_at 132

abbrev pub iter-name : NameId
iter-name = name_at 137

abbrev pub next-name : NameId
next-name = name_at 149

abbrev pub slots-name : NameId
slots-name = name_at 168

-- the name of an operator's method on the left side, as `__add__`
abbrev pub left_method : Op → Option NameId
left_method operator.Plus = Some (name_at 118)
left_method operator.Minus = Some (name_at 170)
left_method operator.Star = Some (name_at 145)
left_method operator.DoubleStar = Some (name_at 153)
left_method operator.Slash = Some (name_at 171)
left_method operator.DoubleSlash = Some (name_at 129)
left_method operator.Percent = Some (name_at 144)
left_method operator.At = Some (name_at 143)
left_method operator.ShiftLeft = Some (name_at 141)
left_method operator.ShiftRight = Some (name_at 164)
left_method operator.BitAnd = Some (name_at 119)
left_method operator.BitOr = Some (name_at 150)
left_method operator.BitXor = Some (name_at 172)
left_method _ = None

-- and on the right side, as `__radd__`
abbrev pub right_method : Op → Option NameId
right_method operator.Plus = Some (name_at 154)
right_method operator.Minus = Some (name_at 165)
right_method operator.Star = Some (name_at 160)
right_method operator.DoubleStar = Some (name_at 162)
right_method operator.Slash = Some (name_at 166)
right_method operator.DoubleSlash = Some (name_at 156)
right_method operator.Percent = Some (name_at 159)
right_method operator.At = Some (name_at 158)
right_method operator.ShiftLeft = Some (name_at 157)
right_method operator.ShiftRight = Some (name_at 163)
right_method operator.BitAnd = Some (name_at 155)
right_method operator.BitOr = Some (name_at 161)
right_method operator.BitXor = Some (name_at 167)
right_method _ = None

-- that of an operator with one operand: `__neg__`, `__pos__`, `__invert__`
abbrev pub one_method : Op → Option NameId
one_method operator.Minus = Some (name_at 147)
one_method operator.Plus = Some (name_at 152)
one_method operator.Tilde = Some (name_at 136)
one_method _ = None
