-- How operators are spelled.
-- From: the Python language reference, lexical analysis, "Operators", and expressions, for the operators that are words.
use Rattle.std.specs.Prelude.{ℕ, List, codes}
use Rattle.py_base.specs.declared.node.Op.{Op}
use Rattle.py_base.specs.declared.node.Op.TheVariants as op

abbrev pub spelling : Op → List ℕ
spelling op.Plus = codes "+"
spelling op.Minus = codes "-"
spelling op.Star = codes "*"
spelling op.DoubleStar = codes "**"
spelling op.Slash = codes "/"
spelling op.DoubleSlash = codes "//"
spelling op.Percent = codes "%"
spelling op.At = codes "@"
spelling op.ShiftLeft = codes "<<"
spelling op.ShiftRight = codes ">>"
spelling op.BitAnd = codes "&"
spelling op.BitOr = codes "|"
spelling op.BitXor = codes "^"
spelling op.Tilde = codes "~"
spelling op.Less = codes "<"
spelling op.Greater = codes ">"
spelling op.LessEqual = codes "<="
spelling op.GreaterEqual = codes ">="
spelling op.Equal = codes "=="
spelling op.NotEqual = codes "!="
spelling op.In = codes "in"
spelling op.NotIn = codes "not in"
spelling op.Is = codes "is"
spelling op.IsNot = codes "is not"
spelling op.ToRepr = codes "!r"
spelling op.ToStr = codes "!s"
spelling op.ToAscii = codes "!a"
