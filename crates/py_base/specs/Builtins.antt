-- The builtin classes, which have the first class numbers. The numbers are this project's own: the places of the names in the list of the
-- names of the language.
use Rattle.std.specs.Prelude.{ℕ, List, [], ◌∷◌}
use Rattle.py_base.specs.declared.ids.ClassId.{ClassId}
use Rattle.py_base.specs.declared.builtin.Builtin.{Builtin}
use Rattle.py_base.specs.declared.builtin.Builtin.TheVariants as class

-- how many there are, and so the number of the first class of a file
abbrev pub builtin_count : ℕ
builtin_count = 53

-- the class number
abbrev pub number : Builtin → ℕ
number class.Object = 0
number class.Type = 1
number class.Function = 2
number class.NoneType = 3
number class.Int = 4
number class.Bool = 5
number class.Float = 6
number class.Complex = 7
number class.Str = 8
number class.Bytes = 9
number class.List = 10
number class.Tuple = 11
number class.Set = 12
number class.Dict = 13
number class.Range = 14
number class.Ellipsis = 15
number class.Sequence = 16
number class.Iterable = 17
number class.Callable = 18
number class.TextIo = 19
number class.Enum = 20
number class.IntEnum = 21
number class.StrEnum = 22
number class.BaseException = 23
number class.Exception = 24
number class.KeyboardInterrupt = 25
number class.SystemExit = 26
number class.ArithmeticError = 27
number class.AssertionError = 28
number class.AttributeError = 29
number class.EofError = 30
number class.ImportError = 31
number class.LookupError = 32
number class.MemoryError = 33
number class.NameError = 34
number class.OsError = 35
number class.RuntimeError = 36
number class.StopIteration = 37
number class.SyntaxError = 38
number class.TypeError = 39
number class.ValueError = 40
number class.OverflowError = 41
number class.ZeroDivisionError = 42
number class.ModuleNotFoundError = 43
number class.IndexError = 44
number class.KeyError = 45
number class.FileNotFoundError = 46
number class.PermissionError = 47
number class.TimeoutError = 48
number class.NotImplementedError = 49
number class.RecursionError = 50
number class.UnicodeError = 51
number class.UnicodeDecodeError = 52

abbrev pub id_of : Builtin → ClassId
id_of builtin = record { 0 = number builtin }

-- all of them, by number
abbrev pub builtins : List Builtin
builtins =
    class.Object ∷ class.Type ∷ class.Function ∷ class.NoneType ∷ class.Int ∷ class.Bool ∷
    class.Float ∷ class.Complex ∷ class.Str ∷ class.Bytes ∷ class.List ∷ class.Tuple ∷
    class.Set ∷ class.Dict ∷ class.Range ∷ class.Ellipsis ∷ class.Sequence ∷ class.Iterable ∷
    class.Callable ∷ class.TextIo ∷ class.Enum ∷ class.IntEnum ∷ class.StrEnum ∷ class.BaseException ∷
    class.Exception ∷ class.KeyboardInterrupt ∷ class.SystemExit ∷ class.ArithmeticError ∷ class.AssertionError ∷ class.AttributeError ∷
    class.EofError ∷ class.ImportError ∷ class.LookupError ∷ class.MemoryError ∷ class.NameError ∷ class.OsError ∷
    class.RuntimeError ∷ class.StopIteration ∷ class.SyntaxError ∷ class.TypeError ∷ class.ValueError ∷ class.OverflowError ∷
    class.ZeroDivisionError ∷ class.ModuleNotFoundError ∷ class.IndexError ∷ class.KeyError ∷ class.FileNotFoundError ∷ class.PermissionError ∷
    class.TimeoutError ∷ class.NotImplementedError ∷ class.RecursionError ∷ class.UnicodeError ∷ class.UnicodeDecodeError ∷ []
