-- THE TABLE: the rows of the builtin functions, calls of classes and methods, and the names of modules. A line is a row: whose it is,
-- its name, how many plain arguments it takes, and what it gives. Rows are numbered by their places: functions stand in the order of the
-- names' numbers, calls in that of the classes, methods in that of classes and names.
-- From: the Python 3.12 library reference ("Built-in Functions", "Built-in Types", "Built-in Exceptions", `sys`, `enum`, `abc`, `typing`,
-- `collections.abc`), cut to what the checker tells apart.
use Rattle.std.specs.Prelude.{ℕ, List, [], ◌∷◌, codes}
use Rattle.py_base.specs.declared.builtin.Builtin.TheVariants as class
use Rattle.builtin_rows.specs.declared.table.Owner.{Owner}
use Rattle.builtin_rows.specs.declared.table.Owner.TheVariants as owner
use Rattle.builtin_rows.specs.declared.table.Takes.{Takes}
use Rattle.builtin_rows.specs.declared.table.Takes.TheVariants as takes
use Rattle.builtin_rows.specs.declared.table.Gives.{Gives}
use Rattle.builtin_rows.specs.declared.table.Gives.TheVariants as gives
use Rattle.builtin_rows.specs.declared.table.Meaning.{Meaning}
use Rattle.builtin_rows.specs.declared.table.Meaning.TheVariants as meaning

pub record RowLine : Type 0 where
  pub owner : Owner
  pub name : List ℕ
  pub takes : Takes
  pub gives : Gives

abbrev pub row : Owner → List ℕ → Takes → Gives → RowLine
row o n t g = record { owner = o; name = n; takes = t; gives = g }

-- a name of a module, and what it means there
pub record ModuleLine : Type 0 where
  pub owner : List ℕ
  pub name : List ℕ
  pub meaning : Meaning

abbrev pub entry : List ℕ → List ℕ → Meaning → ModuleLine
entry o n m = record { owner = o; name = n; meaning = m }

-- THE ROWS, by number
unfoldable pub rows : List RowLine
rows =
    row owner.Function (codes "abs") (takes.Just 1) gives.Magnitude ∷
    row owner.Function (codes "all") (takes.Just 1) gives.Bools ∷
    row owner.Function (codes "any") (takes.Just 1) gives.Bools ∷
    row owner.Function (codes "ascii") (takes.Just 1) (gives.Instance class.Str) ∷
    row owner.Function (codes "bin") (takes.Just 1) (gives.Instance class.Str) ∷
    row owner.Function (codes "callable") (takes.Just 1) gives.Bools ∷
    row owner.Function (codes "chr") (takes.Just 1) (gives.Instance class.Str) ∷
    row owner.Function (codes "enumerate") (takes.Between 1 2) gives.Numbered ∷
    row owner.Function (codes "exit") (takes.Between 0 1) gives.Nothing ∷
    row owner.Function (codes "filter") (takes.Just 2) (gives.Iterated class.Iterable 1) ∷
    row owner.Function (codes "format") (takes.Between 1 2) (gives.Instance class.Str) ∷
    row owner.Function (codes "hasattr") (takes.Just 2) gives.Bools ∷
    row owner.Function (codes "hash") (takes.Just 1) (gives.Instance class.Int) ∷
    row owner.Function (codes "hex") (takes.Just 1) (gives.Instance class.Str) ∷
    row owner.Function (codes "id") (takes.Just 1) (gives.Instance class.Int) ∷
    row owner.Function (codes "input") (takes.Between 0 1) (gives.Instance class.Str) ∷
    row owner.Function (codes "isinstance") (takes.Just 2) gives.Bools ∷
    row owner.Function (codes "issubclass") (takes.Just 2) gives.Bools ∷
    row owner.Function (codes "len") (takes.Just 1) (gives.Instance class.Int) ∷
    row owner.Function (codes "map") (takes.AtLeast 2) gives.Mapped ∷
    row owner.Function (codes "max") (takes.AtLeast 1) gives.Extreme ∷
    row owner.Function (codes "min") (takes.AtLeast 1) gives.Extreme ∷
    row owner.Function (codes "oct") (takes.Just 1) (gives.Instance class.Str) ∷
    row owner.Function (codes "open") (takes.Between 1 8) (gives.Instance class.TextIo) ∷
    row owner.Function (codes "ord") (takes.Just 1) (gives.Instance class.Int) ∷
    row owner.Function (codes "print") takes.Any gives.NoneValue ∷
    row owner.Function (codes "quit") (takes.Between 0 1) gives.Nothing ∷
    row owner.Function (codes "repr") (takes.Just 1) (gives.Instance class.Str) ∷
    row owner.Function (codes "reveal_type") (takes.Just 1) gives.FirstArgument ∷
    row owner.Function (codes "reversed") (takes.Just 1) (gives.Iterated class.Iterable 0) ∷
    row owner.Function (codes "round") (takes.Between 1 2) gives.Rounded ∷
    row owner.Function (codes "setattr") (takes.Just 3) gives.NoneValue ∷
    row owner.Function (codes "sorted") (takes.Just 1) (gives.Iterated class.List 0) ∷
    row owner.Function (codes "sum") (takes.Between 1 2) gives.Sum ∷
    row owner.Function (codes "super") (takes.Between 0 2) gives.SuperAround ∷
    row owner.Function (codes "zip") takes.Any gives.Zipped ∷
    row owner.Call (codes "type") (takes.Between 1 3) gives.ClassOfEach ∷
    row owner.Call (codes "int") takes.Any (gives.Instance class.Int) ∷
    row owner.Call (codes "bool") takes.Any gives.Bools ∷
    row owner.Call (codes "float") takes.Any (gives.Instance class.Float) ∷
    row owner.Call (codes "complex") takes.Any (gives.Instance class.Complex) ∷
    row owner.Call (codes "str") takes.Any (gives.Instance class.Str) ∷
    row owner.Call (codes "bytes") takes.Any (gives.Instance class.Bytes) ∷
    row owner.Call (codes "list") (takes.Between 0 1) (gives.Iterated class.List 0) ∷
    row owner.Call (codes "tuple") takes.Any (gives.Iterated class.Tuple 0) ∷
    row owner.Call (codes "set") (takes.Between 0 1) (gives.Iterated class.Set 0) ∷
    row owner.Call (codes "dict") takes.Any (gives.Unfilled class.Dict) ∷
    row owner.Call (codes "range") takes.Any (gives.Instance class.Range) ∷
    row owner.Call (codes "Enum") takes.Any gives.EnumMembers ∷
    row owner.Call (codes "IntEnum") takes.Any gives.EnumMembers ∷
    row owner.Call (codes "StrEnum") takes.Any gives.EnumMembers ∷
    row owner.Call (codes "BaseException") takes.Any (gives.Instance class.BaseException) ∷
    row owner.Call (codes "Exception") takes.Any (gives.Instance class.Exception) ∷
    row owner.Call (codes "KeyboardInterrupt") takes.Any (gives.Instance class.KeyboardInterrupt) ∷
    row owner.Call (codes "SystemExit") takes.Any (gives.Instance class.SystemExit) ∷
    row owner.Call (codes "ArithmeticError") takes.Any (gives.Instance class.ArithmeticError) ∷
    row owner.Call (codes "AssertionError") takes.Any (gives.Instance class.AssertionError) ∷
    row owner.Call (codes "AttributeError") takes.Any (gives.Instance class.AttributeError) ∷
    row owner.Call (codes "EOFError") takes.Any (gives.Instance class.EofError) ∷
    row owner.Call (codes "ImportError") takes.Any (gives.Instance class.ImportError) ∷
    row owner.Call (codes "LookupError") takes.Any (gives.Instance class.LookupError) ∷
    row owner.Call (codes "MemoryError") takes.Any (gives.Instance class.MemoryError) ∷
    row owner.Call (codes "NameError") takes.Any (gives.Instance class.NameError) ∷
    row owner.Call (codes "OSError") takes.Any (gives.Instance class.OsError) ∷
    row owner.Call (codes "RuntimeError") takes.Any (gives.Instance class.RuntimeError) ∷
    row owner.Call (codes "StopIteration") takes.Any (gives.Instance class.StopIteration) ∷
    row owner.Call (codes "SyntaxError") takes.Any (gives.Instance class.SyntaxError) ∷
    row owner.Call (codes "TypeError") takes.Any (gives.Instance class.TypeError) ∷
    row owner.Call (codes "ValueError") takes.Any (gives.Instance class.ValueError) ∷
    row owner.Call (codes "OverflowError") takes.Any (gives.Instance class.OverflowError) ∷
    row owner.Call (codes "ZeroDivisionError") takes.Any (gives.Instance class.ZeroDivisionError) ∷
    row owner.Call (codes "ModuleNotFoundError") takes.Any (gives.Instance class.ModuleNotFoundError) ∷
    row owner.Call (codes "IndexError") takes.Any (gives.Instance class.IndexError) ∷
    row owner.Call (codes "KeyError") takes.Any (gives.Instance class.KeyError) ∷
    row owner.Call (codes "FileNotFoundError") takes.Any (gives.Instance class.FileNotFoundError) ∷
    row owner.Call (codes "PermissionError") takes.Any (gives.Instance class.PermissionError) ∷
    row owner.Call (codes "TimeoutError") takes.Any (gives.Instance class.TimeoutError) ∷
    row owner.Call (codes "NotImplementedError") takes.Any (gives.Instance class.NotImplementedError) ∷
    row owner.Call (codes "RecursionError") takes.Any (gives.Instance class.RecursionError) ∷
    row owner.Call (codes "UnicodeError") takes.Any (gives.Instance class.UnicodeError) ∷
    row owner.Call (codes "UnicodeDecodeError") takes.Any (gives.Instance class.UnicodeDecodeError) ∷
    row (owner.Method class.Int) (codes "as_integer_ratio") takes.Any gives.Unsure ∷
    row (owner.Method class.Int) (codes "bit_count") takes.Any (gives.Instance class.Int) ∷
    row (owner.Method class.Int) (codes "bit_length") takes.Any (gives.Instance class.Int) ∷
    row (owner.Method class.Int) (codes "conjugate") takes.Any (gives.Instance class.Int) ∷
    row (owner.Method class.Int) (codes "denominator") takes.Uncalled (gives.Instance class.Int) ∷
    row (owner.Method class.Int) (codes "from_bytes") takes.Any gives.Unsure ∷
    row (owner.Method class.Int) (codes "imag") takes.Uncalled (gives.Instance class.Int) ∷
    row (owner.Method class.Int) (codes "is_integer") takes.Any gives.Bools ∷
    row (owner.Method class.Int) (codes "numerator") takes.Uncalled (gives.Instance class.Int) ∷
    row (owner.Method class.Int) (codes "real") takes.Uncalled (gives.Instance class.Int) ∷
    row (owner.Method class.Int) (codes "to_bytes") takes.Any (gives.Instance class.Bytes) ∷
    row (owner.Method class.Float) (codes "as_integer_ratio") takes.Any gives.Unsure ∷
    row (owner.Method class.Float) (codes "conjugate") takes.Any gives.Unsure ∷
    row (owner.Method class.Float) (codes "fromhex") takes.Any gives.Unsure ∷
    row (owner.Method class.Float) (codes "hex") takes.Any (gives.Instance class.Str) ∷
    row (owner.Method class.Float) (codes "imag") takes.Uncalled (gives.Instance class.Float) ∷
    row (owner.Method class.Float) (codes "is_integer") takes.Any gives.Bools ∷
    row (owner.Method class.Float) (codes "real") takes.Uncalled (gives.Instance class.Float) ∷
    row (owner.Method class.Str) (codes "capitalize") takes.Any (gives.Instance class.Str) ∷
    row (owner.Method class.Str) (codes "casefold") takes.Any (gives.Instance class.Str) ∷
    row (owner.Method class.Str) (codes "center") takes.Any (gives.Instance class.Str) ∷
    row (owner.Method class.Str) (codes "count") takes.Any (gives.Instance class.Int) ∷
    row (owner.Method class.Str) (codes "encode") takes.Any (gives.Instance class.Bytes) ∷
    row (owner.Method class.Str) (codes "endswith") takes.Any gives.Bools ∷
    row (owner.Method class.Str) (codes "expandtabs") takes.Any (gives.Instance class.Str) ∷
    row (owner.Method class.Str) (codes "find") takes.Any (gives.Instance class.Int) ∷
    row (owner.Method class.Str) (codes "format") takes.Any (gives.Instance class.Str) ∷
    row (owner.Method class.Str) (codes "format_map") takes.Any (gives.Instance class.Str) ∷
    row (owner.Method class.Str) (codes "index") takes.Any (gives.Instance class.Int) ∷
    row (owner.Method class.Str) (codes "isalnum") takes.Any gives.Bools ∷
    row (owner.Method class.Str) (codes "isalpha") takes.Any gives.Bools ∷
    row (owner.Method class.Str) (codes "isascii") takes.Any gives.Bools ∷
    row (owner.Method class.Str) (codes "isdecimal") takes.Any gives.Bools ∷
    row (owner.Method class.Str) (codes "isdigit") takes.Any gives.Bools ∷
    row (owner.Method class.Str) (codes "isidentifier") takes.Any gives.Bools ∷
    row (owner.Method class.Str) (codes "islower") takes.Any gives.Bools ∷
    row (owner.Method class.Str) (codes "isnumeric") takes.Any gives.Bools ∷
    row (owner.Method class.Str) (codes "isprintable") takes.Any gives.Bools ∷
    row (owner.Method class.Str) (codes "isspace") takes.Any gives.Bools ∷
    row (owner.Method class.Str) (codes "istitle") takes.Any gives.Bools ∷
    row (owner.Method class.Str) (codes "isupper") takes.Any gives.Bools ∷
    row (owner.Method class.Str) (codes "join") takes.Any (gives.Instance class.Str) ∷
    row (owner.Method class.Str) (codes "ljust") takes.Any (gives.Instance class.Str) ∷
    row (owner.Method class.Str) (codes "lower") takes.Any (gives.Instance class.Str) ∷
    row (owner.Method class.Str) (codes "lstrip") takes.Any (gives.Instance class.Str) ∷
    row (owner.Method class.Str) (codes "maketrans") takes.Any gives.Unsure ∷
    row (owner.Method class.Str) (codes "partition") takes.Any gives.ThreeStrs ∷
    row (owner.Method class.Str) (codes "removeprefix") takes.Any (gives.Instance class.Str) ∷
    row (owner.Method class.Str) (codes "removesuffix") takes.Any (gives.Instance class.Str) ∷
    row (owner.Method class.Str) (codes "replace") takes.Any (gives.Instance class.Str) ∷
    row (owner.Method class.Str) (codes "rfind") takes.Any (gives.Instance class.Int) ∷
    row (owner.Method class.Str) (codes "rindex") takes.Any (gives.Instance class.Int) ∷
    row (owner.Method class.Str) (codes "rjust") takes.Any (gives.Instance class.Str) ∷
    row (owner.Method class.Str) (codes "rpartition") takes.Any gives.ThreeStrs ∷
    row (owner.Method class.Str) (codes "rsplit") takes.Any gives.ListOfStr ∷
    row (owner.Method class.Str) (codes "rstrip") takes.Any (gives.Instance class.Str) ∷
    row (owner.Method class.Str) (codes "split") takes.Any gives.ListOfStr ∷
    row (owner.Method class.Str) (codes "splitlines") takes.Any gives.ListOfStr ∷
    row (owner.Method class.Str) (codes "startswith") takes.Any gives.Bools ∷
    row (owner.Method class.Str) (codes "strip") takes.Any (gives.Instance class.Str) ∷
    row (owner.Method class.Str) (codes "swapcase") takes.Any (gives.Instance class.Str) ∷
    row (owner.Method class.Str) (codes "title") takes.Any (gives.Instance class.Str) ∷
    row (owner.Method class.Str) (codes "translate") takes.Any (gives.Instance class.Str) ∷
    row (owner.Method class.Str) (codes "upper") takes.Any (gives.Instance class.Str) ∷
    row (owner.Method class.Str) (codes "zfill") takes.Any (gives.Instance class.Str) ∷
    row (owner.Method class.Bytes) (codes "decode") takes.Any (gives.Instance class.Str) ∷
    row (owner.Method class.Bytes) (codes "hex") takes.Any (gives.Instance class.Str) ∷
    row (owner.Method class.List) (codes "append") takes.Any gives.NoneValue ∷
    row (owner.Method class.List) (codes "clear") takes.Any gives.NoneValue ∷
    row (owner.Method class.List) (codes "copy") takes.Any gives.Receiver ∷
    row (owner.Method class.List) (codes "count") takes.Any (gives.Instance class.Int) ∷
    row (owner.Method class.List) (codes "extend") takes.Any gives.NoneValue ∷
    row (owner.Method class.List) (codes "index") takes.Any (gives.Instance class.Int) ∷
    row (owner.Method class.List) (codes "insert") takes.Any gives.NoneValue ∷
    row (owner.Method class.List) (codes "pop") takes.Any (gives.Slot 0) ∷
    row (owner.Method class.List) (codes "remove") takes.Any gives.NoneValue ∷
    row (owner.Method class.List) (codes "reverse") takes.Any gives.NoneValue ∷
    row (owner.Method class.List) (codes "sort") takes.Any gives.NoneValue ∷
    row (owner.Method class.Tuple) (codes "count") takes.Any (gives.Instance class.Int) ∷
    row (owner.Method class.Tuple) (codes "index") takes.Any (gives.Instance class.Int) ∷
    row (owner.Method class.Set) (codes "add") takes.Any gives.NoneValue ∷
    row (owner.Method class.Set) (codes "clear") takes.Any gives.NoneValue ∷
    row (owner.Method class.Set) (codes "copy") takes.Any gives.Receiver ∷
    row (owner.Method class.Set) (codes "difference") takes.Any gives.Receiver ∷
    row (owner.Method class.Set) (codes "difference_update") takes.Any gives.NoneValue ∷
    row (owner.Method class.Set) (codes "discard") takes.Any gives.NoneValue ∷
    row (owner.Method class.Set) (codes "intersection") takes.Any gives.Receiver ∷
    row (owner.Method class.Set) (codes "intersection_update") takes.Any gives.NoneValue ∷
    row (owner.Method class.Set) (codes "isdisjoint") takes.Any gives.Bools ∷
    row (owner.Method class.Set) (codes "issubset") takes.Any gives.Bools ∷
    row (owner.Method class.Set) (codes "issuperset") takes.Any gives.Bools ∷
    row (owner.Method class.Set) (codes "pop") takes.Any (gives.Slot 0) ∷
    row (owner.Method class.Set) (codes "remove") takes.Any gives.NoneValue ∷
    row (owner.Method class.Set) (codes "symmetric_difference") takes.Any gives.Receiver ∷
    row (owner.Method class.Set) (codes "symmetric_difference_update") takes.Any gives.NoneValue ∷
    row (owner.Method class.Set) (codes "union") takes.Any gives.Receiver ∷
    row (owner.Method class.Set) (codes "update") takes.Any gives.NoneValue ∷
    row (owner.Method class.Dict) (codes "clear") takes.Any gives.NoneValue ∷
    row (owner.Method class.Dict) (codes "copy") takes.Any gives.Receiver ∷
    row (owner.Method class.Dict) (codes "fromkeys") takes.Any gives.Unsure ∷
    row (owner.Method class.Dict) (codes "get") takes.Any (gives.SlotOrNone 1) ∷
    row (owner.Method class.Dict) (codes "items") takes.Any gives.IterableOfEntries ∷
    row (owner.Method class.Dict) (codes "keys") takes.Any (gives.IterableOfSlot 0) ∷
    row (owner.Method class.Dict) (codes "pop") takes.Any (gives.SlotOrArgument 1) ∷
    row (owner.Method class.Dict) (codes "popitem") takes.Any gives.Unsure ∷
    row (owner.Method class.Dict) (codes "setdefault") takes.Any (gives.SlotOrArgument 1) ∷
    row (owner.Method class.Dict) (codes "update") takes.Any gives.NoneValue ∷
    row (owner.Method class.Dict) (codes "values") takes.Any (gives.IterableOfSlot 1) ∷
    row (owner.Method class.Sequence) (codes "count") takes.Any (gives.Instance class.Int) ∷
    row (owner.Method class.Sequence) (codes "index") takes.Any (gives.Instance class.Int) ∷
    row (owner.Method class.TextIo) (codes "__enter__") takes.Any gives.Receiver ∷
    row (owner.Method class.TextIo) (codes "close") takes.Any gives.NoneValue ∷
    row (owner.Method class.TextIo) (codes "read") takes.Any (gives.Instance class.Str) ∷
    row (owner.Method class.TextIo) (codes "readline") takes.Any (gives.Instance class.Str) ∷
    row (owner.Method class.TextIo) (codes "readlines") takes.Any gives.ListOfStr ∷
    row (owner.Method class.TextIo) (codes "write") takes.Any (gives.Instance class.Int) ∷ []

-- THE NAMES OF MODULES. `typing_extensions` has those of `typing` and `TypeIs`
unfoldable pub entries : List ModuleLine
entries =
    entry (codes "abc") (codes "ABC") meaning.ClassObject ∷
    entry (codes "abc") (codes "abstractmethod") meaning.Special ∷
    entry (codes "collections.abc") (codes "Sequence") meaning.Class ∷
    entry (codes "collections.abc") (codes "Iterable") meaning.Class ∷
    entry (codes "collections.abc") (codes "Callable") meaning.Class ∷
    entry (codes "enum") (codes "Enum") meaning.Class ∷
    entry (codes "enum") (codes "IntEnum") meaning.Class ∷
    entry (codes "enum") (codes "StrEnum") meaning.Class ∷
    entry (codes "sys") (codes "argv") meaning.Strs ∷
    entry (codes "sys") (codes "exit") meaning.BuiltinFunction ∷
    entry (codes "typing") (codes "Sequence") meaning.Class ∷
    entry (codes "typing") (codes "Iterable") meaning.Class ∷
    entry (codes "typing") (codes "Callable") meaning.Class ∷
    entry (codes "typing") (codes "Annotated") meaning.Special ∷
    entry (codes "typing") (codes "Any") meaning.Special ∷
    entry (codes "typing") (codes "ClassVar") meaning.Special ∷
    entry (codes "typing") (codes "Dict") meaning.Special ∷
    entry (codes "typing") (codes "Final") meaning.Special ∷
    entry (codes "typing") (codes "List") meaning.Special ∷
    entry (codes "typing") (codes "Literal") meaning.Special ∷
    entry (codes "typing") (codes "Never") meaning.Special ∷
    entry (codes "typing") (codes "NoReturn") meaning.Special ∷
    entry (codes "typing") (codes "Optional") meaning.Special ∷
    entry (codes "typing") (codes "Set") meaning.Special ∷
    entry (codes "typing") (codes "TYPE_CHECKING") meaning.NotKnown ∷
    entry (codes "typing") (codes "Tuple") meaning.Special ∷
    entry (codes "typing") (codes "Type") meaning.Special ∷
    entry (codes "typing") (codes "TypeGuard") meaning.Special ∷
    entry (codes "typing") (codes "Union") meaning.Special ∷
    entry (codes "typing") (codes "assert_never") meaning.Special ∷
    entry (codes "typing") (codes "cast") meaning.Special ∷
    entry (codes "typing") (codes "final") meaning.Special ∷
    entry (codes "typing") (codes "override") meaning.Special ∷
    entry (codes "typing") (codes "reveal_type") meaning.Special ∷
    entry (codes "typing_extensions") (codes "Sequence") meaning.Class ∷
    entry (codes "typing_extensions") (codes "Iterable") meaning.Class ∷
    entry (codes "typing_extensions") (codes "Callable") meaning.Class ∷
    entry (codes "typing_extensions") (codes "Annotated") meaning.Special ∷
    entry (codes "typing_extensions") (codes "Any") meaning.Special ∷
    entry (codes "typing_extensions") (codes "ClassVar") meaning.Special ∷
    entry (codes "typing_extensions") (codes "Dict") meaning.Special ∷
    entry (codes "typing_extensions") (codes "Final") meaning.Special ∷
    entry (codes "typing_extensions") (codes "List") meaning.Special ∷
    entry (codes "typing_extensions") (codes "Literal") meaning.Special ∷
    entry (codes "typing_extensions") (codes "Never") meaning.Special ∷
    entry (codes "typing_extensions") (codes "NoReturn") meaning.Special ∷
    entry (codes "typing_extensions") (codes "Optional") meaning.Special ∷
    entry (codes "typing_extensions") (codes "Set") meaning.Special ∷
    entry (codes "typing_extensions") (codes "TYPE_CHECKING") meaning.NotKnown ∷
    entry (codes "typing_extensions") (codes "Tuple") meaning.Special ∷
    entry (codes "typing_extensions") (codes "Type") meaning.Special ∷
    entry (codes "typing_extensions") (codes "TypeGuard") meaning.Special ∷
    entry (codes "typing_extensions") (codes "TypeIs") meaning.Special ∷
    entry (codes "typing_extensions") (codes "Union") meaning.Special ∷
    entry (codes "typing_extensions") (codes "assert_never") meaning.Special ∷
    entry (codes "typing_extensions") (codes "cast") meaning.Special ∷
    entry (codes "typing_extensions") (codes "final") meaning.Special ∷
    entry (codes "typing_extensions") (codes "override") meaning.Special ∷
    entry (codes "typing_extensions") (codes "reveal_type") meaning.Special ∷ []
