-- The names of the language, by groups: those that the checker has rows or rules for, and those that every module sees. Equal names of a
-- tree have one number, and these come first, so their places here are their numbers in each tree.
-- From: the Python 3.12 library reference (built-in functions, constants, types and exceptions, `typing`, `enum`, `abc`, `collections.abc`,
-- `sys`) and language reference, 3.3 (special method names).
use Rattle.std.specs.Prelude.{ℕ, List, [], ◌∷◌, ◌++◌, codes}

-- the builtin classes, whose places are their class numbers
abbrev pub class_names : List (List ℕ)
class_names =
    codes "object" ∷ codes "type" ∷ codes "function" ∷ codes "NoneType" ∷ codes "int" ∷ codes "bool" ∷ codes "float" ∷ codes "complex" ∷
    codes "str" ∷ codes "bytes" ∷ codes "list" ∷ codes "tuple" ∷ codes "set" ∷ codes "dict" ∷ codes "range" ∷ codes "ellipsis" ∷
    codes "Sequence" ∷ codes "Iterable" ∷ codes "Callable" ∷ codes "TextIO" ∷ codes "Enum" ∷ codes "IntEnum" ∷ codes "StrEnum" ∷
    codes "BaseException" ∷ codes "Exception" ∷ codes "KeyboardInterrupt" ∷ codes "SystemExit" ∷ codes "ArithmeticError" ∷
    codes "AssertionError" ∷ codes "AttributeError" ∷ codes "EOFError" ∷ codes "ImportError" ∷ codes "LookupError" ∷ codes "MemoryError" ∷
    codes "NameError" ∷ codes "OSError" ∷ codes "RuntimeError" ∷ codes "StopIteration" ∷ codes "SyntaxError" ∷ codes "TypeError" ∷
    codes "ValueError" ∷ codes "OverflowError" ∷ codes "ZeroDivisionError" ∷ codes "ModuleNotFoundError" ∷ codes "IndexError" ∷
    codes "KeyError" ∷ codes "FileNotFoundError" ∷ codes "PermissionError" ∷ codes "TimeoutError" ∷ codes "NotImplementedError" ∷
    codes "RecursionError" ∷ codes "UnicodeError" ∷ codes "UnicodeDecodeError" ∷ []

-- the other names, in the order of their bytes
abbrev pub other_names : List (List ℕ)
other_names =
    codes "ABC" ∷ codes "Annotated" ∷ codes "Any" ∷ codes "BaseExceptionGroup" ∷ codes "BlockingIOError" ∷ codes "BrokenPipeError" ∷
    codes "BufferError" ∷ codes "BytesWarning" ∷ codes "ChildProcessError" ∷ codes "ClassVar" ∷ codes "ConnectionAbortedError" ∷
    codes "ConnectionError" ∷ codes "ConnectionRefusedError" ∷ codes "ConnectionResetError" ∷ codes "DeprecationWarning" ∷ codes "Dict" ∷
    codes "Ellipsis" ∷ codes "EncodingWarning" ∷ codes "EnvironmentError" ∷ codes "ExceptionGroup" ∷ codes "FileExistsError" ∷
    codes "Final" ∷ codes "FloatingPointError" ∷ codes "FutureWarning" ∷ codes "GeneratorExit" ∷ codes "IOError" ∷ codes "ImportWarning" ∷
    codes "IndentationError" ∷ codes "InterruptedError" ∷ codes "IsADirectoryError" ∷ codes "List" ∷ codes "Literal" ∷ codes "NamedTuple" ∷
    codes "Never" ∷ codes "NewType" ∷ codes "NoReturn" ∷ codes "NotADirectoryError" ∷ codes "NotImplemented" ∷ codes "Optional" ∷
    codes "ParamSpec" ∷ codes "PendingDeprecationWarning" ∷ codes "ProcessLookupError" ∷ codes "Protocol" ∷ codes "ReferenceError" ∷
    codes "ResourceWarning" ∷ codes "RuntimeWarning" ∷ codes "Set" ∷ codes "StopAsyncIteration" ∷ codes "SyntaxWarning" ∷
    codes "SystemError" ∷ codes "TYPE_CHECKING" ∷ codes "TabError" ∷ codes "Tuple" ∷ codes "Type" ∷ codes "TypeGuard" ∷ codes "TypeIs" ∷
    codes "TypeVar" ∷ codes "TypedDict" ∷ codes "UnboundLocalError" ∷ codes "UnicodeEncodeError" ∷ codes "UnicodeTranslateError" ∷
    codes "UnicodeWarning" ∷ codes "Union" ∷ codes "UserWarning" ∷ codes "Warning" ∷ codes "__add__" ∷ codes "__and__" ∷ codes "__bool__" ∷
    codes "__build_class__" ∷ codes "__call__" ∷ codes "__contains__" ∷ codes "__debug__" ∷ codes "__doc__" ∷ codes "__enter__" ∷
    codes "__exit__" ∷ codes "__file__" ∷ codes "__floordiv__" ∷ codes "__ge__" ∷ codes "__getattr__" ∷ codes "__getitem__" ∷
    codes "__gt__" ∷ codes "__import__" ∷ codes "__init__" ∷ codes "__invert__" ∷ codes "__iter__" ∷ codes "__le__" ∷ codes "__len__" ∷
    codes "__loader__" ∷ codes "__lshift__" ∷ codes "__lt__" ∷ codes "__matmul__" ∷ codes "__mod__" ∷ codes "__mul__" ∷ codes "__name__" ∷
    codes "__neg__" ∷ codes "__new__" ∷ codes "__next__" ∷ codes "__or__" ∷ codes "__package__" ∷ codes "__pos__" ∷ codes "__pow__" ∷
    codes "__radd__" ∷ codes "__rand__" ∷ codes "__rfloordiv__" ∷ codes "__rlshift__" ∷ codes "__rmatmul__" ∷ codes "__rmod__" ∷
    codes "__rmul__" ∷ codes "__ror__" ∷ codes "__rpow__" ∷ codes "__rrshift__" ∷ codes "__rshift__" ∷ codes "__rsub__" ∷
    codes "__rtruediv__" ∷ codes "__rxor__" ∷ codes "__slots__" ∷ codes "__spec__" ∷ codes "__sub__" ∷ codes "__truediv__" ∷
    codes "__xor__" ∷ codes "abc" ∷ codes "abs" ∷ codes "abstractmethod" ∷ codes "add" ∷ codes "aiter" ∷ codes "all" ∷ codes "anext" ∷
    codes "any" ∷ codes "append" ∷ codes "argv" ∷ codes "as_integer_ratio" ∷ codes "ascii" ∷ codes "assert_never" ∷ codes "bin" ∷
    codes "bit_count" ∷ codes "bit_length" ∷ codes "breakpoint" ∷ codes "bytearray" ∷ codes "callable" ∷ codes "capitalize" ∷
    codes "casefold" ∷ codes "cast" ∷ codes "center" ∷ codes "chr" ∷ codes "classmethod" ∷ codes "clear" ∷ codes "close" ∷
    codes "collections" ∷ codes "collections.abc" ∷ codes "compile" ∷ codes "conjugate" ∷ codes "copy" ∷ codes "copyright" ∷ codes "count" ∷
    codes "credits" ∷ codes "decode" ∷ codes "delattr" ∷ codes "denominator" ∷ codes "difference" ∷ codes "difference_update" ∷
    codes "dir" ∷ codes "discard" ∷ codes "divmod" ∷ codes "encode" ∷ codes "endswith" ∷ codes "enum" ∷ codes "enumerate" ∷ codes "eval" ∷
    codes "exec" ∷ codes "exit" ∷ codes "expandtabs" ∷ codes "extend" ∷ codes "filter" ∷ codes "final" ∷ codes "find" ∷ codes "format" ∷
    codes "format_map" ∷ codes "from_bytes" ∷ codes "fromhex" ∷ codes "fromkeys" ∷ codes "frozenset" ∷ codes "get" ∷ codes "getattr" ∷
    codes "globals" ∷ codes "hasattr" ∷ codes "hash" ∷ codes "help" ∷ codes "hex" ∷ codes "id" ∷ codes "imag" ∷ codes "index" ∷
    codes "input" ∷ codes "insert" ∷ codes "intersection" ∷ codes "intersection_update" ∷ codes "is_integer" ∷ codes "isalnum" ∷
    codes "isalpha" ∷ codes "isascii" ∷ codes "isdecimal" ∷ codes "isdigit" ∷ codes "isdisjoint" ∷ codes "isidentifier" ∷
    codes "isinstance" ∷ codes "islower" ∷ codes "isnumeric" ∷ codes "isprintable" ∷ codes "isspace" ∷ codes "issubclass" ∷
    codes "issubset" ∷ codes "issuperset" ∷ codes "istitle" ∷ codes "isupper" ∷ codes "items" ∷ codes "iter" ∷ codes "join" ∷ codes "keys" ∷
    codes "len" ∷ codes "license" ∷ codes "ljust" ∷ codes "locals" ∷ codes "lower" ∷ codes "lstrip" ∷ codes "maketrans" ∷ codes "map" ∷
    codes "max" ∷ codes "memoryview" ∷ codes "min" ∷ codes "name" ∷ codes "next" ∷ codes "numerator" ∷ codes "oct" ∷ codes "open" ∷
    codes "ord" ∷ codes "override" ∷ codes "partition" ∷ codes "pop" ∷ codes "popitem" ∷ codes "pow" ∷ codes "print" ∷ codes "property" ∷
    codes "quit" ∷ codes "read" ∷ codes "readline" ∷ codes "readlines" ∷ codes "real" ∷ codes "remove" ∷ codes "removeprefix" ∷
    codes "removesuffix" ∷ codes "replace" ∷ codes "repr" ∷ codes "reveal_type" ∷ codes "reverse" ∷ codes "reversed" ∷ codes "rfind" ∷
    codes "rindex" ∷ codes "rjust" ∷ codes "round" ∷ codes "rpartition" ∷ codes "rsplit" ∷ codes "rstrip" ∷ codes "setattr" ∷
    codes "setdefault" ∷ codes "setter" ∷ codes "slice" ∷ codes "sort" ∷ codes "sorted" ∷ codes "split" ∷ codes "splitlines" ∷
    codes "startswith" ∷ codes "staticmethod" ∷ codes "strip" ∷ codes "sum" ∷ codes "super" ∷ codes "swapcase" ∷
    codes "symmetric_difference" ∷ codes "symmetric_difference_update" ∷ codes "sys" ∷ codes "title" ∷ codes "to_bytes" ∷
    codes "translate" ∷ codes "typing" ∷ codes "typing_extensions" ∷ codes "union" ∷ codes "update" ∷ codes "upper" ∷ codes "value" ∷
    codes "values" ∷ codes "vars" ∷ codes "write" ∷ codes "zfill" ∷ codes "zip" ∷ []

-- THE NAMES OF THE LANGUAGE, by number
unfoldable pub language_names : List (List ℕ)
language_names = class_names ++ other_names

-- THE NAMES THAT EVERY MODULE SEES without binding them, in the order of their bytes
unfoldable pub builtin_names : List (List ℕ)
builtin_names =
    codes "ArithmeticError" ∷ codes "AssertionError" ∷ codes "AttributeError" ∷ codes "BaseException" ∷ codes "BaseExceptionGroup" ∷
    codes "BlockingIOError" ∷ codes "BrokenPipeError" ∷ codes "BufferError" ∷ codes "BytesWarning" ∷ codes "ChildProcessError" ∷
    codes "ConnectionAbortedError" ∷ codes "ConnectionError" ∷ codes "ConnectionRefusedError" ∷ codes "ConnectionResetError" ∷
    codes "DeprecationWarning" ∷ codes "EOFError" ∷ codes "Ellipsis" ∷ codes "EncodingWarning" ∷ codes "EnvironmentError" ∷
    codes "Exception" ∷ codes "ExceptionGroup" ∷ codes "FileExistsError" ∷ codes "FileNotFoundError" ∷ codes "FloatingPointError" ∷
    codes "FutureWarning" ∷ codes "GeneratorExit" ∷ codes "IOError" ∷ codes "ImportError" ∷ codes "ImportWarning" ∷
    codes "IndentationError" ∷ codes "IndexError" ∷ codes "InterruptedError" ∷ codes "IsADirectoryError" ∷ codes "KeyError" ∷
    codes "KeyboardInterrupt" ∷ codes "LookupError" ∷ codes "MemoryError" ∷ codes "ModuleNotFoundError" ∷ codes "NameError" ∷
    codes "NotADirectoryError" ∷ codes "NotImplemented" ∷ codes "NotImplementedError" ∷ codes "OSError" ∷ codes "OverflowError" ∷
    codes "PendingDeprecationWarning" ∷ codes "PermissionError" ∷ codes "ProcessLookupError" ∷ codes "RecursionError" ∷
    codes "ReferenceError" ∷ codes "ResourceWarning" ∷ codes "RuntimeError" ∷ codes "RuntimeWarning" ∷ codes "StopAsyncIteration" ∷
    codes "StopIteration" ∷ codes "SyntaxError" ∷ codes "SyntaxWarning" ∷ codes "SystemError" ∷ codes "SystemExit" ∷ codes "TabError" ∷
    codes "TimeoutError" ∷ codes "TypeError" ∷ codes "UnboundLocalError" ∷ codes "UnicodeDecodeError" ∷ codes "UnicodeEncodeError" ∷
    codes "UnicodeError" ∷ codes "UnicodeTranslateError" ∷ codes "UnicodeWarning" ∷ codes "UserWarning" ∷ codes "ValueError" ∷
    codes "Warning" ∷ codes "ZeroDivisionError" ∷ codes "__build_class__" ∷ codes "__debug__" ∷ codes "__doc__" ∷ codes "__file__" ∷
    codes "__import__" ∷ codes "__loader__" ∷ codes "__name__" ∷ codes "__package__" ∷ codes "__spec__" ∷ codes "abs" ∷ codes "aiter" ∷
    codes "all" ∷ codes "anext" ∷ codes "any" ∷ codes "ascii" ∷ codes "bin" ∷ codes "bool" ∷ codes "breakpoint" ∷ codes "bytearray" ∷
    codes "bytes" ∷ codes "callable" ∷ codes "chr" ∷ codes "classmethod" ∷ codes "compile" ∷ codes "complex" ∷ codes "copyright" ∷
    codes "credits" ∷ codes "delattr" ∷ codes "dict" ∷ codes "dir" ∷ codes "divmod" ∷ codes "enumerate" ∷ codes "eval" ∷ codes "exec" ∷
    codes "exit" ∷ codes "filter" ∷ codes "float" ∷ codes "format" ∷ codes "frozenset" ∷ codes "getattr" ∷ codes "globals" ∷
    codes "hasattr" ∷ codes "hash" ∷ codes "help" ∷ codes "hex" ∷ codes "id" ∷ codes "input" ∷ codes "int" ∷ codes "isinstance" ∷
    codes "issubclass" ∷ codes "iter" ∷ codes "len" ∷ codes "license" ∷ codes "list" ∷ codes "locals" ∷ codes "map" ∷ codes "max" ∷
    codes "memoryview" ∷ codes "min" ∷ codes "next" ∷ codes "object" ∷ codes "oct" ∷ codes "open" ∷ codes "ord" ∷ codes "pow" ∷
    codes "print" ∷ codes "property" ∷ codes "quit" ∷ codes "range" ∷ codes "repr" ∷ codes "reveal_type" ∷ codes "reversed" ∷
    codes "round" ∷ codes "set" ∷ codes "setattr" ∷ codes "slice" ∷ codes "sorted" ∷ codes "staticmethod" ∷ codes "str" ∷ codes "sum" ∷
    codes "super" ∷ codes "tuple" ∷ codes "type" ∷ codes "vars" ∷ codes "zip" ∷ []
