-- The lines without faulty ones by one pass over the text (this project's own; the body is proved over it, and what it gives is `Settles`).
use Rattle.std.specs.Prelude.{ℕ, nat_lt, Bool, false, Option, Some, None, List, [], ◌∷◌, if◌then◌else◌}
use Rattle.py_blocks.specs.declared.line.Line.{Line}
use Rattle.py_blocks.specs.Lines.{block_column, error_line, behind_error}
use Rattle.py_blocks.specs.Rules.{is_decorator, is_faulty}
use Rattle.py_blocks.specs.Settling.{onto}

-- the decorators directly before an error line decorate nothing
abbrev pub undecorated : List Line → List Line
undecorated [] = []
undecorated (y ∷ ys) = if is_decorator y.kind then error_line ys y ∷ undecorated ys else y ∷ ys

-- the last error line, where nothing stands behind it yet, takes in the line
abbrev pub is_taken : Option ℕ → Line → Bool
is_taken None y = false
is_taken (Some column) y = nat_lt column y.column

abbrev pub lines_behind : Option ℕ → List Line → List Line
lines_behind None ys = ys
lines_behind (Some column) ys = behind_error column ys

abbrev pub settled_from : List Line → Option ℕ → List Line → List Line
settled_from before taken [] = onto before []
settled_from before taken (y ∷ ys) =
    if is_taken taken y then settled_from before taken ys
    else (if is_faulty before y ys then settled_from (error_line before y ∷ undecorated before) (Some (block_column before y)) ys
    else settled_from (y ∷ before) None ys)
