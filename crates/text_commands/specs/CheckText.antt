-- What the command `check` writes: a line for each diagnostic, with its line and column, counted from 1, its rule and its text. It is the
-- form of the GNU Coding Standards, "Formatting Error Messages", `LINE:COLUMN: MESSAGE`, without the name of a file.
use Rattle.std.specs.Prelude.{◌+◌, ℕ, List, [], ◌∷◌, ◌++◌, flat_map, codes, unwrap_or, slice_get}
use Rattle.std.specs.Fmt.{decimal}
use Rattle.py_base.specs.declared.diag.Diag.{Diag}
use Rattle.py_base.specs.RuleName.{rule_name}

-- a place's line, or its column, counted from 1
abbrev pub from_one : List ℕ → ℕ → List ℕ
from_one at i = decimal (unwrap_or (slice_get at i) 0 + 1)

-- LINE:COLUMN: RULE: TEXT
abbrev pub diag_line : Diag → List ℕ
diag_line diag = from_one diag.at 0 ++ codes ":" ++ from_one diag.at 1 ++ codes ": " ++ rule_name diag.rule ++ codes ": " ++ diag.text ++ 10 ∷ []

abbrev pub check_text : List Diag → List ℕ
check_text list = flat_map diag_line list
