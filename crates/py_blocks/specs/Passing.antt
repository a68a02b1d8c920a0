-- What is known between two lines of the pass (this project's own; nothing public cites it).
use Rattle.std.specs.Prelude.{◌≡◌, ℕ, true, false, Option, Some, None, List, [], ◌∷◌, if◌then◌else◌}
use Rattle.py_blocks.specs.declared.line.Line.{Line}
use Rattle.py_blocks.specs.Lines.{block_column, error_line}
use Rattle.py_blocks.specs.Rules.{is_decorator, is_faulty}
use Rattle.py_blocks.specs.OnePass.{undecorated}

-- each line stands at the column of its block, and decorators open none
abbrev pub Aligned : List Line → Type 0
Aligned [] = Unit {0}
Aligned (y ∷ ys) = (block_column ys y ≡ y.column) × (is_decorator y.kind ≡ true → y.opens ≡ false) × Aligned ys

-- the lines before and one more, which is faulty or isn't
pub record IsPut (before : List Line) (x : Line) (behind now : List Line) (taken : Option ℕ) : Type 0 where
  pub aligned : Aligned now
  pub lines : now ≡ (if is_faulty before x behind then error_line before x ∷ undecorated before else x ∷ before)
  pub takes : taken ≡ (if is_faulty before x behind then Some (block_column before x) else None)
