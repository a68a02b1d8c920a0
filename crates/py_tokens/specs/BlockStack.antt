-- How blocks are read: by a stack of the columns of those that are open, the innermost first; the module's, at column 0, is not in
-- it. Which blocks are open stands in Blocks.antt.
-- Python 3.12 language reference, 2.1.8 "Indentation".
use Rattle.std.specs.Prelude.{ℕ, ◌&&◌, List, [], ◌∷◌, ◌++◌, length, filter_map, Option, Some, None, if◌then◌else◌, nat_lt}
use Rattle.py_tokens.specs.Lines.{blamed, line_of, with_all, groups}
use Rattle.py_tokens.specs.declared.kinds.TokenFault.{TokenFault}
use Rattle.py_tokens.specs.declared.kinds.TokenFault.TheVariants.{BadDedent, NestingLimit}
use Rattle.py_tokens.specs.declared.lines.Placed.{Placed}
use Rattle.py_tokens.specs.declared.lines.LogicalLine.{LogicalLine}

abbrev pub innermost : List ℕ → ℕ
innermost [] = 0
innermost (b ∷ bs) = b

-- the blocks that do not stand to the right of the column
abbrev pub dedent : List ℕ → ℕ → List ℕ
dedent [] column = []
dedent (b ∷ bs) column = if nat_lt column b then dedent bs column else b ∷ bs

-- behind a line at this column: a line to the left of its block closes blocks, one to the right opens one
abbrev pub blocks_after : List ℕ → ℕ → List ℕ
blocks_after bs column =
    if nat_lt column (innermost bs) then dedent bs column
    else (if nat_lt (innermost bs) column then column ∷ bs
    else bs)

abbrev pub depth_fault : List ℕ → Option TokenFault
depth_fault bs = if nat_lt 64 (length bs) then Some NestingLimit else None

abbrev pub stack_fault : List ℕ → ℕ → Option TokenFault
stack_fault bs column =
    if nat_lt column (innermost bs) && nat_lt (innermost (dedent bs column)) column then Some BadDedent
    else depth_fault (blocks_after bs column)

-- the lines with their faults, in the blocks of the stack
abbrev pub mark_in : List ℕ → List LogicalLine → List LogicalLine
mark_in bs [] = []
mark_in bs (line ∷ lines) = blamed line (stack_fault bs line.column) ∷ mark_in (blocks_after bs line.column) lines

-- the lines that are done, and those of the line that is not done and the pieces behind it
abbrev pub told : List ℕ → List LogicalLine → List ℕ → ℕ → List Placed → ℕ → List Placed → List LogicalLine
told text done blocks start line at xs = done ++ mark_in blocks (filter_map (line_of text) (with_all start line (groups at xs)))
