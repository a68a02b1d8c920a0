-- In whose blocks lines stand, by their columns as they are written (Python 3.12 language reference, 2.1.8, "Indentation").
use Rattle.std.specs.Prelude.{ℕ, nat_lt, nat_le, Bool, true, false, not, ◌&&◌, ◌||◌, Option, Some, None, List, slice_index_or}
use Rattle.py_base.specs.declared.node.NodeKind.{NodeKind}
use Rattle.py_base.specs.declared.node.NodeKind.TheVariants as kinds
use Rattle.py_blocks.specs.declared.facts.LineFacts.{LineFacts}
use Rattle.py_blocks.specs.declared.sort.Sort.{Sort}
use Rattle.py_blocks.specs.declared.sort.Sort.TheVariants as sorts
use Rattle.py_blocks.specs.Facts.{facts_without}
use Rattle.py_blocks.specs.Search.{some_below, each_below}

-- ---- sorts of headers

abbrev pub is_def : NodeKind → Bool
is_def kinds.Def = true
is_def k = false

abbrev pub is_scope : NodeKind → Bool
is_scope kinds.Def = true
is_scope kinds.Class = true
is_scope k = false

abbrev pub is_of : Sort → NodeKind → Bool
is_of sorts.Def k = is_def k
is_of sorts.Scope k = is_scope k

-- ---- lines

-- what stands before the first line and behind the last
abbrev pub no_line : LineFacts
no_line = facts_without 0 None

abbrev pub line_at : List LineFacts → ℕ → LineFacts
line_at lines i = slice_index_or lines i no_line

abbrev pub column_at : List LineFacts → ℕ → ℕ
column_at lines i = (line_at lines i).column

abbrev pub is_kind_of : Option NodeKind → Sort → Bool
is_kind_of None s = false
is_kind_of (Some k) s = is_of s k

abbrev pub is_a : List LineFacts → ℕ → Sort → Bool
is_a lines i s = is_kind_of (line_at lines i).kind s

-- ---- where lines stand, by their columns

-- the line k isn't behind the line j, or it stands to the right of it
abbrev pub stays_right_of : List LineFacts → ℕ → ℕ → Bool
stays_right_of lines j k = nat_le k j || nat_lt (column_at lines j) (column_at lines k)

-- the line i stands in the block of the line j, at whatever depth: all lines behind j up to i stand to the right of j
abbrev pub encloses : List LineFacts → ℕ → ℕ → Bool
encloses lines j i = nat_lt j i && stays_right_of lines j i && each_below i (stays_right_of lines j)

-- it stands in the block of the line j, which is of this sort
abbrev pub encloses_as : List LineFacts → Sort → ℕ → ℕ → Bool
encloses_as lines s j i = is_a lines j s && encloses lines j i

-- behind the line j, a line of this sort has the line i in its block
abbrev pub lies_between : List LineFacts → Sort → ℕ → ℕ → Bool
lies_between lines s j i = some_below i (λ k. nat_lt j k && encloses_as lines s k i)

-- of the lines of this sort in whose blocks the line i stands, the line j is the innermost
abbrev pub is_innermost : List LineFacts → Sort → ℕ → ℕ → Bool
is_innermost lines s j i = encloses_as lines s j i && not (lies_between lines s j i)
