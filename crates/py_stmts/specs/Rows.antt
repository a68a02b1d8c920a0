-- The lines of a text with their trees as nodes of an arena (Python 3.12 language reference, section 2.1, "Line structure").
use Rattle.std.specs.Prelude.{ℕ, Option, List, map, option_map, filter_map}
use Rattle.py_base.specs.declared.ids.NodeId.{NodeId}
use Rattle.py_blocks.specs.declared.fault.BlockLine.{BlockLine}
use Rattle.py_modules.specs.declared.line.ModuleLine.{ModuleLine}

abbrev pub at_node : ℕ → NodeId → ModuleLine
at_node column id = record { column = column; tree = id }

-- a line that has a tree
abbrev pub module_line : BlockLine → Option ModuleLine
module_line line = option_map (at_node line.column) line.tree

abbrev pub lines_with_trees : List BlockLine → List ModuleLine
lines_with_trees lines = filter_map module_line lines

-- the nodes of the trees
abbrev pub roots : List BlockLine → List NodeId
roots lines = map (λ line. line.tree) (lines_with_trees lines)
