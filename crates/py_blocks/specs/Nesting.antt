-- The lines of a text as the nesting has them: those that stand, and error lines in the place of faulty ones (Python 3.12 language reference,
-- sections 2.1.8, 7 and 8).
use Rattle.std.specs.Prelude.{Option, Some, None}
use Rattle.py_base.specs.declared.node.NodeKind.{NodeKind}
use Rattle.py_base.specs.declared.node.NodeKind.TheVariants as nodes
use Rattle.py_blocks.specs.declared.line.LineKind.{LineKind}
use Rattle.py_blocks.specs.declared.line.LineKind.TheVariants as kinds

-- what a line is by the kind of its header
abbrev pub kind_read : NodeKind → LineKind
kind_read nodes.If = kinds.If
kind_read nodes.Elif = kinds.Elif
kind_read nodes.Else = kinds.Else
kind_read nodes.While = kinds.Loop
kind_read nodes.For = kinds.Loop
kind_read nodes.Try = kinds.Try
kind_read nodes.Except = kinds.Except
kind_read nodes.ExceptStar = kinds.ExceptStar
kind_read nodes.Finally = kinds.Finally
kind_read nodes.Match = kinds.Match
kind_read nodes.Case = kinds.Case
kind_read nodes.Def = kinds.Def
kind_read nodes.Class = kinds.Class
kind_read nodes.Decorator = kinds.Decorator
kind_read k = kinds.Plain

abbrev pub line_kind : Option NodeKind → LineKind
line_kind None = kinds.Faulty
line_kind (Some k) = kind_read k
