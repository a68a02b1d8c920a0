-- What nodes of a kind are, where more than one definition asks it (Python 3.12 language reference, sections 6 to 8; the kinds are this
-- project's own).
use Rattle.std.specs.Prelude.{Bool, true, false}
use Rattle.py_base.specs.declared.node.NodeKind.{NodeKind}
use Rattle.py_base.specs.declared.node.NodeKind.TheVariants as kinds

abbrev pub is_def : NodeKind → Bool
is_def kinds.DefStatement = true
is_def _ = false

abbrev pub is_class : NodeKind → Bool
is_class kinds.ClassStatement = true
is_class _ = false

abbrev pub is_lambda : NodeKind → Bool
is_lambda kinds.Lambda = true
is_lambda _ = false

abbrev pub is_function : NodeKind → Bool
is_function kinds.DefStatement = true
is_function kinds.Lambda = true
is_function _ = false

abbrev pub is_match : NodeKind → Bool
is_match kinds.MatchStatement = true
is_match _ = false

-- the header `case`
abbrev pub is_case : NodeKind → Bool
is_case kinds.Case = true
is_case _ = false

abbrev pub is_async : NodeKind → Bool
is_async kinds.Async = true
is_async _ = false

abbrev pub is_block : NodeKind → Bool
is_block kinds.Block = true
is_block _ = false

abbrev pub is_suite : NodeKind → Bool
is_suite kinds.Suite = true
is_suite _ = false

abbrev pub is_decorator : NodeKind → Bool
is_decorator kinds.Decorator = true
is_decorator _ = false

abbrev pub is_strings : NodeKind → Bool
is_strings kinds.Strings = true
is_strings _ = false

abbrev pub is_yield : NodeKind → Bool
is_yield kinds.Yield = true
is_yield kinds.YieldFrom = true
is_yield _ = false

-- what has clauses
abbrev pub is_compound : NodeKind → Bool
is_compound kinds.IfStatement = true
is_compound kinds.WhileStatement = true
is_compound kinds.ForStatement = true
is_compound kinds.TryStatement = true
is_compound kinds.WithStatement = true
is_compound kinds.DefStatement = true
is_compound kinds.ClassStatement = true
is_compound kinds.MatchStatement = true
is_compound kinds.CaseStatement = true
is_compound _ = false

abbrev pub holds_statements : NodeKind → Bool
holds_statements kinds.Module = true
holds_statements kinds.Block = true
holds_statements kinds.Suite = true
holds_statements kinds.Statements = true
holds_statements _ = false

-- statements side by side and a case are no single statement
abbrev pub is_single : NodeKind → Bool
is_single kinds.Statements = false
is_single kinds.CaseStatement = false
is_single _ = true
