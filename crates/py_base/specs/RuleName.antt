-- The name of a rule, as lists print it.
use Rattle.std.specs.Prelude.{List, ℕ, codes}
use Rattle.py_base.specs.declared.diag.Rule.{Rule}
use Rattle.py_base.specs.declared.diag.Rule.TheVariants.{Syntax, Limit, OutsideProfile, RevealType, UndefinedName, Unbound, PossiblyUnbound, Attribute, NoneAttribute, Operator, Subscript, Iteration, Unpack, Call, Arguments, ArgumentType, Assignment, ReturnType, AssertNever, BaseOrder, Annotation}

abbrev pub rule_name : Rule → List ℕ
rule_name Syntax = codes "syntax"
rule_name Limit = codes "limit"
rule_name OutsideProfile = codes "outside-profile"
rule_name RevealType = codes "reveal-type"
rule_name UndefinedName = codes "undefined-name"
rule_name Unbound = codes "unbound"
rule_name PossiblyUnbound = codes "possibly-unbound"
rule_name Attribute = codes "attribute"
rule_name NoneAttribute = codes "none-attribute"
rule_name Operator = codes "operator"
rule_name Subscript = codes "subscript"
rule_name Iteration = codes "iteration"
rule_name Unpack = codes "unpack"
rule_name Call = codes "call"
rule_name Arguments = codes "arguments"
rule_name ArgumentType = codes "argument-type"
rule_name Assignment = codes "assignment"
rule_name ReturnType = codes "return-type"
rule_name AssertNever = codes "assert-never"
rule_name BaseOrder = codes "base-order"
rule_name Annotation = codes "annotation"
