-- The order of diagnostics in a list (this project's own): by place, then by the name of the rule, then by text. Names and texts compare
-- as bytes.
use Rattle.std.specs.declared.cmp.Ordering.{Ordering}
use Rattle.std.specs.Cmp.Lexicographic.{slice_cmp}
use Rattle.std.specs.Ordering.{nat_cmp, on, then_cmp}
use Rattle.py_base.specs.declared.diag.Diag.{Diag}
use Rattle.py_base.specs.RuleName.{rule_name}

abbrev pub diag_cmp : Diag → Diag → Ordering
diag_cmp = then_cmp (on (λ d. d.at) (slice_cmp nat_cmp)) (then_cmp (on (λ d. rule_name d.rule) (slice_cmp nat_cmp)) (on (λ d. d.text) (slice_cmp nat_cmp)))
