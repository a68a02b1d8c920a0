use Rattle.std.proofs.Common.{◌≡◌, drop}
use Rattle.std.specs.List.{list_all, filter}
use Rattle.assign_rules.specs.Takes.{is_by_place}
use Rattle.assign_rules.proofs.takes.rest_has_defaults.Given as goal

-- what is left to look at decides
abbrev pub invariant-loop-param : goal.invariant-loop-param
invariant-loop-param l =
    list_all (λ p. p.default) (drop l.left (filter (λ p. is_by_place p.kind) (drop l.param-index l.params))) ≡ list_all (λ p. p.default) (drop l.count (filter (λ p. is_by_place p.kind) l.params))
