use Rattle.std.proofs.Common.{ap, ◌∙◌}
use Rattle.py_scopes.specs.Owner.{is_binding, is_said}
use Rattle.py_scopes.proofs.said.Said.is_bound.Goals as goal

pub returns : goal.returns
returns c = c.contains.ensures ∙ c.self.invariant.0 (record { scope = c.args.scope; name = c.args.name }) ∙ ap (λ a. is_said is_binding a c.args.scope c.args.name) c.self.view_is
