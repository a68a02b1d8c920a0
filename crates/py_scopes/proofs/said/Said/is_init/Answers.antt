use Rattle.std.proofs.Common.{ap, ◌∙◌}
use Rattle.py_scopes.specs.Owner.{is_said}
use Rattle.py_scopes.specs.Members.{is_of_init}
use Rattle.py_scopes.proofs.said.Said.is_init.Goals as goal

pub returns : goal.returns
returns c = c.contains.ensures ∙ c.self.invariant.3 (record { scope = c.args.scope; name = c.args.name }) ∙ ap (λ a. is_said is_of_init a c.args.scope c.args.name) c.self.view_is
