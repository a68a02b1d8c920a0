use Rattle.std.proofs.Common.{ap, ◌∙◌}
use Rattle.py_scopes.specs.Members.{class_of}
use Rattle.py_scopes.proofs.members.Instances.class_of.Goals as goal

pub returns : goal.returns
returns c = c.copied.ensures ∙ c.get.ensures.value ∙ c.self.invariant c.args.symbol ∙ ap (λ a. class_of a c.args.symbol) c.self.view_is
