use Rattle.std.proofs.Common.{ap, ◌∙◌}
use Rattle.py_scopes.specs.Owner.{has_symbol}
use Rattle.py_scopes.proofs.search.Search.has_symbol.Goals as goal

pub returns : goal.returns
returns c = c.contains.ensures ∙ c.self.invariant (record { scope = c.args.scope; name = c.args.name }) ∙ ap (λ a. has_symbol a c.args.scope c.args.name) c.self.view_is
