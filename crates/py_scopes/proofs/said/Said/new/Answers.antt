use Rattle.std.proofs.Common.{ap, ◌∙◌}
use Rattle.py_scopes.specs.Owner.{is_binding, is_global_name, is_nonlocal_name}
use Rattle.py_scopes.specs.Members.{is_of_init}
use Rattle.py_scopes.specs.Tables.{names_said}
use Rattle.py_scopes.proofs.Sets.{has-said}
use Rattle.py_scopes.proofs.said.Said.new.Goals as goal

pub invariant_of-result : goal.invariant_of-result
invariant_of-result c =
    let all = c.args.all in
    let e = c.in_ok-names.ensures in (
      has-said is_binding all c.in_ok-names.names.bound.keys (e.bound ∙ ap (names_said is_binding) c.as_slice.ensures),
      has-said is_global_name all c.in_ok-names.names.globals.keys (e.globals ∙ ap (names_said is_global_name) c.as_slice.ensures),
      has-said is_nonlocal_name all c.in_ok-names.names.nonlocals.keys (e.nonlocals ∙ ap (names_said is_nonlocal_name) c.as_slice.ensures),
      has-said is_of_init all c.in_ok-names.names.inits.keys (e.inits ∙ ap (names_said is_of_init) c.as_slice.ensures),
    )
