use Rattle.std.proofs.Common.{map, ap, [], ◌∙◌}
use Rattle.std.specs.Prelude.{string_bytes}
use Rattle.py_base.specs.declared.language_names.TheConstants.{LANGUAGE_NAMES}
use Rattle.py_base.proofs.DistinctNames.{started, names_are_new, names_are_listed}
use Rattle.py_base.proofs.tree.Tree.new.Goals as goal

pub returns : goal.returns
returns c = started _ _ _ (map (λ n. n.now) LANGUAGE_NAMES) c.in_ok-intern_all.ensures (ap (λ keys. map string_bytes keys) c.new.ensures.empty) c.new-2.ensures.items names_are_new ∙ ap (λ names. record { names = names; nodes = [] }) names_are_listed
