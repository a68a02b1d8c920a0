use Rattle.std.proofs.Common.{refl}
use Rattle.std.specs.Prelude.{string_bytes}
use Rattle.std.proofs.lemmas.List.{take-map}
use Rattle.py_base.proofs.tree.Tree.shrink.Goals as goal

pub returns : goal.returns
returns c = rw (← c.self.view_is, c.truncate-2.ensures.keys, c.truncate.ensures.items, take-map string_bytes c.args.names c.self.inside.names.keys) refl
