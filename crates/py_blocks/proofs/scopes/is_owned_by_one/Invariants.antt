use Rattle.std.proofs.Common.{◌≡◌, false, take}
use Rattle.std.specs.List.{list_any}
use Rattle.py_blocks.specs.NameSets.{owns_open}
use Rattle.py_blocks.proofs.scopes.is_owned_by_one.Given as goal

abbrev pub invariant-loop-def : goal.invariant-loop-def
invariant-loop-def l = list_any (λ d. owns_open l.lines l.scope l.name l.at d) (take l.def-index l.blocks) ≡ false
