use Rattle.std.proofs.Common.{◌≡◌, take}
use Rattle.py_base.specs.declared.ids.NameId.{NameId}
use Rattle.class_rows.specs.Rows.{symbol_in}
use Rattle.class_rows.proofs.members.by_name.Given as goal

abbrev pub invariant-loop-name : goal.invariant-loop-name
invariant-loop-name l = (name : NameId) → symbol_in name l.map.entries ≡ symbol_in name (take l.name-index l.members)
