use Rattle.std.proofs.Common.{refl}
use Rattle.std.proofs.lemmas.List.{drop-drop}
use Rattle.class_rows.proofs.remainder.Remainder.take_head.Goals as goal

pub returns : goal.returns
returns c = rw (← c.self.view_is, drop-drop) refl
