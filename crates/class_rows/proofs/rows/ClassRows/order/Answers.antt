use Rattle.std.proofs.Common.{◌≡◌, List, length, subst, sym, arith}
use Rattle.std.proofs.lemmas.Grind.{common_steps}
use Rattle.py_base.specs.declared.ids.ClassId.{ClassId}
use Rattle.class_rows.specs.Rows.{ClassRow, order_of}
use Rattle.class_rows.specs.Table.{IsSound, IsTable}
use Rattle.class_rows.proofs.rows.ClassRows.order.Goals as goal

pub returns-clause-sound : goal.returns-clause-sound
returns-clause-sound c =
    let rows = c.args.self.now in
    let T : List ClassRow → Type 0 = IsTable in
    let table = subst T c.self.view_is c.self.invariant in
    let P : List ClassId → Type 0 = IsSound (length rows) c.args.class in
    let same : c.order.result.now ≡ order_of rows c.args.class = grind (arith, common_steps) in
    subst P (sym same) (table c.args.class c.requires)
