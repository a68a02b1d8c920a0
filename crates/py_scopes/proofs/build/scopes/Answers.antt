use Rattle.std.proofs.Common.{◌≡◌, ◌∙◌, sym, subst, ap, length, arith}
use Rattle.std.proofs.lemmas.Result.{IfOk-weaker}
use Rattle.py_scopes.specs.Table.{table_of, IsTable}
use Rattle.py_scopes.specs.Tables.{AreBelow}
use Rattle.py_scopes.proofs.Whole.{is-table, has-owners}
use Rattle.py_scopes.proofs.build.scopes.Goals as goal

pub table_of-requires-clause-all : goal.table_of-requires-clause-all
table_of-requires-clause-all c = c.in_ok-instances.ensures ∙ c.in_ok-found.ensures.all

pub table_of-requires-clause-room : goal.table_of-requires-clause-room
table_of-requires-clause-room c = let count = ap length c.in_ok-instances.ensures in omega (arith, count, c.in_ok-numbers.ensures.room, c.in_ok-found.ensures.room)

pub table_of-requires-clause-below : goal.table_of-requires-clause-below
table_of-requires-clause-below c = subst (AreBelow (length c.args.tree.now.nodes)) (sym c.in_ok-instances.ensures) c.in_ok-found.ensures.below

pub returns-clause-table : goal.returns-clause-table
returns-clause-table c =
    let a = c.args.tree.now in
    let all = c.in_ok-instances.instances in
    let keys = c.in_ok-numbers.numbers.keys in
    IfOk-weaker c.table_of.result (λ t. t ≡ table_of a all keys) (IsTable a) (is-table a all keys (c.in_ok-instances.ensures ∙ c.in_ok-found.ensures.all) c.in_ok-numbers.ensures.symbols) c.table_of.ensures

pub returns-clause-owners : goal.returns-clause-owners
returns-clause-owners c =
    let a = c.args.tree.now in
    let all = c.in_ok-instances.instances in
    let keys = c.in_ok-numbers.numbers.keys in
    IfOk-weaker c.table_of.result (λ t. t ≡ table_of a all keys) (λ t. length t.owners ≡ length a.nodes) (has-owners a all keys) c.table_of.ensures
