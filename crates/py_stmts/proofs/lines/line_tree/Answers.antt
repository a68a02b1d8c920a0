use Rattle.std.proofs.Common.{◌≡◌}
use Rattle.py_base.specs.Tree.{tree_of}
use Rattle.py_stmts.proofs.LineLemmas.{by_keyword-only, plainly-found}
use Rattle.py_stmts.proofs.lines.line_tree.Goals as goal

pub returns-in-Some-clause-only : goal.returns-in-Some-clause-only
returns-in-Some-clause-only c =
    let found = rw (c.in-Some.is, c.as_slice-tokens.ensures) at c.in_ok-id.ensures.found in
    let only = rw (c.in-Some.is, c.as_slice-tokens.ensures) at c.in_ok-id.ensures.only in
    by_keyword-only c.args.line.now.tokens (λ t. tree_of c.read_whole.new.tree c.in-Some.id ≡ t) (tree_of c.read_whole.new.tree c.in-Some.id) found.1 only

pub returns-in_ok-found-in-None-clause-found : goal.returns-in_ok-found-in-None-clause-found
returns-in_ok-found-in-None-clause-found c =
    let none = rw (c.in-None.is, c.as_slice-tokens.ensures) at c.in_ok-id.ensures.only in
    let found = rw c.as_slice-tokens.ensures at c.in_ok-found-in-None.ensures.found in
    plainly-found c.args.line.now.tokens _ (λ id. tree_of c.read_whole-in-None.new.tree id) _ none found
