use Rattle.std.proofs.Common.{◌∙◌}
use Rattle.std.proofs.lemmas.Bool.{false≢true}
use Rattle.py_grammar.proofs.Exact.{none_found, one_found, is_tree, rest_found, whole_parts, whole_is}
use Rattle.py_grammar.proofs.KeepsLemmas.{Keeps-tree}
use Rattle.py_grammar.proofs.AddedLemmas.{paid-all}
use Rattle.py_grammar.proofs.reader.whole_from.Goals as goal

pub returns-in_default-clause-only : goal.returns-in_default-clause-only
returns-in_default-clause-only c = none_found c.args.need c.args.tokens.now (rw c.in_default.is at c.in_ok-found.ensures.read)

pub returns-then-is_whole-clause-found : goal.returns-then-is_whole-clause-found
returns-then-is_whole-clause-found c =
    let found = rw c.in-Some.is at c.in_ok-found.ensures.read in
    let all = whole_parts _ _ _ c.if-is_whole.ensures in
    (found.known.inside, is_tree _ _ _ _ _ found all.0 all.1 all.2)

pub returns-then-is_whole-clause-only : goal.returns-then-is_whole-clause-only
returns-then-is_whole-clause-only c t h =
    let found = rw c.in-Some.is at c.in_ok-found.ensures.read in
    (one_found _ _ _ _ _ found t h).0

pub returns-else-is_whole-clause-only : goal.returns-else-is_whole-clause-only
returns-else-is_whole-clause-only c t h =
    let found = rw c.in-Some.is at c.in_ok-found.ensures.read in
    let all = rest_found _ _ _ _ _ found t h in
    false≢true (c.if-is_whole.ensures ∙ whole_is _ _ _ all.0 all.1 all.2)

pub returns-then-is_whole-clause-once : goal.returns-then-is_whole-clause-once
returns-then-is_whole-clause-once c =
    let keeps = rw c.in-Some.is at c.in_ok-found.ensures.keeps in
    Keeps-tree _ _ _ keeps.0 keeps.1

pub returns-then-is_whole-clause-grows : goal.returns-then-is_whole-clause-grows
returns-then-is_whole-clause-grows c =
    let paid = rw c.in-Some.is at c.in_ok-found.ensures.paid in
    paid-all _ _ _ _ paid
