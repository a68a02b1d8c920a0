use Rattle.std.proofs.Common.{◌∙◌, ap}
use Rattle.py_grammar.specs.Table.{plain}
use Rattle.py_grammar.specs.Found.{is_part_next}
use Rattle.py_grammar.proofs.KnownLemmas.{Extends-refl, keep_part, keep_leaf}
use Rattle.py_grammar.proofs.KeepsLemmas.{keep_part-keeps, keep_none-keeps, keep_leaf-keeps}
use Rattle.py_grammar.proofs.AddedLemmas.{adds-none, keep_leaf-adds}
use Rattle.py_grammar.proofs.assemble.keep.Goals as goal

pub returns-in_err-push-in-Part-clause-older : goal.returns-in_err-push-in-Part-clause-older
returns-in_err-push-in-Part-clause-older c = Extends-refl _ c.requires.linked

pub returns-in_ok-push-in-Part-clause-older : goal.returns-in_ok-push-in-Part-clause-older
returns-in_ok-push-in-Part-clause-older c = Extends-refl _ c.requires.linked

pub returns-in_ok-push-in-Part-clause-kept : goal.returns-in_ok-push-in-Part-clause-kept
returns-in_ok-push-in-Part-clause-kept c =
    keep_part c.args.tree.now c.args.parts.now c.push.new.self c.args.item.now c.args.form c.in-Part.found (is_part_next c.args.behind.now) c.in-Part.is c.requires.known c.requires.kept c.in_ok-push-in-Part.ensures.ok

pub returns-in-None-clause-older : goal.returns-in-None-clause-older
returns-in-None-clause-older c = Extends-refl _ c.requires.linked

pub returns-in_ok-push-in-Some-clause-kept : goal.returns-in_ok-push-in-Some-clause-kept
returns-in_ok-push-in-Some-clause-kept c =
    keep_leaf c.args.tree.now c.add_leaf.new.tree c.args.parts.now c.push-in-Some.new.self c.args.item.now c.args.form c.in-Word.token c.in-Some.kind c.in_ok-leaf-in-Some.leaf c.plain_of.result (is_part_next c.args.behind.now) c.is_part_first.result c.in-Word.is (c.plain_of.ensures ∙ ap (λ k. plain k) c.terminal_for.ensures) c.is_part_first.ensures c.in-Some.ensures c.requires.linked c.add_leaf.ensures.older c.in_ok-leaf-in-Some.ensures.leaf.0 c.in_ok-leaf-in-Some.ensures.leaf.1 c.requires.kept c.in_ok-push-in-Some.ensures.ok

pub returns-in_ok-push-in-Part-clause-keeps : goal.returns-in_ok-push-in-Part-clause-keeps
returns-in_ok-push-in-Part-clause-keeps c =
    keep_part-keeps c.args.tree.now c.args.parts.now c.push.new.self c.args.item.now c.in-Part.found c.in-Part.is c.in_ok-push-in-Part.ensures.ok

pub returns-in-None-clause-keeps : goal.returns-in-None-clause-keeps
returns-in-None-clause-keeps c = keep_none-keeps c.args.tree.now c.args.parts.now c.args.item.now c.in-Word.token c.in-Word.is

pub returns-in_ok-push-in-Some-clause-keeps : goal.returns-in_ok-push-in-Some-clause-keeps
returns-in_ok-push-in-Some-clause-keeps c =
    keep_leaf-keeps c.args.tree.now c.add_leaf.new.tree c.args.parts.now c.push-in-Some.new.self c.args.item.now c.in-Word.token c.in_ok-leaf-in-Some.leaf c.in-Word.is c.requires.kept c.in_ok-leaf-in-Some.ensures.keeps c.in_ok-push-in-Some.ensures.ok

pub returns-in_ok-push-in-Part-clause-grows : goal.returns-in_ok-push-in-Part-clause-grows
returns-in_ok-push-in-Part-clause-grows c = adds-none _ _ c.args.tree.now

pub returns-in-None-clause-grows : goal.returns-in-None-clause-grows
returns-in-None-clause-grows c = adds-none _ _ c.args.tree.now

pub returns-in_ok-push-in-Some-clause-grows : goal.returns-in_ok-push-in-Some-clause-grows
returns-in_ok-push-in-Some-clause-grows c =
    keep_leaf-adds c.args.form c.args.tree.now c.add_leaf.new.tree c.args.item.now c.in-Word.token c.plain_of.result c.is_part_first.result c.in-Some.kind c.in-Word.is c.in-Some.ensures c.in_ok-leaf-in-Some.ensures.grows
