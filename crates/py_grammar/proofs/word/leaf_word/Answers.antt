use Rattle.py_grammar.proofs.KnownLemmas.{Extends-refl, Extends-same, Extends-name, leaf_said}
use Rattle.py_grammar.proofs.word.leaf_word.Goals as goal

pub returns-in_err-id-clause-older : goal.returns-in_err-id-clause-older
returns-in_err-id-clause-older c = Extends-same _ _ c.requires c.in_err-id.ensures.err

pub returns-in_ok-id-clause-older : goal.returns-in_ok-id-clause-older
returns-in_ok-id-clause-older c = Extends-name _ _ _ c.requires c.in_ok-id.ensures.ok

pub returns-in_ok-id-clause-said : goal.returns-in_ok-id-clause-said
returns-in_ok-id-clause-said c = leaf_said c.intern.new.tree _ c.in_ok-id.id c.args.kind c.args.token.now c.if-is_name.ensures c.as_str.ensures c.in_ok-id.ensures.stored

pub returns-else-is_name-clause-older : goal.returns-else-is_name-clause-older
returns-else-is_name-clause-older c = Extends-refl _ c.requires
