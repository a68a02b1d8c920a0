use Rattle.std.proofs.Common.{sym, length}
use Rattle.py_grammar.proofs.KnownLemmas.{Extends-refl}
use Rattle.py_grammar.proofs.word.word_for.Goals as goal

pub returns-in_ok-word-clause-older : goal.returns-in_ok-word-clause-older
returns-in_ok-word-clause-older c = Extends-refl _ c.requires

pub returns-in_ok-word-clause-said : goal.returns-in_ok-word-clause-said
returns-in_ok-word-clause-said c = (rw (sym c.if-is_named_form.ensures) (c.in_ok-word.ensures.said c.args.tree.now.names), c.in_ok-word.ensures.named (length c.args.tree.now.names))

pub returns-in_err-word-clause-older : goal.returns-in_err-word-clause-older
returns-in_err-word-clause-older c = Extends-refl _ c.requires
