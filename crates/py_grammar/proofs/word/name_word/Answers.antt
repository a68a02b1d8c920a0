use Rattle.py_grammar.proofs.KnownLemmas.{Extends-refl, Extends-same, Extends-name, name_said}
use Rattle.py_grammar.proofs.word.name_word.Goals as goal

pub returns-in_err-id-in-Some-clause-older : goal.returns-in_err-id-in-Some-clause-older
returns-in_err-id-in-Some-clause-older c = Extends-same _ _ c.requires c.in_err-id-in-Some.ensures.err

pub returns-in-None-clause-older : goal.returns-in-None-clause-older
returns-in-None-clause-older c = Extends-refl _ c.requires

pub returns-in_ok-id-in-Some-clause-older : goal.returns-in_ok-id-in-Some-clause-older
returns-in_ok-id-in-Some-clause-older c = Extends-name _ _ _ c.requires c.in_ok-id-in-Some.ensures.ok

pub returns-in_ok-id-in-Some-clause-said : goal.returns-in_ok-id-in-Some-clause-said
returns-in_ok-id-in-Some-clause-said c = name_said c.intern.new.tree _ _ _ c.in-Some.token.now c.in-Some.ensures c.as_str.ensures c.in_ok-id-in-Some.ensures.stored
