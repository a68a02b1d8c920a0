use Rattle.std.proofs.Common.{◌∙◌, true}
use Rattle.py_grammar.proofs.KnownLemmas.{found_words}
use Rattle.py_grammar.proofs.word.first_of_words.Goals as goal

pub returns : goal.returns
returns c = c.token_of.ensures ∙ rw c.first_item.ensures (found_words (λ _. true) c.args.items.now)
