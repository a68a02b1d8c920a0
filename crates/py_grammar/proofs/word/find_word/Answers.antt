use Rattle.std.proofs.Common.{◌∙◌}
use Rattle.py_grammar.specs.Meaning.{is_word}
use Rattle.py_grammar.proofs.KnownLemmas.{found_words}
use Rattle.py_grammar.proofs.word.find_word.Goals as goal

pub returns : goal.returns
returns c = c.token_of.ensures ∙ rw c.find_item.ensures (found_words (is_word c.args.word) c.args.items.now)
