use Rattle.py_grammar.proofs.Exact.{one_spelling}
use Rattle.py_grammar.proofs.laws.one_reading.Goals as goal

pub returns : goal.returns
returns c = one_spelling
