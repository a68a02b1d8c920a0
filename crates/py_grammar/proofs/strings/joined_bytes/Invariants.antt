use Rattle.std.proofs.Common.{◌≡◌, Some, drop}
use Rattle.py_tokens.specs.Literals.{append_known}
use Rattle.py_grammar.specs.Meaning.{bytes_in, joined_by}
use Rattle.py_grammar.specs.Found.{item_words}
use Rattle.py_grammar.proofs.strings.joined_bytes.Given as goal

abbrev pub invariant-loop-item : goal.invariant-loop-item
invariant-loop-item l = append_known (Some (l.value.items)) (joined_by bytes_in (item_words (drop l.item-index l.items))) ≡ joined_by bytes_in (item_words l.items)
