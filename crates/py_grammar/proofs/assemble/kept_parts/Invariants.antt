use Rattle.std.proofs.Common.{◌≡◌, ◌++◌, length, drop}
use Rattle.py_grammar.specs.Meaning.{kept, takes_name}
use Rattle.py_grammar.specs.Found.{Extends, AllKnown, trees_at, pieces_at, item_words, item_ids, found_ids, Keeps}
use Rattle.py_grammar.proofs.AddedLemmas.{IsWithin}
use Rattle.py_grammar.proofs.assemble.kept_parts.Given as goal

abbrev pub invariant-items : goal.invariant-items
invariant-items l = Extends l.fn.tree l.tree × AllKnown l.tree l.parts × (trees_at l.tree l.parts ++ kept l.form (pieces_at l.fn.tree (drop l.at l.items)) ≡ kept l.form (pieces_at l.fn.tree l.items)) × Keeps l.fn.tree (item_ids l.items) l.tree (found_ids l.parts ++ item_ids (drop l.at l.items)) × IsWithin (takes_name l.form) l.fn.tree (length (item_words l.items)) l.tree (length (item_words (drop l.at l.items)))
