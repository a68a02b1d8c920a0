use Rattle.std.proofs.Common.{◌∙◌}
use Rattle.py_grammar.proofs.KnownLemmas.{Extends-trans, AreKnown-later, assembled_is, named-later}
use Rattle.py_grammar.specs.Found.{item_ids, found_ids}
use Rattle.py_grammar.proofs.KeepsLemmas.{assembled-keeps}
use Rattle.py_grammar.specs.Meaning.{takes_name}
use Rattle.py_grammar.proofs.AddedLemmas.{assembled-adds}
use Rattle.py_grammar.proofs.assemble.add_form.Goals as goal

pub kept_parts-requires-clause-linked : goal.kept_parts-requires-clause-linked
kept_parts-requires-clause-linked c = c.word_for.ensures.older.linked

pub kept_parts-requires-clause-known : goal.kept_parts-requires-clause-known
kept_parts-requires-clause-known c = AreKnown-later _ _ c.args.items.now c.requires.linked c.word_for.ensures.older c.requires.known

pub returns-in_err-parts-clause-older : goal.returns-in_err-parts-clause-older
returns-in_err-parts-clause-older c = Extends-trans _ _ _ c.word_for.ensures.older c.kept_parts.ensures.older

pub add_node-requires-clause-linked : goal.add_node-requires-clause-linked
add_node-requires-clause-linked c = c.kept_parts.ensures.older.linked

pub add_node-requires-clause-known : goal.add_node-requires-clause-known
add_node-requires-clause-known c = rw c.as_slice.ensures c.in_ok-parts.ensures.kept.0

pub add_node-requires-clause-named : goal.add_node-requires-clause-named
add_node-requires-clause-named c = named-later _ _ _ c.kept_parts.ensures.older c.in_ok-word.ensures.said.1

pub returns-in_err-found-clause-older : goal.returns-in_err-found-clause-older
returns-in_err-found-clause-older c = Extends-trans _ _ _ (Extends-trans _ _ _ c.word_for.ensures.older c.kept_parts.ensures.older) c.add_node.ensures.older

pub returns-clause-older : goal.returns-clause-older
returns-clause-older c = Extends-trans _ _ _ (Extends-trans _ _ _ c.word_for.ensures.older c.kept_parts.ensures.older) c.add_node.ensures.older

pub returns-clause-node : goal.returns-clause-node
returns-clause-node c =
    let node = rw c.as_slice.ensures at c.in_ok-found.ensures.node in
    (node.0, node.1, node.2 ∙ assembled_is c.args.tree.now c.word_for.new.tree c.kept_parts.new.tree c.args.form c.args.items.now c.in_ok-word.word c.in_ok-parts.parts c.kind_of-kind.result c.span_over-span.result c.requires.linked c.word_for.ensures.older c.kept_parts.ensures.older c.requires.known c.in_ok-word.ensures.said.0 c.in_ok-word.ensures.said.1 c.in_ok-parts.ensures.kept.1 c.kind_of-kind.ensures c.span_over-span.ensures)

pub returns-clause-keeps : goal.returns-clause-keeps
returns-clause-keeps c =
    let keeps = rw c.as_slice.ensures at c.in_ok-found.ensures.keeps in
    assembled-keeps c.args.tree.now c.word_for.new.tree c.kept_parts.new.tree c.add_node.new.tree (item_ids c.args.items.now) (found_ids c.in_ok-parts.parts) c.in_ok-found.found.id c.in_ok-word.ensures.same c.kept_parts.ensures.older c.in_ok-parts.ensures.keeps keeps.0 keeps.1

pub returns-clause-grows : goal.returns-clause-grows
returns-clause-grows c =
    assembled-adds (takes_name c.args.form) c.args.tree.now c.word_for.new.tree c.kept_parts.new.tree c.add_node.new.tree _ c.in_ok-word.ensures.grows c.in_ok-parts.ensures.grows c.in_ok-found.ensures.grows
