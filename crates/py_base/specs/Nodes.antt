-- What the nodes of an arena are, by number. A number that is no node's stands for a fault without span, word and parts.
use Rattle.std.specs.Prelude.{ℕ, List, [], Option, Some, None, slice_get}
use Rattle.py_base.specs.declared.ids.NodeId.{NodeId}
use Rattle.py_base.specs.declared.ids.NameId.{NameId}
use Rattle.py_base.specs.declared.node.NodeKind.{NodeKind}
use Rattle.py_base.specs.declared.node.NodeKind.TheVariants as kinds
use Rattle.py_base.specs.declared.node.Word.{Word}
use Rattle.py_base.specs.declared.node.Word.TheVariants as words
use Rattle.py_base.specs.declared.node.Node.{Node}
use Rattle.py_base.specs.declared.span.Span.{Span}

abbrev pub kind_or_fault : Option Node → NodeKind
kind_or_fault None = kinds.Fault
kind_or_fault (Some n) = n.kind

abbrev pub span_or_empty : Option Node → Span
span_or_empty None = record { from = 0; to = 0 }
span_or_empty (Some n) = n.span

abbrev pub parts_or_none : Option Node → List NodeId
parts_or_none None = []
parts_or_none (Some n) = n.parts

abbrev pub word_or_nothing : Option Node → Word
word_or_nothing None = words.Nothing
word_or_nothing (Some n) = n.word

abbrev pub kind_at : List Node → NodeId → NodeKind
kind_at nodes id = kind_or_fault (slice_get nodes id.0)

abbrev pub span_at : List Node → NodeId → Span
span_at nodes id = span_or_empty (slice_get nodes id.0)

abbrev pub parts_at : List Node → NodeId → List NodeId
parts_at nodes id = parts_or_none (slice_get nodes id.0)

abbrev pub word_at : List Node → NodeId → Word
word_at nodes id = word_or_nothing (slice_get nodes id.0)

-- the name that a word is
abbrev pub name_word : Word → Option NameId
name_word (words.Name name) = Some name
name_word _ = None

-- the name that the word of a node is
abbrev pub name_of : List Node → NodeId → Option NameId
name_of nodes id = name_word (word_at nodes id)
