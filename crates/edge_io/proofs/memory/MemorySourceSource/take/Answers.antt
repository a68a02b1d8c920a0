use Rattle.std.proofs.Common.{arith, ap, sym, Some, ◌∙◌, ◌+◌}
use Rattle.std.proofs.lemmas.List.{drop_all}
use Rattle.edge_io.proofs.Streams.{takes_front}
use Rattle.edge_io.proofs.memory.MemorySourceSource.take.Goals as goal

pub returns-clause-bytes : goal.returns-clause-bytes
returns-clause-bytes c =
    ap (λ feed. Some feed.left) (sym c.self.view_is)
    ∙ ap Some (takes_front c.self.inside.bytes.items c.copy_to_front.new.buf c.self.inside.at c.min-count.result (omega arith) (rw c.as_slice.ensures.value at c.copy_to_front.ensures))

pub returns-clause-used_up : goal.returns-clause-used_up
returns-clause-used_up c = λ none. drop_all (c.self.inside.at + c.min-count.result) c.self.inside.bytes.items (omega arith)
