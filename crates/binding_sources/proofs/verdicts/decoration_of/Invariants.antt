use Rattle.std.proofs.Common.{◌≡◌, take, map, fold, flat_map}
use Rattle.node_shapes.specs.Definitions.{decorator_in}
use Rattle.binding_sources.specs.Verdicts.{decorator_of}
use Rattle.binding_sources.specs.Joining.{with_below}
use Rattle.binding_sources.proofs.Decorators.{untouched}
use Rattle.binding_sources.proofs.verdicts.decoration_of.Given as goal

abbrev pub invariant-loop-part : goal.invariant-loop-part
invariant-loop-part l = l.decoration ≡ fold with_below untouched (map (decorator_of l.names.arena l.names.table) (flat_map (decorator_in l.names.arena.nodes) (take l.part-index l.parts)))
