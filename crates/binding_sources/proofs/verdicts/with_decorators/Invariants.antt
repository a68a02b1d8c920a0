use Rattle.std.proofs.Common.{◌≡◌, take, map, fold}
use Rattle.binding_sources.specs.Verdicts.{decorator_of}
use Rattle.binding_sources.specs.Joining.{with_below}
use Rattle.binding_sources.proofs.verdicts.with_decorators.Given as goal

abbrev pub invariant-loop-decorator : goal.invariant-loop-decorator
invariant-loop-decorator l = l.decoration ≡ fold with_below l.fn.above (map (decorator_of l.names.arena l.names.table) (take l.decorator-index l.decorators))
