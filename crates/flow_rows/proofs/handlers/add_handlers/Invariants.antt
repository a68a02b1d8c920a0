use Rattle.std.proofs.Common.{◌≡◌, ◌++◌, drop}
use Rattle.flow_rows.specs.Statements.{handler_arrows}
use Rattle.flow_rows.proofs.handlers.add_handlers.Given as goal

abbrev pub invariant-loop-handler : goal.invariant-loop-handler
invariant-loop-handler l = l.arrows ++ handler_arrows l.ends l.node l.copy l.points (drop l.handler-index l.handlers) ≡ l.initial.arrows ++ handler_arrows l.ends l.node l.copy l.points l.handlers
