use Rattle.std.proofs.Common.{◌≡◌, ◌++◌, drop}
use Rattle.flow_rows.specs.Statements.{handler_kids, watch}
use Rattle.flow_rows.proofs.handlers.add_handler_kids.Given as goal

abbrev pub invariant-loop-handler : goal.invariant-loop-handler
invariant-loop-handler l = record {
  kids : l.kids ++ handler_kids l.ends l.copy l.fn.cleanup (drop l.handler-index l.handlers) ≡ l.initial.kids ++ handler_kids l.ends l.copy l.fn.cleanup l.handlers;
  route : l.route ≡ watch l.ends l.copy l.fn.cleanup;
}
