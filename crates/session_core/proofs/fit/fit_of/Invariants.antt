use Rattle.std.proofs.Common.{◌≡◌, drop}
use Rattle.std.specs.List.{find}
use Rattle.session_core.specs.Jobs.{has_number, open_jobs_of}
use Rattle.session_core.proofs.fit.fit_of.Given as goal

abbrev pub invariant-loop-request : goal.invariant-loop-request
invariant-loop-request g l = find (has_number l.done.number) (open_jobs_of l.files.entries l.requests) ≡ find (has_number l.done.number) (open_jobs_of l.files.entries (drop l.request-index l.requests))
