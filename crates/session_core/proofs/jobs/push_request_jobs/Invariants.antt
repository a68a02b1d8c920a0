use Rattle.std.proofs.Common.{◌≡◌, ◌++◌, drop, map}
use Rattle.session_core.specs.Jobs.{handed_view, waiting_requests}
use Rattle.session_core.proofs.jobs.push_request_jobs.Given as goal

abbrev pub invariant-loop-request : goal.invariant-loop-request
invariant-loop-request g l = record {
  same : l.files.entries ≡ l.fn.files.entries;
  jobs : map (handed_view g.A.Analyser.text_of) l.jobs ++ waiting_requests l.handed l.back l.fn.files.entries (drop l.request-index l.requests) ≡ map (handed_view g.A.Analyser.text_of) l.fn.jobs ++ waiting_requests l.handed l.back l.fn.files.entries l.requests;
}
