use Rattle.std.proofs.Common.{◌≡◌, ◌++◌, drop, map}
use Rattle.session_core.specs.Jobs.{handed_view, waiting_lists}
use Rattle.session_core.proofs.jobs.push_list_jobs.Given as goal

abbrev pub invariant-loop-place : goal.invariant-loop-place
invariant-loop-place g l = record {
  same : l.files.entries ≡ l.fn.files.entries;
  jobs : map (handed_view g.A.Analyser.text_of) l.jobs ++ waiting_lists l.handed l.back (drop l.place l.fn.files.entries) ≡ map (handed_view g.A.Analyser.text_of) l.fn.jobs ++ waiting_lists l.handed l.back l.fn.files.entries;
}
