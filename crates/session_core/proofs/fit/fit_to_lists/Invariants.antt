use Rattle.std.proofs.Common.{◌≡◌, drop, filter_map}
use Rattle.std.specs.List.{find}
use Rattle.session_core.specs.Jobs.{list_job, has_number}
use Rattle.session_core.proofs.fit.fit_to_lists.Given as goal

abbrev pub invariant-loop-place : goal.invariant-loop-place
invariant-loop-place g l = find (has_number l.done.number) (filter_map list_job l.files.entries) ≡ find (has_number l.done.number) (filter_map list_job (drop l.place l.files.entries))
