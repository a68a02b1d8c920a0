use Rattle.std.proofs.Common.{◌∙◌, Some, ap, sym}
use Rattle.std.specs.Str.{bytes_eq}
use Rattle.session_core.proofs.Lists.{set_value_same}
use Rattle.session_core.proofs.jobs.request_job.Goals as goal

pub returns-in_err-doc-clause-same : goal.returns-in_err-doc-clause-same
returns-in_err-doc-clause-same g c = (c.get_mut.follows.holds c.share.new.self).0 ∙ set_value_same (bytes_eq c.as_str.result.now) c.args.files.now.entries c.share.new.self (sym c.in-Some.ensures.value ∙ ap Some (sym c.share.ensures.same))

pub returns-clause-same : goal.returns-clause-same
returns-clause-same g c = (c.get_mut.follows.holds c.share.new.self).0 ∙ set_value_same (bytes_eq c.as_str.result.now) c.args.files.now.entries c.share.new.self (sym c.in-Some.ensures.value ∙ ap Some (sym c.share.ensures.same))
