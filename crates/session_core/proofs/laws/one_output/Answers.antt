use Rattle.session_core.proofs.OneOutput.{one_output}
use Rattle.session_core.proofs.laws.one_output.Goals as goal

pub returns : goal.returns
returns g c = one_output g.A.Analyser.has_list g.A.Analyser.has_hover g.met.A.Analyser.one_list g.met.A.Analyser.one_hover
