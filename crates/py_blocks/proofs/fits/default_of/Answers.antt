use Rattle.std.proofs.Common.{Some, ap}
use Rattle.py_blocks.proofs.Walking.{three-or_more}
use Rattle.py_blocks.proofs.fits.default_of.Goals as goal

pub returns-in-AnnotatedParameter : goal.returns-in-AnnotatedParameter
returns-in-AnnotatedParameter c = λ ts. rw c.in-AnnotatedParameter.is (ap (λ b. Some b) (three-or_more ts c.args.parts.now))
