use Rattle.std.proofs.Common.{List, ℕ, ap, ◌∙◌}
use Rattle.py_blocks.specs.declared.sort.Sort.TheVariants as sorts
use Rattle.py_blocks.specs.Innermost.{last_of}
use Rattle.py_blocks.proofs.Finding.{scope-open}
use Rattle.py_blocks.proofs.innermost.scope_at.Goals as goal

pub returns : goal.returns
returns c = c.last_of.ensures ∙ (ap (λ (xs : List ℕ). last_of c.args.lines.now sorts.Scope xs) c.requires ∙ scope-open c.args.lines.now c.args.at)
