use Rattle.std.proofs.Common.{sym}
use Rattle.std.proofs.lemmas.List.{take_all}
use Rattle.type_terms.proofs.words.first_few.Goals as goal

pub returns-then-all-most-clause-first : goal.returns-then-all-most-clause-first
returns-then-all-most-clause-first g c = sym (take_all c.args.most c.args.all.now c.if-all-most.true)
