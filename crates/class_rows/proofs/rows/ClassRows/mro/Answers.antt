use Rattle.std.proofs.Common.{sym, ◌∙◌}
use Rattle.std.proofs.lemmas.Bool.{false≢true}
use Rattle.class_rows.proofs.Growing.{order_past}
use Rattle.class_rows.proofs.rows.ClassRows.mro.Goals as goal

pub returns-then-has_class-clause-sound : goal.returns-then-has_class-clause-sound
returns-then-has_class-clause-sound c = λ _. c.order.ensures.sound

pub returns-else-has_class-clause-order : goal.returns-else-has_class-clause-order
returns-else-has_class-clause-order c = sym (order_past c.args.self.now c.args.class (λ within. false≢true (sym c.if-has_class.false ∙ c.has_class.ensures.1 within)))

pub returns-else-has_class-clause-sound : goal.returns-else-has_class-clause-sound
returns-else-has_class-clause-sound c = λ within. absurd (false≢true (sym c.if-has_class.false ∙ c.has_class.ensures.1 within))
