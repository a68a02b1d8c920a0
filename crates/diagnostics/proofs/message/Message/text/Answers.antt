use Rattle.diagnostics.proofs.message.Message.text.Goals as goal

pub returns-in-Attribute-clause-value : goal.returns-in-Attribute-clause-value
returns-in-Attribute-clause-value g c = rw c.in-Attribute.is (rw c.as_str.ensures at c.shown_behind.ensures.value)

pub returns-in-BinaryOperator-clause-value : goal.returns-in-BinaryOperator-clause-value
returns-in-BinaryOperator-clause-value g c = rw c.in-BinaryOperator.is c.shown_binary.ensures.value

pub returns-in-ArgumentType-clause-value : goal.returns-in-ArgumentType-clause-value
returns-in-ArgumentType-clause-value g c = rw c.in-ArgumentType.is c.shown_assignment.ensures.value

pub returns-in-Assignment-clause-value : goal.returns-in-Assignment-clause-value
returns-in-Assignment-clause-value g c = rw c.in-Assignment.is c.shown_assignment-in-Assignment.ensures.value

pub returns-in-ReturnType-clause-value : goal.returns-in-ReturnType-clause-value
returns-in-ReturnType-clause-value g c = rw c.in-ReturnType.is c.shown_assignment-in-ReturnType.ensures.value
