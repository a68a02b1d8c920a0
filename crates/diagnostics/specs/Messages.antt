-- The table of messages: what a diagnostic can say, a row for each message, with its rule and its text.
-- Rules and texts are this project's own. What they are about is the Python 3.12 language reference's (2, lexical analysis; 4.2.2, resolution of
-- names; 6 to 8, expressions and statements) and the typing specification's (assignability, type annotations, reveal_type(), assert_never()).
use Rattle.std.specs.Prelude.{ℕ, List, ◌++◌, codes}
use Rattle.std.specs.Fmt.{decimal}
use Rattle.py_base.specs.declared.diag.Diag.{Diag}
use Rattle.py_base.specs.declared.diag.Rule.{Rule}
use Rattle.py_base.specs.declared.diag.Rule.TheVariants as rules
use Rattle.py_base.specs.declared.node.Op.{Op}
use Rattle.type_terms.specs.declared.atom.Atom.{Atom}
use Rattle.type_terms.specs.Text.{text as type_text}
use Rattle.type_terms.specs.View.{Meaning}
use Rattle.diagnostics.specs.declared.message.Message.{Message}
use Rattle.diagnostics.specs.declared.message.Message.TheVariants as messages
use Rattle.diagnostics.specs.declared.notice.Notice.{Notice}
use Rattle.diagnostics.specs.declared.notice.Notice.TheVariants as notices
use Rattle.diagnostics.specs.Spelling.{spelling}

-- a message's rule and its text
pub record Row : Type 0 where
  pub rule : Rule
  pub text : List ℕ

abbrev pub row : Rule → List ℕ → Row
row rule text = record { rule = rule; text = text }

-- what is said without a type
abbrev pub notice_row : Notice → Row
notice_row notices.BadCharacter = row rules.Syntax (codes "Invalid character in source")
notice_row notices.UnclosedString = row rules.Syntax (codes "String is not closed")
notice_row notices.UnclosedBracket = row rules.Syntax (codes "Bracket is not closed")
notice_row notices.BadDedent = row rules.Syntax (codes "Indentation does not match any outer block")
notice_row notices.NotAStatement = row rules.Syntax (codes "Statement is not valid")
notice_row notices.MisplacedBlock = row rules.Syntax (codes "Block is not valid here")
notice_row notices.NestingLimit = row rules.Limit (codes "Nesting is deeper than 64")
notice_row notices.WideLiteral = row rules.Limit (codes "Integer is wider than 128 bits")
notice_row notices.TextLimit = row rules.Limit (codes "Text is longer than 524288 bytes")
notice_row notices.FlowLimit = row rules.Limit (codes "Flow analysis is larger than 2000000")
notice_row notices.OutsideProfile = row rules.OutsideProfile (codes "Outside the checked profile")
notice_row (notices.UndefinedName name) = row rules.UndefinedName (codes "\"" ++ name ++ codes "\" is not defined")
notice_row (notices.Unbound name) = row rules.Unbound (codes "\"" ++ name ++ codes "\" is unbound")
notice_row (notices.PossiblyUnbound name) = row rules.PossiblyUnbound (codes "\"" ++ name ++ codes "\" is possibly unbound")
notice_row (notices.NoneAttribute name) = row rules.NoneAttribute (codes "\"" ++ name ++ codes "\" is not an attribute of \"None\"")
notice_row notices.Arguments = row rules.Arguments (codes "Arguments do not match the parameters")
notice_row notices.BaseOrder = row rules.BaseOrder (codes "Base classes have no consistent order")
notice_row notices.NotAType = row rules.Annotation (codes "Not a type")

-- the text of a rule that one type is not assignable to another
abbrev pub not_assignable : List ℕ → List ℕ → List ℕ
not_assignable given wanted = codes "\"" ++ given ++ codes "\" is not assignable to \"" ++ wanted ++ codes "\""

-- what stands before the types of an operator's operands
abbrev pub operator_words : Op → List ℕ
operator_words op = codes "Operator \"" ++ spelling op ++ codes "\" is not supported for \""

-- all messages, with a way to show the types in them
abbrev pub message_row : (List Atom → List ℕ) → Message → Row
message_row show (messages.Notice notice) = notice_row notice
message_row show (messages.RevealType type) = row rules.RevealType (codes "Type is \"" ++ show type ++ codes "\"")
message_row show (messages.Attribute name owner) = row rules.Attribute (codes "Cannot access attribute \"" ++ name ++ codes "\" for \"" ++ show owner ++ codes "\"")
message_row show (messages.BinaryOperator op left right) = row rules.Operator (operator_words op ++ show left ++ codes "\" and \"" ++ show right ++ codes "\"")
message_row show (messages.UnaryOperator op operand) = row rules.Operator (operator_words op ++ show operand ++ codes "\"")
message_row show (messages.Subscript type) = row rules.Subscript (codes "Cannot subscript \"" ++ show type ++ codes "\"")
message_row show (messages.Iteration type) = row rules.Iteration (codes "\"" ++ show type ++ codes "\" is not iterable")
message_row show (messages.Unpack type count) = row rules.Unpack (codes "Cannot unpack \"" ++ show type ++ codes "\" into " ++ decimal count ++ codes " targets")
message_row show (messages.Call type) = row rules.Call (codes "\"" ++ show type ++ codes "\" is not callable")
message_row show (messages.ArgumentType given wanted) = row rules.ArgumentType (not_assignable (show given) (show wanted))
message_row show (messages.Assignment given wanted) = row rules.Assignment (not_assignable (show given) (show wanted))
message_row show (messages.ReturnType given wanted) = row rules.ReturnType (not_assignable (show given) (show wanted))
message_row show (messages.AssertNever type) = row rules.AssertNever (codes "Type \"" ++ show type ++ codes "\" is not Never")

-- its rule, whatever the types are shown as
abbrev pub rule_of : Message → Rule
rule_of message = (message_row (λ type. codes "") message).rule

-- its text, the types in it as hovers show them
abbrev pub text_of : Meaning → Message → List ℕ
text_of m message = (message_row (type_text m 4) message).text

-- the diagnostic that says so at this place
abbrev pub diagnostic : List ℕ → Row → Diag
diagnostic at said = record { at = at; rule = said.rule; text = said.text }
