-- The three forms of line of this stage: NAME = literal, NAME = NAME, and reveal_type(NAME). A literal is an integer, None,
-- True, False, or a string between single quotes of one kind, without prefix and without a backslash.
-- `reveal_type` is a name that no line binds and none reads, so it stands for no NAME here.
-- Python 3.12 language reference, 2.4 (literals), 7.2 (assignment statements) and 6.3.4 (calls); typing specification, reveal_type().
use Rattle.std.specs.Prelude.{ℕ, List, [], ◌∷◌, Bool, true, false, not, ◌&&◌, ◌||◌, ◌==◌, if◌then◌else◌, Option, Some, None, option_map, option_and_then, is_none, codes, eqb}
use Rattle.std.specs.List.{list_any, starts_with}
use Rattle.std.specs.Str.{bytes_eq, chars}
use Rattle.py_tokens.specs.declared.lines.Token.{Token}
use Rattle.py_tokens.specs.declared.kinds.TokenKind.{TokenKind}
use Rattle.py_tokens.specs.declared.kinds.TokenKind.TheVariants.{Name, Keyword, Int, Str, Operator}
use Rattle.py_tokens.specs.declared.lines.LogicalLine.{LogicalLine}
use Rattle.py_tokens.specs.Ints.{int_of}
use Rattle.py_tokens.specs.Literals.{string_value}
use Rattle.py_tokens.specs.declared.literals.StringValue.{StringValue}
use Rattle.py_tokens.specs.declared.literals.StringValue.TheVariants.{Text}
use Rattle.type_terms.specs.declared.literal.Literal.TheVariants.{Int as Integer, Bool as Boolean, Str as String}
use Rattle.serial_session.specs.declared.form.NameUse.{NameUse}
use Rattle.serial_session.specs.declared.form.Value.{Value}
use Rattle.serial_session.specs.declared.form.Value.TheVariants.{Literal, NoneValue, Read}
use Rattle.serial_session.specs.declared.form.Form.{Form}
use Rattle.serial_session.specs.declared.form.Form.TheVariants.{Binding, Reveal}

abbrev pub is_operator_kind : TokenKind → Bool
is_operator_kind Operator = true
is_operator_kind _ = false

abbrev pub is_name_kind : TokenKind → Bool
is_name_kind Name = true
is_name_kind _ = false

-- the token is this operator
abbrev pub is_operator : List ℕ → Token → Bool
is_operator sign token = is_operator_kind token.kind && bytes_eq token.text sign

-- the token is the name `reveal_type`
abbrev pub is_reveal_type : Token → Bool
is_reveal_type token = is_name_kind token.kind && bytes_eq token.text (codes "reveal_type")

-- the token as a NAME that a line may bind or read
abbrev pub name_use : Token → Option NameUse
name_use token =
    if is_name_kind token.kind && not (bytes_eq token.text (codes "reveal_type")) then Some (record { name = token.text; span = token.span })
    else None

-- the value of a keyword that is a literal
abbrev pub keyword_value : List ℕ → Option Value
keyword_value text =
    if bytes_eq text (codes "None") then Some NoneValue
    else (if bytes_eq text (codes "True") then Some (Literal (Boolean true))
    else (if bytes_eq text (codes "False") then Some (Literal (Boolean false)) else None))

-- the text begins with this quote, and not with three of them
abbrev pub is_one_quoted : List ℕ → List ℕ → List ℕ → Bool
is_one_quoted quote three text = starts_with eqb text quote && not (starts_with eqb text three)

-- the spelling of a string between single quotes of one kind, without prefix and without a backslash
abbrev pub is_plain_string : List ℕ → Bool
is_plain_string text =
    (is_one_quoted (codes "'") (codes "'''") text || is_one_quoted (codes "\"") (codes "\"\"\"") text) && not (list_any (λ c. c == 92) text)

abbrev pub known_text : Option StringValue → Option Value
known_text (Some (Text text)) = Some (Literal (String text))
known_text _ = None

-- the value of a string literal that a line of this stage may bind
abbrev pub plain_string_value : List ℕ → Option Value
plain_string_value text = if is_plain_string text then known_text (string_value (chars text)) else None

-- the token as what stands right of `=`
abbrev pub value_by_kind : TokenKind → Token → Option Value
value_by_kind Int token = option_map (λ n. Literal (Integer n)) (int_of token.text)
value_by_kind Str token = plain_string_value token.text
value_by_kind Keyword token = keyword_value token.text
value_by_kind Name token = option_map Read (name_use token)
value_by_kind _ token = None

abbrev pub value_of : Token → Option Value
value_of token = value_by_kind token.kind token

abbrev pub binding : Option NameUse → Option Value → Option Form
binding target value = option_and_then (λ name. option_map (Binding name.name) value) target

-- the form of a line with these tokens
abbrev pub form_of_tokens : List Token → Option Form
form_of_tokens [] = None
form_of_tokens (a ∷ []) = None
form_of_tokens (a ∷ b ∷ []) = None
form_of_tokens (a ∷ b ∷ c ∷ []) = if is_operator (codes "=") b then binding (name_use a) (value_of c) else None
form_of_tokens (a ∷ b ∷ c ∷ d ∷ []) =
    if is_reveal_type a && (is_operator (codes "(") b && is_operator (codes ")") d) then option_map Reveal (name_use c)
    else None
form_of_tokens (a ∷ b ∷ c ∷ d ∷ e ∷ rest) = None

-- the form of a line: it begins at column 0, has no fault, and its tokens have one of the forms. A line without a form isn't valid.
abbrev pub form_of : LogicalLine → Option Form
form_of line = if (line.column == 0) && is_none line.fault then form_of_tokens line.tokens else None
