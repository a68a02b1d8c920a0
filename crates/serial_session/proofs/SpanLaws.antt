-- What the lines of a text read, and its first faulty line, stand within the text.
use Rattle.std.proofs.Common.{◌≡◌, ℕ, ℤ, Bool, not, true, false, ◌&&◌, ◌==◌, List, [], ◌∷◌, Option, Some, None, is_none, IfSome, option_map, codes, if◌then◌else◌, filter_map, All, subst, ap}
use Rattle.std.specs.List.{cons_option}
use Rattle.std.proofs.lemmas.Option.{none-some, same_Some}
use Rattle.std.proofs.lemmas.List.Elements.{All-nil, All-cons, All-head, All-tail}
use Rattle.std.specs.Str.{bytes_eq, chars}
use Rattle.py_base.specs.declared.span.Span.{Span}
use Rattle.py_tokens.specs.declared.lines.LogicalLine.{LogicalLine}
use Rattle.py_tokens.specs.declared.lines.Token.{Token}
use Rattle.py_tokens.specs.declared.kinds.TokenKind.{TokenKind}
use Rattle.py_tokens.specs.declared.kinds.TokenKind.TheVariants.{Name, Keyword, Int, Str}
use Rattle.py_tokens.specs.declared.kinds.TokenFault.{TokenFault}
use Rattle.py_tokens.specs.declared.literals.StringValue.{StringValue}
use Rattle.py_tokens.specs.declared.literals.StringValue.TheVariants.{Text, UnknownText, Bytes, UnknownBytes, NotAscii}
use Rattle.py_tokens.specs.Literals.{string_value}
use Rattle.py_tokens.specs.Ints.{int_of}
use Rattle.type_terms.specs.declared.literal.Literal.TheVariants.{Int as Integer, Bool as Boolean}
use Rattle.serial_session.specs.declared.form.Form.{Form}
use Rattle.serial_session.specs.declared.form.Form.TheVariants.{Reveal}
use Rattle.serial_session.specs.declared.form.NameUse.{NameUse}
use Rattle.serial_session.specs.declared.form.Value.{Value}
use Rattle.serial_session.specs.declared.form.Value.TheVariants.{Literal, NoneValue, Read}
use Rattle.serial_session.specs.Forms.{is_name_kind, name_use, keyword_value, is_plain_string, known_text, plain_string_value, value_by_kind, value_of, binding, is_operator, is_reveal_type, form_of_tokens, form_of}
use Rattle.serial_session.specs.Antecedents.{read_in}
use Rattle.serial_session.specs.Reading.{first_faulty, fault_at}
use Rattle.py_tokens.specs.Spans.{IsSpanIn, IsLineIn}
use Rattle.serial_session.specs.Spans.{IsReadIn}
use Rattle.serial_session.proofs.ReadingLaws.{All-find}

All-cons_option : {X : Type 0} (P : X → Type 0) (o : Option X) (xs : List X) → IfSome o P → All P xs → All P (cons_option o xs)
All-cons_option P None xs here behind = behind
All-cons_option P (Some x) xs here behind = All-cons P x xs here behind

abbrev IsTokenIn : ℕ → Token → Type 0
IsTokenIn count token = IsSpanIn count token.span

-- ---- what a line reads

name_use-within : (count : ℕ) (token : Token) → IsTokenIn count token → IfSome (name_use token) (λ read. IsSpanIn count read.span)
name_use-within count token within =
    elim (is_name_kind token.kind && not (bytes_eq token.text (codes "reveal_type"))) as (λ b. IfSome {T = NameUse} (if b then Some (record { name = token.text; span = token.span }) else None) (λ read. IsSpanIn count read.span)) [ true ↦ within | false ↦ tt ]

abbrev IsValueIn : ℕ → Value → Type 0
IsValueIn count value = IfSome (read_in value) (λ read. IsSpanIn count read.span)

read-within : (count : ℕ) (read : Option NameUse) → IfSome read (λ name. IsSpanIn count name.span) → IfSome (option_map Read read) (IsValueIn count)
read-within count None within = tt
read-within count (Some read) within = within

literal-within : (count : ℕ) (n : Option ℤ) → IfSome (option_map (λ i. Literal (Integer i)) n) (IsValueIn count)
literal-within count None = tt
literal-within count (Some n) = tt

if-value-within : (count : ℕ) (b : Bool) (o p : Option Value) → IfSome o (IsValueIn count) → IfSome p (IsValueIn count) → IfSome (if b then o else p) (IsValueIn count)
if-value-within count true o p here behind = here
if-value-within count false o p here behind = behind

keyword-within : (count : ℕ) (text : List ℕ) → IfSome (keyword_value text) (IsValueIn count)
keyword-within count text =
    if-value-within count (bytes_eq text (codes "None")) (Some NoneValue) _ tt
    (if-value-within count (bytes_eq text (codes "True")) (Some (Literal (Boolean true))) _ tt
    (if-value-within count (bytes_eq text (codes "False")) (Some (Literal (Boolean false))) None tt tt))

known-within : (count : ℕ) (value : Option StringValue) → IfSome (known_text value) (IsValueIn count)
known-within count None = tt
known-within count (Some (Text text)) = tt
known-within count (Some UnknownText) = tt
known-within count (Some (Bytes bytes)) = tt
known-within count (Some UnknownBytes) = tt
known-within count (Some NotAscii) = tt

string-within : (count : ℕ) (text : List ℕ) → IfSome (plain_string_value text) (IsValueIn count)
string-within count text = if-value-within count (is_plain_string text) (known_text (string_value (chars text))) None (known-within count (string_value (chars text))) tt

value_by_kind-within : (count : ℕ) (kind : TokenKind) (token : Token) → IsTokenIn count token → IfSome (value_by_kind kind token) (IsValueIn count)
value_by_kind-within count Int token within = literal-within count (int_of token.text)
value_by_kind-within count Str token within = string-within count token.text
value_by_kind-within count Keyword token within = keyword-within count token.text
value_by_kind-within count Name token within = read-within count (name_use token) (name_use-within count token within)
value_by_kind-within count _ token within = tt

binding-within : (count : ℕ) (target : Option NameUse) (value : Option Value) → IfSome value (IsValueIn count) → IfSome (binding target value) (IsReadIn count)
binding-within count None value within = tt
binding-within count (Some name) None within = tt
binding-within count (Some name) (Some value) within = within

reveal-within : (count : ℕ) (read : Option NameUse) → IfSome read (λ name. IsSpanIn count name.span) → IfSome (option_map Reveal read) (IsReadIn count)
reveal-within count None within = tt
reveal-within count (Some read) within = within

if-within : (count : ℕ) (b : Bool) (o : Option Form) → IfSome o (IsReadIn count) → IfSome (if b then o else None) (IsReadIn count)
if-within count true o within = within
if-within count false o within = tt

third-within : (count : ℕ) (a b c : Token) (rest : List Token) → All (IsTokenIn count) (a ∷ b ∷ c ∷ rest) → IsTokenIn count c
third-within count a b c rest all =
    All-head (IsTokenIn count) c rest (All-tail (IsTokenIn count) b (c ∷ rest) (All-tail (IsTokenIn count) a (b ∷ c ∷ rest) all))

form_of_tokens-within : (count : ℕ) (tokens : List Token) → All (IsTokenIn count) tokens → IfSome (form_of_tokens tokens) (IsReadIn count)
form_of_tokens-within count [] all = tt
form_of_tokens-within count (a ∷ []) all = tt
form_of_tokens-within count (a ∷ b ∷ []) all = tt
form_of_tokens-within count (a ∷ b ∷ c ∷ []) all =
    if-within count (is_operator (codes "=") b) (binding (name_use a) (value_of c)) (binding-within count (name_use a) (value_of c)
    (value_by_kind-within count c.kind c (third-within count a b c [] all)))
form_of_tokens-within count (a ∷ b ∷ c ∷ d ∷ []) all =
    if-within count (is_reveal_type a && (is_operator (codes "(") b && is_operator (codes ")") d)) (option_map Reveal (name_use c)) (reveal-within count (name_use c)
    (name_use-within count c (third-within count a b c (d ∷ []) all)))
form_of_tokens-within count (a ∷ b ∷ c ∷ d ∷ e ∷ rest) all = tt

form_of-within : (count : ℕ) (line : LogicalLine) → IsLineIn count line → IfSome (form_of line) (IsReadIn count)
form_of-within count line within = if-within count ((line.column == 0) && is_none line.fault) (form_of_tokens line.tokens) (form_of_tokens-within count line.tokens within.1)

pub forms-within : (count : ℕ) (lines : List LogicalLine) → All (IsLineIn count) lines → All (IsReadIn count) (filter_map form_of lines)
forms-within count [] all = All-nil _
forms-within count (line ∷ lines) all = All-cons_option (IsReadIn count) (form_of line) (filter_map form_of lines) (form_of-within count line (All-head (IsLineIn count) line lines all)) (forms-within count lines (All-tail (IsLineIn count) line lines all))

-- ---- where the first faulty line stands

span-within : (count : ℕ) (line : Option LogicalLine) (span : Span) (fault : Option TokenFault) → IfSome line (IsLineIn count) → option_map fault_at line ≡ Some (span, fault) → IsSpanIn count span
span-within count None span fault within is = absurd (none-some (span, fault) is)
span-within count (Some line) span fault within is = subst (IsSpanIn count) (ap (λ pair. pair.0) (same_Some (fault_at line) (span, fault) is)) within.0

pub first-within : (count : ℕ) (lines : List LogicalLine) (span : Span) (fault : Option TokenFault) → All (IsLineIn count) lines → option_map fault_at (first_faulty lines) ≡ Some (span, fault) → IsSpanIn count span
first-within count lines span fault all is = span-within count (first_faulty lines) span fault (All-find (IsLineIn count) (λ line. is_none (form_of line)) lines all) is
