-- Each piece takes a character, or ends what was open.
use Rattle.std.proofs.Common.{inl, inr, ◌≡◌, ℕ, zero, suc, ◌+◌, ◌-◌, ◌*◌, ◌<◌, ◌≤◌, Bool, true, false, ◌∷◌, [], List, length, refl, sym, ◌∙◌, ap, subst, arith, Option, Some, None, cond, not, ◌&&◌, ◌||◌, ◌==◌, nat_lt, slice_index}
use Rattle.std.proofs.lemmas.Bool.{cond-false, both_ways}
use Rattle.std.proofs.lemmas.Option.{none-some, same_Some}
use Rattle.std.specs.Char.{is_ascii_digit}
use Rattle.py_tokens.specs.Chars.{opens_bracket, starts_name, is_blank, ends_line, end_len}
use Rattle.py_tokens.specs.Words.{is_glued}
use Rattle.py_tokens.specs.Signs.{sign_kind}
use Rattle.py_tokens.specs.Strings.{string_opening, closes_here, closing_len}
use Rattle.py_tokens.specs.Rows.{Fits, row_kind, row_in, code_row, text_row, token_row, plain_row, string_or, join_row, fault_row, fault_in, code_fault, unclosed_or, end_fault, is_deepest, line_end}
use Rattle.py_tokens.specs.Opens.{here, mode_of, is_in_string, is_some_open, after}
use Rattle.py_tokens.specs.Cut.{is_done}
use Rattle.py_tokens.specs.declared.kinds.Kind.{Kind}
use Rattle.py_tokens.specs.declared.kinds.Kind.TheVariants.{Fault, Token, Gap}
use Rattle.py_tokens.specs.declared.kinds.TokenKind.TheVariants.{FStart, FEnd, Operator}
use Rattle.py_tokens.specs.declared.kinds.Gap.TheVariants.{Join}
use Rattle.py_tokens.specs.declared.chars.Class.TheVariants.{NamePart, Blank, InLine}
use Rattle.py_tokens.specs.declared.strings.InString.TheVariants as string
use Rattle.py_tokens.specs.declared.strings.InText.TheVariants as prose
use Rattle.py_tokens.specs.declared.states.State.TheVariants as state
use Rattle.py_tokens.specs.declared.kinds.Piece.{Piece}
use Rattle.py_tokens.specs.declared.kinds.TokenFault.{TokenFault}
use Rattle.py_tokens.specs.declared.kinds.TokenFault.TheVariants.{BadCharacter, NestingLimit, UnclosedString}
use Rattle.py_tokens.specs.declared.strings.Quotes.{Quotes}
use Rattle.py_tokens.specs.declared.strings.Opening.{Opening}
use Rattle.py_tokens.specs.declared.rows.Mode.{Mode}
use Rattle.py_tokens.specs.declared.rows.Mode.TheVariants.{Code, Text}
use Rattle.py_tokens.specs.declared.rows.Here.{Here}
use Rattle.py_tokens.specs.declared.rows.Row.{Row}
use Rattle.py_tokens.specs.declared.rows.Row.TheVariants.{Exactly, Run, Number, Reads, Signs, Skipped, Stop, Nothing}
use Rattle.py_tokens.specs.Nesting.{Nesting}
use Rattle.py_tokens.specs.declared.opens.Nest.{Nest}
use Rattle.py_tokens.specs.declared.opens.Nest.TheVariants.{Bracket, FieldBracket, Field, Format, Quoted}
use Rattle.py_tokens.proofs.Operators.{no_operator, conversions_two}
use Rattle.py_tokens.proofs.NumberReader.{number_none}

-- one more piece may stand at the end, where something is open
abbrev pub bit : Bool → ℕ
bit true = 1
bit false = 0

bit_most : (b : Bool) → bit b ≤ 1
bit_most true = omega arith
bit_most false = omega arith

-- the empty text is not of the row
record IsSome (row : Row) : Type 0 where
  none : (rest : List ℕ) → row_kind row [] rest ≡ None

either : (b : Bool) (x y : Row) → IsSome x → IsSome y → IsSome (cond b x y)
either true x y p q = p
either false x y p q = q

sign_none : (in_field : Bool) → sign_kind in_field [] ≡ None
sign_none in_field = cond-false _ _ _ (no_operator in_field [] (omega arith)) ∙ cond-false _ _ _ (conversions_two in_field [] (λ e. absurd (omega (arith, e))))

plain_some : (here : Here) (in_field : Bool) (c d : ℕ) → IsSome (plain_row here in_field c d)
plain_some here in_field c d =
    either (starts_name c) (Run NamePart) _ (record { none = λ rest. refl })
    (either (is_ascii_digit c || ((c == 46) && is_ascii_digit d)) Number _ (record { none = λ rest. number_none })
    (either (is_blank c) (Run Blank) _ (record { none = λ rest. refl })
    (either (c == 35) (Run InLine) _ (record { none = λ rest. refl })
    (either (opens_bracket c && is_deepest here) Nothing (Signs in_field) (record { none = λ rest. refl }) (record { none = λ rest. sign_none in_field })))))

string_some : (opening : Option Opening) (row : Row) → IsSome row → IsSome (string_or opening row)
string_some None row p = p
string_some (Some o) row p =
    either o.formatted (Exactly o.len (Token FStart)) (Reads (state.String o.quotes (string.Opening o.len))) (record { none = λ rest. refl }) (record { none = λ rest. refl })

join_some : (n : ℕ) → IsSome (join_row n)
join_some n = either (nat_lt 0 n) (Exactly (n + 1) (Gap Join)) Nothing (record { none = λ rest. refl }) (record { none = λ rest. refl })

code_some : (here : Here) (in_field : Bool) (text : List ℕ) → IsSome (code_row here in_field text)
unfolding code_row
code_some here in_field text =
    let c = slice_index text 0 in
    let d = slice_index text 1 in
    let n = end_len d (slice_index text 2) in
    either (ends_line c) (Exactly (end_len c d) (line_end here)) _ (record { none = λ rest. refl })
    (either (c == 92) (join_row n) _ (join_some n)
    (either (here.after_number && is_glued text) Nothing (token_row here in_field text) (record { none = λ rest. refl }) (string_some (string_opening text) _ (plain_some here in_field c d))))

text_some : (here : Here) (in_format : Bool) (quotes : Quotes) (text : List ℕ) → IsSome (text_row here in_format quotes text)
unfolding text_row
text_some here in_format quotes text =
    let c = slice_index text 0 in
    either (closes_here quotes text) (Exactly (closing_len quotes) (Token FEnd)) _ (record { none = λ rest. refl })
    (either (in_format && (c == 125)) (Exactly 1 (Token Operator)) _ (record { none = λ rest. refl })
    (either ((c == 123) && not (slice_index text 1 == 123)) (cond (is_deepest here) Nothing (Exactly 1 (Token Operator))) (Reads (state.Text in_format quotes prose.Start))
    (either (is_deepest here) Nothing (Exactly 1 (Token Operator)) (record { none = λ rest. refl }) (record { none = λ rest. refl }))
    (record { none = λ rest. refl })))

row_some : (mode : Mode) (here : Here) (text : List ℕ) → IsSome (row_in mode here text)
row_some (Code in_field) here text = code_some here in_field text
row_some (Text in_format quotes) here text = text_some here in_format quotes text

unclosed_some : (opening : Option Opening) (row : Row) → IsSome row → IsSome (unclosed_or opening row)
unclosed_some None row p = p
unclosed_some (Some o) row p = record { none = λ rest. refl }

fault_some : (here : Here) (text : List ℕ) → IsSome (code_fault here text)
unfolding code_fault
fault_some here text =
    either (here.after_number && is_glued text) (Skipped BadCharacter) _ (record { none = λ rest. refl })
    (unclosed_some (string_opening text) _
    (either (opens_bracket (slice_index text 0)) (Skipped NestingLimit) (Skipped BadCharacter) (record { none = λ rest. refl }) (record { none = λ rest. refl })))

-- a piece without characters is a fault
text_stop : (opens closes ends : Bool) (rest : List ℕ) (k : Kind) → row_kind (cond opens (Skipped NestingLimit) (cond closes (Skipped BadCharacter) (cond ends (Stop UnclosedString) (Skipped UnclosedString)))) [] rest ≡ Some k → (f : TokenFault) × (k ≡ Fault f)
text_stop true closes ends rest k e = absurd (none-some _ e)
text_stop false true ends rest k e = absurd (none-some _ e)
text_stop false false true rest k e = (UnclosedString, sym (same_Some _ _ e))
text_stop false false false rest k e = absurd (none-some _ e)

stop_fault : (mode : Mode) (here : Here) (text rest : List ℕ) (k : Kind) → row_kind (fault_in mode here text) [] rest ≡ Some k → (f : TokenFault) × (k ≡ Fault f)
stop_fault mode here [] rest k e = (end_fault mode here.depth, sym (same_Some _ _ e))
stop_fault (Code in_field) here (c ∷ cs) rest k e = absurd (none-some _ (sym ((fault_some here (c ∷ cs)).none rest) ∙ e))
stop_fault (Text in_format quotes) here (c ∷ cs) rest k e = text_stop (c == 123) (c == 125) (ends_line c) rest k e

-- and something was open
or_right : (a b : Bool) → b ≡ true → (a || b) ≡ true
or_right true b e = refl
or_right false b e = e

not_done : (b : Bool) → (not b && true) ≡ false → b ≡ true
not_done true e = refl
not_done false e = absurd (both_ways _ e refl)

no_stop : (place : Here) (c : ℕ) (cs rest : List ℕ) (k : Kind) → row_kind (code_fault place (c ∷ cs)) [] rest ≡ Some k → ⊥
no_stop place c cs rest k e = none-some _ (sym ((fault_some place (c ∷ cs)).none rest) ∙ e)

in_string : (nests : List Nest) (place : Here) (c : ℕ) (cs rest : List ℕ) (k : Kind) → row_kind (fault_in (mode_of nests) place (c ∷ cs)) [] rest ≡ Some k → is_in_string nests ≡ true
in_string [] place c cs rest k e = absurd (no_stop place c cs rest k e)
in_string (Bracket ∷ nests) place c cs rest k e = absurd (no_stop place c cs rest k e)
in_string (FieldBracket ∷ nests) place c cs rest k e = refl
in_string (Field quotes ∷ nests) place c cs rest k e = refl
in_string (Format quotes ∷ nests) place c cs rest k e = refl
in_string (Quoted quotes ∷ nests) place c cs rest k e = refl

was_open : (opens : Nesting) (after_number : Bool) (text rest : List ℕ) (k : Kind) → is_done opens text ≡ false → row_kind (fault_row (here opens after_number) text) [] rest ≡ Some k → is_some_open opens ≡ true
was_open opens after_number [] rest k d e = not_done (is_some_open opens) d
was_open opens after_number (c ∷ cs) rest k d e = or_right (nat_lt 0 opens.depth) (is_in_string opens.nests) (in_string opens.nests (here opens after_number) c cs rest k e)

none_after : (opens : Nesting) (f : TokenFault) (front : List ℕ) → bit (is_some_open (after opens (Fault f) front)) ≡ 0
unfolding after
none_after opens f front = refl

closed : (opens : Nesting) (k : Kind) (f : TokenFault) (front : List ℕ) → k ≡ Fault f → bit (is_some_open (after opens k front)) ≡ 0
closed opens k f front e = ap (λ x. bit (is_some_open (after opens x front))) e ∙ none_after opens f front

module _ (opens : Nesting) (after_number : Bool) (text front : List ℕ) (k : Kind) (open_ : is_done opens text ≡ false) where
  smaller : (n : ℕ) → Fits (here opens after_number) text (record { kind = k; len = n }) → 2 * (length text - n) + bit (is_some_open (after opens k front)) < 2 * length text + bit (is_some_open opens)
  smaller (suc n) (inl l) = let w = l.within in let m = bit_most (is_some_open (after opens k front)) in omega arith
  smaller (suc n) (inr f) = let w = f.1.within in let m = bit_most (is_some_open (after opens k front)) in omega arith
  smaller zero (inl l) = absurd (none-some _ (sym ((row_some (here opens after_number).mode (here opens after_number) text).none text) ∙ l.fits))
  smaller zero (inr f) =
      let e = stop_fault (here opens after_number).mode (here opens after_number) text text k f.1.fits in
      let o : bit (is_some_open opens) ≡ 1 = ap bit (was_open opens after_number text text k open_ f.1.fits) in
      let z = closed opens k e.0 front e.1 in
      omega arith

pub smaller_step : (opens next : Nesting) (after_number : Bool) (text left front : List ℕ) (place : Here) (p : Piece) → is_done opens text ≡ false → place ≡ here opens after_number → Fits place text p → next ≡ after opens p.kind front → length left ≡ length text - p.len → 2 * length left + bit (is_some_open next) < 2 * length text + bit (is_some_open opens)
smaller_step opens next after_number text left front place p d e f a l =
    let s = smaller opens after_number text front p.kind d p.len (subst (λ (x : Here). Fits x text p) e f) in
    omega (arith, s, l, ap (λ (x : Nesting). bit (is_some_open x)) a)
