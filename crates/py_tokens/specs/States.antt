-- What a text is, read as a number, a string or a run of text: by the places that it goes through.
-- Python 3.12 language reference, 2.4 "Literals": each is a right linear grammar.
use Rattle.std.specs.Prelude.{ℕ, Bool, List, [], ◌∷◌, Option, Some, None, option_map, if◌then◌else◌}
use Rattle.py_tokens.specs.Numbers.{number_kind, number_next}
use Rattle.py_tokens.specs.Strings.{is_closed, string_next, text_next, ends_text}
use Rattle.py_tokens.specs.declared.kinds.Kind.{Kind}
use Rattle.py_tokens.specs.declared.kinds.Kind.TheVariants.{Token, Fault}
use Rattle.py_tokens.specs.declared.kinds.TokenKind.TheVariants.{Str, FText}
use Rattle.py_tokens.specs.declared.kinds.TokenFault.TheVariants.{UnclosedString}
use Rattle.py_tokens.specs.declared.states.State.{State}
use Rattle.py_tokens.specs.declared.states.State.TheVariants.{Number, String, BeforeUnclosed, Unclosed, Text}
use Rattle.py_tokens.specs.declared.strings.InString.TheVariants.{Opening}

abbrev pub when : Bool → Kind → Option Kind
when holds kind = if holds then Some kind else None

-- what a piece is that ends there, where this follows
abbrev pub state_kind : State → List ℕ → Option Kind
state_kind (Number place) rest = option_map Token (number_kind place)
state_kind (String quotes place) rest = when (is_closed place) (Token Str)
state_kind (BeforeUnclosed quotes n) rest = None
state_kind (Unclosed quotes place) rest = Some (Fault UnclosedString)
state_kind (Text in_format quotes place) rest = when (ends_text quotes place rest) (Token FText)

-- where a piece stands after one more character
abbrev pub state_next : State → ℕ → Option State
state_next (Number place) c = option_map Number (number_next place c)
state_next (String quotes place) c = option_map (String quotes) (string_next quotes place c)
state_next (BeforeUnclosed quotes n) c = option_map (Unclosed quotes) (string_next quotes (Opening n) c)
state_next (Unclosed quotes place) c = option_map (Unclosed quotes) (string_next quotes place c)
state_next (Text in_format quotes place) c = option_map (Text in_format quotes) (text_next in_format quotes place c)

-- what a text is, from a place on, where this follows
abbrev pub kind_from : Option State → List ℕ → List ℕ → Option Kind
kind_from None text rest = None
kind_from (Some state) [] rest = state_kind state rest
kind_from (Some state) (c ∷ cs) rest = kind_from (state_next state c) cs rest
