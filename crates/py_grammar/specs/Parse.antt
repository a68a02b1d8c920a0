-- The parser on lists of tokens, from which the code's exactness is proved. No public clause cites it.
use Rattle.std.specs.Prelude.{find, ◌||◌, ℕ, zero, suc, Bool, true, false, if◌then◌else◌, Option, Some, None, List, [], ◌∷◌, length, is_some}
use Rattle.py_tokens.specs.declared.lines.Token.{Token}
use Rattle.py_grammar.specs.declared.words.Terminal.{Terminal}
use Rattle.py_grammar.specs.declared.words.Terminal.TheVariants as terminals
use Rattle.py_grammar.specs.declared.words.Form.{Form}
use Rattle.py_grammar.specs.declared.words.Need.{Need}
use Rattle.py_grammar.specs.declared.words.State.{State}
use Rattle.py_grammar.specs.declared.words.Opening.{Opening}
use Rattle.py_grammar.specs.declared.words.Joint.{Joint}
use Rattle.py_grammar.specs.declared.words.Place.{Place}
use Rattle.py_grammar.specs.declared.step.Step.{Step}
use Rattle.py_grammar.specs.declared.step.Step.TheVariants.{Shift as shift, Descend as descend, Stop as stop, Fail as fail}
use Rattle.py_grammar.specs.Table.{meets, beneath, is_among, opens, joins, edge, places, is_last}
use Rattle.py_grammar.specs.Terminal.{terminal}
use Rattle.py_grammar.specs.Reading.{Reading, opened, joined, Parts, no_more, word, part, form_of}

-- what a place takes, and what stands at the left edge of that
abbrev pub reaches : Need → Form → Bool
reaches n f = meets n f || is_among f (beneath n)

abbrev pub begins : Need → Terminal → Option Opening
begins n k = find (λ o. reaches n o.form) (opens k)

abbrev pub goes_on : Need → Terminal → Option Joint
goes_on n k = find (λ j. reaches n j.form) (joins k)

-- something read from the front of the tokens, and the rest of them
abbrev pub Reader : Type 0 → Type 0
Reader A = List Token → Option (A × List Token)

infixl 10 ◌>>=◌
abbrev pub ◌>>=◌ : {A B : Type 0} → Option A → (A → Option B) → Option B
(Some x) >>= f = f x
None >>= f = None

abbrev pub peek : List Token → Terminal
peek [] = terminals.End
peek (w ∷ ts) = terminal w

abbrev pub end_or_fail : Bool → Step
end_or_fail true = stop
end_or_fail false = fail

-- the part that a token begins at a state
abbrev pub place_at : State → Terminal → Option Place
place_at s k = find (λ p. is_some (begins p.need k)) (places s)

abbrev pub at_part : Bool → Option Place → Step
at_part last None = end_or_fail last
at_part last (Some p) = descend p

abbrev pub at_edge : Option State → Step → Step
at_edge (Some s) other = shift s
at_edge None other = other

abbrev pub step : State → Terminal → Step
step s k = at_edge (edge s k) (at_part (is_last s) (place_at s k))

abbrev pub with_word : Token → Option (Parts × List Token) → Option (Parts × List Token)
with_word w r = r >>= λ x. Some (word w x.0, x.1)

abbrev pub with_part : Reading → Option (Parts × List Token) → Option (Parts × List Token)
with_part t r = r >>= λ x. Some (part t x.0, x.1)

abbrev pub turn : (Need → Reader Reading) → (State → Reader Parts) → Step → Reader Parts
turn tree more (shift s) [] = None
turn tree more (shift s) (w ∷ ts) = with_word w (more s ts)
turn tree more (descend p) ts = tree p.need ts >>= λ x. with_part x.0 (more p.after x.1)
turn tree more stop ts = Some (no_more, ts)
turn tree more fail ts = None

-- the tokens and parts of a form from a place on, at most so many
abbrev pub parts : (Need → Reader Reading) → ℕ → State → Reader Parts
parts tree zero s ts = None
parts tree (suc m) s ts = turn tree (parts tree m) (step s (peek ts)) ts

abbrev pub all_parts : (Need → Reader Reading) → State → Reader Parts
all_parts tree s ts = parts tree (suc (length ts)) s ts

-- the joint by which a tree goes on towards a need
abbrev pub allowed : Form → Option Joint → Option Joint
allowed left None = None
allowed left (Some j) = if meets j.left left then Some j else None

-- a reading that meets the need
abbrev pub ended : Need → Reading → Reader Reading
ended n t ts = if meets n (form_of t) then Some (t, ts) else None

abbrev pub go_on : (State → Reader Parts) → (Reading → Reader Reading) → Need → Reading → Option Joint → Reader Reading
go_on more again n t None ts = ended n t ts
go_on more again n t (Some j) [] = None
go_on more again n t (Some j) (w ∷ ts) = more j.after ts >>= λ x. again (joined j.form t w x.0) x.1

-- the tree goes on to the right as long as it may, at most so often
abbrev pub climb : (State → Reader Parts) → Need → ℕ → Reading → Reader Reading
climb more n zero t ts = ended n t ts
climb more n (suc m) t ts = go_on more (climb more n m) n t (allowed (form_of t) (goes_on n (peek ts))) ts

abbrev pub begin_with : (State → Reader Parts) → Token → Option Opening → Reader Reading
begin_with more w None ts = None
begin_with more w (Some o) ts = more o.after ts >>= λ x. Some (opened o.form w x.0, x.1)

abbrev pub begin : (State → Reader Parts) → Need → Reader Reading
begin more n [] = None
begin more n (w ∷ ts) = begin_with more w (begins n (terminal w)) ts

abbrev pub start : (State → Reader Parts) → Need → ℕ → Reader Reading
start more n m ts = begin more n ts >>= λ x. climb more n m x.0 x.1

-- the longest tree that meets a need at the front of the tokens, at most so deep
abbrev pub read_tree : ℕ → Need → Reader Reading
read_tree zero n ts = None
read_tree (suc d) n ts = start (all_parts (read_tree d)) n (length ts) ts

-- The same under names that stay closed in the proofs of the code.
unfoldable pub read : ℕ → Need → Reader Reading
read depth n ts = read_tree depth n ts

unfoldable pub read_parts : ℕ → State → Reader Parts
read_parts depth s ts = all_parts (read_tree depth) s ts

unfoldable pub read_begin : ℕ → Need → Reader Reading
read_begin depth n ts = begin (all_parts (read_tree depth)) n ts

unfoldable pub read_climb : ℕ → Need → Reading → Reader Reading
read_climb depth n t ts = climb (all_parts (read_tree depth)) n (length ts) t ts

unfoldable pub step_at : State → List Token → Step
step_at s ts = step s (peek ts)

unfoldable pub joint_at : Need → Form → List Token → Option Joint
joint_at n f ts = allowed f (goes_on n (peek ts))

unfoldable pub opening_at : Need → Terminal → Option Opening
opening_at n k = begins n k
