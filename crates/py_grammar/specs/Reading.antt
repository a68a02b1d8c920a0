-- Readings: a tree of the grammar with all of its tokens. What a reading spells, and that it keeps to the table: each token stands
-- where its form has it, and each part meets what its place asks.
use Rattle.std.specs.Prelude.{◌≡◌, ℕ, suc, max, IsTrue, Some, List, [], ◌∷◌, ◌++◌}
use Rattle.py_tokens.specs.declared.lines.Token.{Token}
use Rattle.py_grammar.specs.declared.words.Form.{Form}
use Rattle.py_grammar.specs.declared.words.Need.{Need}
use Rattle.py_grammar.specs.declared.words.State.{State}
use Rattle.py_grammar.specs.declared.words.Opening.{Opening}
use Rattle.py_grammar.specs.declared.words.Joint.{Joint}
use Rattle.py_grammar.specs.declared.words.Place.{Place}
use Rattle.py_grammar.specs.Table.{meets, opens, joins, edge, places, is_last}
use Rattle.py_grammar.specs.Terminal.{terminal}

-- A reading begins with a token of its own, or with a part and the token behind that. Tokens and parts follow.
mutual
  pub data Reading : Type 0 where
    opened : Form → Token → Parts → Reading
    joined : Form → Reading → Token → Parts → Reading

  pub data Parts : Type 0 where
    no_more : Parts
    word : Token → Parts → Parts
    part : Reading → Parts → Parts

abbrev pub form_of : Reading → Form
form_of (opened f w ps) = f
form_of (joined f t w ps) = f

-- one of the list
pub data Among {A : Type 0} : A → List A → Type 0 where
  here : {x : A} {xs : List A} → Among x (x ∷ xs)
  there : {x y : A} {xs : List A} → Among x xs → Among x (y ∷ xs)

abbrev pub Meets : Need → Reading → Type 0
Meets n t = IsTrue (meets n (form_of t))

-- the tokens from left to right
abbrev mutual
  pub spell : Reading → List Token
  spell (opened f w ps) = w ∷ spell_parts ps
  spell (joined f t w ps) = spell t ++ w ∷ spell_parts ps

  pub spell_parts : Parts → List Token
  spell_parts no_more = []
  spell_parts (word w ps) = w ∷ spell_parts ps
  spell_parts (part t ps) = spell t ++ spell_parts ps

-- how deep parts are nested
abbrev mutual
  pub depth : Reading → ℕ
  depth (opened f w ps) = suc (depth_parts ps)
  depth (joined f t w ps) = suc (max (depth t) (depth_parts ps))

  pub depth_parts : Parts → ℕ
  depth_parts no_more = 0
  depth_parts (word w ps) = depth_parts ps
  depth_parts (part t ps) = max (depth t) (depth_parts ps)

-- Each token stands where the form has it, and each part meets the need of its place.
abbrev mutual
  pub IsWellFormed : Reading → Type 0
  IsWellFormed (opened f w ps) = (o : Opening) × Among o (opens (terminal w)) × (f ≡ o.form) × Follows o.after ps
  IsWellFormed (joined f t w ps) =
      (j : Joint) × Among j (joins (terminal w)) × (f ≡ j.form) × Meets j.left t × IsWellFormed t × Follows j.after ps

  pub Follows : State → Parts → Type 0
  Follows s no_more = IsTrue (is_last s)
  Follows s (word w ps) = (after : State) × (edge s (terminal w) ≡ Some after) × Follows after ps
  Follows s (part t ps) = (p : Place) × Among p (places s) × Meets p.need t × IsWellFormed t × Follows p.after ps
