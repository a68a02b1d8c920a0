-- What is written for an atom: words, and between them the texts of the types in it. Which types these
-- are is written as it is known: a type, the type of a key, or the type of a parameter.
use Rattle.std.specs.Prelude.{ℕ, zero, suc, ◌+◌, Bool, true, false, ◌||◌, if◌then◌else◌, ◌==◌, nat_lt, min, List, [], ◌∷◌, ◌++◌, length, take, drop, codes, Option, Some, None}
use Rattle.py_base.specs.declared.ids.ClassId.{ClassId}
use Rattle.py_base.specs.declared.ids.FuncId.{FuncId}
use Rattle.py_base.specs.declared.ids.SiteId.{SiteId}
use Rattle.py_base.specs.declared.key.Key.TheVariants.{Elem, Ret}
use Rattle.type_terms.specs.declared.atom.Slots.{Slots}
use Rattle.type_terms.specs.declared.atom.Slots.TheVariants.{Each, Endless, AnyArguments, Arguments}
use Rattle.type_terms.specs.declared.atom.Atom.{Atom, out-Atom}
use Rattle.type_terms.specs.declared.atom.Atom.TheVariants as atom
use Rattle.type_terms.specs.declared.atom.Atom.TheOpen.{Atom-F}
use Rattle.type_terms.specs.declared.facts.ParamKind.{ParamKind}
use Rattle.type_terms.specs.declared.facts.ParamKind.TheVariants as kind
use Rattle.type_terms.specs.declared.facts.Param.{Param}
use Rattle.type_terms.specs.declared.facts.FuncRow.{FuncRow}
use Rattle.type_terms.specs.declared.facts.SiteSlots.{SiteSlots}
use Rattle.type_terms.specs.declared.facts.SiteSlots.TheVariants.{Filled, Repeated}
use Rattle.type_terms.specs.declared.piece.Piece.{Piece}
use Rattle.type_terms.specs.declared.piece.Piece.TheVariants.{Word, Typed, OfKey, OfParam}
use Rattle.type_terms.specs.LiteralText.{literal_text}
use Rattle.type_terms.specs.Types.{type_of, both_bools}
use Rattle.type_terms.specs.View.{Meaning}

abbrev pub said : List ℕ → List Piece
said text = Word text ∷ []

-- what stands before all but the first of a list
abbrev pub comma : Bool → List ℕ
comma first = if first then [] else codes ", "

-- dots stand for the rest of a list
abbrev pub dots : Bool → List Piece
dots more = if more then said (codes ", ...") else []

-- types one after another
abbrev pub types_pieces : Bool → List (List Atom) → List Piece
types_pieces first [] = []
types_pieces first (t ∷ ts) = Word (comma first) ∷ Typed (type_of t) ∷ types_pieces false ts

-- the first so many of them, and dots for the rest
abbrev pub first_types : ℕ → List (List Atom) → List Piece
first_types most types = types_pieces true (take most types) ++ dots (nat_lt most (length types))

-- no slots are written as empty brackets, as for the empty tuple
abbrev pub or_brackets : Bool → List Piece → List Piece
or_brackets none pieces = if none then said (codes "()") else pieces

-- of slots the first 16 are written, of the parameters of a Callable the first so many
abbrev pub slots_pieces : ℕ → Slots (List Atom) → List Piece
slots_pieces most (Each types) = or_brackets (length types == 0) (first_types 16 types)
slots_pieces most (Endless type) = Typed (type_of type) ∷ said (codes ", ...")
slots_pieces most (AnyArguments type) = Word (codes "..., ") ∷ Typed (type_of type) ∷ []
slots_pieces most (Arguments types type) = Word (codes "[") ∷ first_types most types ++ Word (codes "], ") ∷ Typed (type_of type) ∷ []

abbrev pub generic_pieces : Meaning → ClassId → List Piece → List Piece
generic_pieces m class slots = Word (m.view.class_word class ++ codes "[") ∷ slots ++ said (codes "]")

-- the slots of a site from a place on, so many of them
abbrev pub site_slots_pieces : SiteId → Bool → ℕ → ℕ → List Piece
site_slots_pieces site first place zero = []
site_slots_pieces site first place (suc more) = Word (comma first) ∷ OfKey (Elem site place) ∷ site_slots_pieces site false (place + 1) more

abbrev pub made_pieces : SiteId → SiteSlots → List Piece
made_pieces site (Filled count) = or_brackets (count == 0) (site_slots_pieces site true 0 (min count 16) ++ dots (nat_lt 16 count))
made_pieces site Repeated = OfKey (Elem site 0) ∷ said (codes ", ...")

abbrev pub star : ParamKind → List ℕ
star kind.Star = codes "*"
star kind.StarStar = codes "**"
star _ = []

-- a parameter up to its type
abbrev pub param_word : Meaning → Bool → Param → List ℕ
param_word m first p = comma first ++ star p.kind ++ m.view.word p.name ++ codes ": "

-- the parameters of a function from a place on
abbrev pub param_pieces : Meaning → FuncId → Bool → ℕ → List Param → List Piece
param_pieces m func first place [] = []
param_pieces m func first place (p ∷ ps) = Word (param_word m first p) ∷ OfParam func place ∷ param_pieces m func false (place + 1) ps

-- what a call of the function gives by what is written: something unknown for an async def and for a body
-- with `yield`, a bool for a TypeGuard and a TypeIs, else the annotation
abbrev pub written_result : FuncRow → Option (List Atom)
written_result row = if row.is_async || row.is_generator then Some (atom.Unknown ∷ []) else (if row.guard then Some both_bools else row.result)

-- without an annotation it is what the function returns
abbrev pub typed_or_returned : FuncId → Option (List Atom) → Piece
typed_or_returned func (Some type) = Typed type
typed_or_returned func None = OfKey (Ret func)

-- the parameters up to an end, behind the first so many, and dots for the rest
abbrev pub params_pieces : Meaning → FuncId → ℕ → ℕ → List Param → List Piece
params_pieces m func taken end params = param_pieces m func true taken (drop taken (take end params)) ++ dots (nat_lt end (length params))

-- a function without the first so many of its parameters, and at most so many of the others
abbrev pub function_pieces : Meaning → ℕ → FuncId → ℕ → List Piece
function_pieces m most func taken =
    let row = m.facts.func func in
    Word (codes "(") ∷ params_pieces m func taken (taken + most) row.params ++ Word (codes ") -> ") ∷ typed_or_returned func (written_result row) ∷ []

-- a lambda is written as a function, every other site as a generic
abbrev pub site_pieces : Meaning → ℕ → SiteId → Option FuncId → List Piece
site_pieces m most site (Some func) = function_pieces m most func 0
site_pieces m most site None = generic_pieces m site.class (made_pieces site (m.facts.site_slots site))

-- the text of an atom that holds no types
abbrev pub level_word : Meaning → Atom-F Atom → List ℕ
level_word m (Atom-F.Lit value) = literal_text m value
level_word m (Atom-F.Inst class) = m.view.class_word class
level_word m (Atom-F.Class class) = codes "type[" ++ m.view.class_word class ++ codes "]"
level_word m (Atom-F.BuiltMethod row receiver) = codes "def " ++ m.view.row_word row
level_word m (Atom-F.BuiltFunc row) = codes "def " ++ m.view.row_word row
level_word m (Atom-F.Super class) = codes "super"
level_word m (Atom-F.Mod name) = codes "Module(" ++ 34 ∷ m.view.word name ++ 34 ∷ codes ")"
level_word m (Atom-F.Special name) = m.view.word name
level_word m Atom-F.Unknown = codes "Unknown"
level_word m Atom-F.None = codes "None"
level_word m _ = []

unfoldable pub atom_word : Meaning → Atom → List ℕ
atom_word m a = level_word m (out-Atom a)

abbrev pub level_pieces : Meaning → ℕ → Atom-F Atom → List Piece
level_pieces m most (Atom-F.Gen class slots) = generic_pieces m class (slots_pieces most slots)
level_pieces m most (Atom-F.Site site) = site_pieces m most site (m.facts.func_at site.node)
level_pieces m most (Atom-F.Func func) = function_pieces m most func 0
level_pieces m most (Atom-F.Bound func) = function_pieces m most func 1
level_pieces m most other = said (level_word m other)

-- what is written for an atom, with at most so many parameters of a function
unfoldable pub atom_pieces : Meaning → ℕ → Atom → List Piece
atom_pieces m most a = level_pieces m most (out-Atom a)
