-- The text of a type, as diagnostics and hovers print it. Unbound, Open and Here are left out. Both bool
-- literals are one member, and so are all members of an enum; an int, str or bytes literal is dropped
-- beside its class. Of the first 16 members, and 4 at each deeper level, the texts are written, each
-- once; a last `...` stands for the members that were cut. Nothing left is `Never`. Of slots and of
-- parameters the first are written too, so that the text has a bound whatever the type is.
use Rattle.std.specs.Prelude.{◌≡◌, ◌<◌, Option, MatchOption, ℕ, zero, suc, ◌+◌, Bool, true, false, not, if◌then◌else◌, ◌==◌, ◌&&◌, nat_lt, List, [], ◌∷◌, ◌++◌, length, take, map, codes}
use Rattle.std.specs.List.{flat_map, filter, list_any}
use Rattle.std.specs.Str.{bytes_eq}
use Rattle.py_base.specs.declared.ids.ClassId.{ClassId}
use Rattle.py_base.specs.declared.key.Key.{Key}
use Rattle.py_base.specs.Builtins.{id_of}
use Rattle.py_base.specs.declared.builtin.Builtin.TheVariants as builtin
use Rattle.type_terms.specs.declared.literal.Literal.{Literal}
use Rattle.type_terms.specs.declared.literal.Literal.TheVariants as literal
use Rattle.type_terms.specs.declared.atom.Atom.{Atom, out-Atom}
use Rattle.type_terms.specs.declared.atom.Atom.TheVariants as atom
use Rattle.type_terms.specs.declared.atom.Atom.TheOpen.{Atom-F}
use Rattle.type_terms.specs.declared.piece.Piece.{Piece}
use Rattle.type_terms.specs.declared.piece.Piece.TheVariants.{Word, Typed, OfKey, OfParam}
use Rattle.type_terms.specs.declared.show.Shown.{Shown}
use Rattle.type_terms.specs.declared.show.Shown.TheVariants.{Dropped, Whole, Itself}
use Rattle.type_terms.specs.declared.shown.Looked.{Looked}
use Rattle.type_terms.specs.Pieces.{said, atom_pieces}
use Rattle.type_terms.specs.Types.{has}
use Rattle.type_terms.specs.View.{Meaning}

abbrev pub has_member : List Atom → ClassId → ℕ → Bool
has_member type class place = has type (atom.Lit (literal.Member class place))

-- whether a type has the members of an enum from a place on, so many of them
abbrev pub has_members : List Atom → ClassId → ℕ → ℕ → Bool
has_members type class place zero = true
has_members type class place (suc more) = has_member type class place && has_members type class (place + 1) more

abbrev pub is_whole : Meaning → List Atom → ClassId → Bool
is_whole m type class = has_members type class 0 (length (m.names.enum_members class))

abbrev pub has_instance : List Atom → ClassId → Bool
has_instance type class = has type (atom.Inst class)

abbrev pub has_bool : List Atom → Bool → Bool
has_bool type value = has type (atom.Lit (literal.Bool value))

-- a literal beside its class is dropped
abbrev pub beside : List Atom → ClassId → Shown
beside type class = if has_instance type class then Dropped else Itself

-- of a whole class the first member stands for all
abbrev pub in_whole : Bool → ClassId → Bool → Shown
in_whole whole class first = if whole then (if first then Whole class else Dropped) else Itself

abbrev pub literal_shown : Meaning → List Atom → Literal → Shown
literal_shown m type (literal.Int z) = beside type (id_of builtin.Int)
literal_shown m type (literal.Bool b) = in_whole (has_bool type false && has_bool type true) (id_of builtin.Bool) (not b)
literal_shown m type (literal.Str t) = beside type (id_of builtin.Str)
literal_shown m type (literal.Bytes bs) = beside type (id_of builtin.Bytes)
literal_shown m type (literal.Member class place) = in_whole (is_whole m type class) class (place == 0)

abbrev pub level_shown : Meaning → List Atom → Atom-F Atom → Shown
level_shown m type (Atom-F.Lit value) = literal_shown m type value
level_shown m type Atom-F.Unbound = Dropped
level_shown m type Atom-F.Open = Dropped
level_shown m type Atom-F.Here = Dropped
level_shown m type _ = Itself

-- how a member of a type is shown
unfoldable pub shown : Meaning → List Atom → Atom → Shown
shown m type a = level_shown m type (out-Atom a)

-- what was found of an enum that was looked at is so
abbrev pub IsLooked : Meaning → List Atom → Option Looked → Type 0
IsLooked m type looked = MatchOption looked (Unit {0}) (λ last. last.whole ≡ is_whole m type last.class)

abbrev pub is_kept : Shown → Bool
is_kept Dropped = false
is_kept (Whole class) = true
is_kept Itself = true

abbrev pub keeps : Meaning → List Atom → Atom → Bool
keeps m type a = is_kept (shown m type a)

abbrev pub kept : Meaning → List Atom → List Atom
kept m type = filter (keeps m type) type

-- 64 parameters of a function at the outermost level, and 16 at each deeper one
abbrev pub params_limit : ℕ → ℕ
params_limit levels = if levels == 3 then 64 else 16

abbrev pub shown_pieces : Meaning → ℕ → Atom → Shown → List Piece
shown_pieces m levels a Dropped = []
shown_pieces m levels a (Whole class) = said (m.view.class_word class)
shown_pieces m levels a Itself = atom_pieces m (params_limit levels) a

-- the type that a piece stands for, and the keys that are asked for it
abbrev pub piece_type : Meaning → Piece → List Atom
piece_type m (Word text) = []
piece_type m (Typed type) = type
piece_type m (OfKey key) = m.assignment key
piece_type m (OfParam func place) = m.view.param func place

-- a parameter is one of its function's
abbrev pub IsAskable : Meaning → Piece → Type 0
IsAskable m (OfParam func place) = place < length (m.facts.func func).params
IsAskable m _ = Unit {0}

abbrev pub own_keys : Meaning → Piece → List Key
own_keys m (OfKey key) = key ∷ []
own_keys m (OfParam func place) = m.view.param_keys func place
own_keys m _ = []

abbrev pub piece_text : Meaning → (List Atom → List ℕ) → Piece → List ℕ
piece_text m inner (Word text) = text
piece_text m inner typed = inner (piece_type m typed)

-- nothing is asked for a type with no level for it
abbrev pub piece_keys : Meaning → ℕ → (List Atom → List Key) → Piece → List Key
piece_keys m levels inner piece = if levels == 0 then [] else own_keys m piece ++ inner (piece_type m piece)

-- 16 members at the outermost level, which has three below it, and 4 at each deeper one
abbrev pub limit : ℕ → ℕ
limit levels = if levels == 3 then 16 else 4

abbrev pub printed : Meaning → ℕ → List Atom → List Atom
printed m levels type = take (limit levels) (kept m type)

-- each text once, where it comes first
abbrev pub distinct : List (List ℕ) → List (List ℕ)
distinct [] = []
distinct (t ∷ ts) = t ∷ filter (λ u. not (bytes_eq t u)) (distinct ts)

-- a text behind others, unless it is one of them
abbrev pub put_last : List (List ℕ) → List ℕ → List (List ℕ)
put_last ts t = if list_any (bytes_eq t) ts then ts else ts ++ t ∷ []

-- texts with a bar between, or `Never`
abbrev pub barred : List (List ℕ) → List ℕ
barred [] = codes "Never"
barred (t ∷ ts) = t ++ flat_map (λ u. codes " | " ++ u) ts

abbrev pub member_pieces : Meaning → ℕ → List Atom → Atom → List Piece
member_pieces m levels type a = shown_pieces m levels a (shown m type a)

abbrev pub member_text : Meaning → ℕ → (List Atom → List ℕ) → List Atom → Atom → List ℕ
member_text m levels inner type a = flat_map (piece_text m inner) (member_pieces m levels type a)

abbrev pub member_keys : Meaning → ℕ → (List Atom → List Key) → List Atom → Atom → List Key
member_keys m levels inner type a = flat_map (piece_keys m levels inner) (member_pieces m levels type a)

abbrev pub members_text : Meaning → ℕ → (List Atom → List ℕ) → List Atom → List ℕ
members_text m levels inner type =
    barred (distinct (map (member_text m levels inner type) (printed m levels type)) ++ (if nat_lt (limit levels) (length (kept m type)) then codes "..." ∷ [] else []))

abbrev pub members_keys : Meaning → ℕ → (List Atom → List Key) → List Atom → List Key
members_keys m levels inner type = flat_map (member_keys m levels inner type) (printed m levels type)

-- the text of a type, with so many levels from it on
abbrev pub text : Meaning → ℕ → List Atom → List ℕ
text m zero type = codes "..."
text m (suc levels) type = members_text m levels (text m levels) type

-- the keys whose types are in it
abbrev pub text_keys : Meaning → ℕ → List Atom → List Key
text_keys m zero type = []
text_keys m (suc levels) type = members_keys m levels (text_keys m levels) type
