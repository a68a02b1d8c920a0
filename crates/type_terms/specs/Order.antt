-- The order of atoms: by the number of the kind, then by the number of the class, then by that of the
-- node, the function, the row or the name, and behind these by the literal value, the slots or the
-- receiver. A type is a set of atoms, and what is printed of it comes in this order. It is an order of
-- numbers: what it means in a text is for those who number. Names of the language are numbered in the
-- order of their bytes behind the builtin classes, functions by the node of their def or lambda, and
-- rows of builtins by receiver class and name.
use Rattle.std.specs.Prelude.{ℕ, ◌+◌, pos, negsuc, List, map}
use Rattle.std.specs.declared.cmp.Ordering.{Ordering}
use Rattle.py_base.specs.declared.ids.ClassId.{ClassId}
use Rattle.py_base.specs.declared.ids.InnerTuple.{InnerTuple}
use Rattle.py_base.specs.declared.ids.InnerTuple.TheVariants as inner
use Rattle.type_terms.specs.declared.literal.Literal.{Literal}
use Rattle.type_terms.specs.declared.literal.Literal.TheVariants as literal
use Rattle.py_base.specs.Builtins.{id_of}
use Rattle.py_base.specs.declared.builtin.Builtin.TheVariants as builtin
use Rattle.type_terms.specs.declared.atom.Slots.{Slots}
use Rattle.type_terms.specs.declared.atom.Slots.TheVariants.{Each, Endless, AnyArguments, Arguments}
use Rattle.type_terms.specs.declared.atom.Atom.{Atom, fold-Atom}
use Rattle.type_terms.specs.declared.atom.Atom.TheOpen.{Atom-F}
use Rattle.type_terms.specs.SortKey.{SortKey, end, part, number, bit, bytes_key, listed, key_cmp}

-- the class of a literal's value
abbrev pub literal_class : Literal → ClassId
literal_class (literal.Int z) = id_of builtin.Int
literal_class (literal.Bool b) = id_of builtin.Bool
literal_class (literal.Str t) = id_of builtin.Str
literal_class (literal.Bytes bs) = id_of builtin.Bytes
literal_class (literal.Member class place) = class

-- the kinds of literals, in their order
abbrev pub literal_kind : Literal → ℕ
literal_kind (literal.Int z) = 0
literal_kind (literal.Bool b) = 1
literal_kind (literal.Str t) = 2
literal_kind (literal.Bytes bs) = 3
literal_kind (literal.Member class place) = 4

-- False before True, integers by value, texts and bytes by their bytes, members in class order
abbrev pub literal_value : Literal → SortKey
literal_value (literal.Int z) = part z end end
literal_value (literal.Bool b) = number (bit b) end
literal_value (literal.Str t) = bytes_key t
literal_value (literal.Bytes bs) = bytes_key bs
literal_value (literal.Member class place) = number place end

abbrev pub literal_key : Literal → SortKey
literal_key l = number (literal_kind l) (literal_value l)

-- a fixed tuple stands before one of any length, any arguments before a list of them
abbrev pub form : {T : Type 0} → Slots T → ℕ
form (Each types) = 0
form (Endless type) = 1
form (AnyArguments type) = 2
form (Arguments types type) = 3

abbrev pub slots_in : Slots (List SortKey) → SortKey
slots_in (Each types) = listed (map listed types)
slots_in (Endless type) = listed type
slots_in (AnyArguments type) = listed type
slots_in (Arguments types type) = part (pos 0) (listed (map listed types)) (listed type)

-- slots by their form, then by the sorted lists of their members
abbrev pub slots_key : Slots (List SortKey) → SortKey
slots_key slots = number (form slots) (slots_in slots)

-- the value that a node makes stands before its inner tuples, and these by their slots
abbrev pub inner_number : InnerTuple → ℕ
inner_number inner.None = 0
inner_number inner.Pair = 1
inner_number (inner.Zip slots) = slots + 2

-- the kind, the class, the node or another number, and which inner tuple of a site it is
abbrev pub head : ℕ → ℕ → ℕ → ℕ → SortKey → SortKey
head kind class place inner rest = number kind (number class (number place (number inner rest)))

-- the kind in a key
abbrev pub kind_in : SortKey → ℕ
kind_in end = 0
kind_in (part (pos kind) _ _) = kind
kind_in (part (negsuc _) _ _) = 0

-- what stands behind the head of a key
abbrev pub rest_in : SortKey → SortKey
rest_in (part _ _ (part _ _ (part _ _ (part _ _ rest)))) = rest
rest_in _ = end

-- the class in a key
abbrev pub class_in : SortKey → ℕ
class_in end = 0
class_in (part n inner end) = 0
class_in (part n inner (part (pos class) _ _)) = class
class_in (part n inner (part (negsuc _) _ _)) = 0

-- the key of an atom, from those of the atoms in it
abbrev pub key_step : Atom-F SortKey → SortKey
key_step (Atom-F.Lit value) = head 1 (literal_class value).0 0 0 (literal_key value)
key_step (Atom-F.Inst class) = head 2 class.0 0 0 end
key_step (Atom-F.Gen class slots) = head 3 class.0 0 0 (slots_key slots)
key_step (Atom-F.Site site) = head 4 site.class.0 site.node.0 (inner_number site.inner) end
key_step (Atom-F.Class class) = head 5 class.0 0 0 end
key_step (Atom-F.Func func) = head 6 0 func.0 0 end
key_step (Atom-F.Bound func) = head 7 0 func.0 0 end
key_step (Atom-F.BuiltMethod row receiver) = head 8 (class_in receiver) 0 0 (part (pos 0) receiver (number row end))
key_step (Atom-F.BuiltFunc row) = head 9 0 row 0 end
key_step (Atom-F.Super class) = head 10 class.0 0 0 end
key_step (Atom-F.Mod name) = head 11 0 name.0 0 end
key_step (Atom-F.Special name) = head 12 0 name.0 0 end
key_step Atom-F.Unknown = head 13 0 0 0 end
key_step Atom-F.None = head 14 0 0 0 end
key_step Atom-F.Unbound = head 15 0 0 0 end
key_step Atom-F.Open = head 16 0 0 0 end
key_step Atom-F.Here = head 17 0 0 0 end

unfoldable pub key : Atom → SortKey
key = fold-Atom SortKey key_step

-- the key of a type in a slot, and of slots that hold types
abbrev pub members_key : List Atom → SortKey
members_key atoms = listed (map key atoms)

abbrev pub keyed : Slots (List Atom) → Slots (List SortKey)
keyed (Each types) = Each (map (map key) types)
keyed (Endless type) = Endless (map key type)
keyed (AnyArguments type) = AnyArguments (map key type)
keyed (Arguments types type) = Arguments (map (map key) types) (map key type)

unfoldable pub atom_cmp : Atom → Atom → Ordering
atom_cmp a b = key_cmp (key a) (key b)
