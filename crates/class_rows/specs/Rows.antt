-- The rows of the classes: the order of each is the class and behind it the merge of the orders of its bases and of the list of its bases, or else the class and `object`; its members are those of its class statement.
-- From: "The Python 2.3 Method Resolution Order": L[C(B1 .. BN)] = C + merge(L[B1] .. L[BN], B1 .. BN); the Python language reference, data model, on the order in which the attributes of a class are looked up.
use Rattle.std.specs.Prelude.{◌≡◌, ◌==◌, ◌<◌, Bool, true, false, List, [], ◌∷◌, ◌++◌, map, length, Option, slice_index_or, slice_get, filter_map}
use Rattle.std.specs.List.{list_any}
use Rattle.std.specs.Map.{lookup}
use Rattle.py_base.specs.declared.ids.ClassId.{ClassId}
use Rattle.py_base.specs.declared.ids.NameId.{NameId}
use Rattle.py_base.specs.declared.ids.SymId.{SymId}
use Rattle.class_rows.specs.declared.head.ClassHead.{ClassHead}
use Rattle.py_base.specs.declared.builtin.Builtin.{Builtin}
use Rattle.py_base.specs.declared.builtin.Builtin.TheVariants as class
use Rattle.py_base.specs.Builtins.{id_of}
use Rattle.class_rows.specs.Classes.{Class, classes, class_at}
use Rattle.class_rows.specs.Merge.{has, IsMergeBehind, HasMerge}

-- the row of a class
pub record ClassRow : Type 0 where
  pub order : List ClassId
  pub ordered : Bool
  pub unknown_base : Bool
  pub keyword : Bool
  pub members : List (NameId × SymId)

-- no row, where a list of rows ends
abbrev pub no_row : ClassRow
no_row = record { order = []; ordered = false; unknown_base = false; keyword = false; members = [] }

abbrev pub row_at : List ClassRow → ClassId → ClassRow
row_at rows c = slice_index_or rows c.0 no_row

-- the class has a row
abbrev pub IsClass : List ClassRow → ClassId → Type 0
IsClass rows c = c.0 < length rows

abbrev pub order_of : List ClassRow → ClassId → List ClassId
order_of rows c = (row_at rows c).order

-- high is low or stands above it
abbrev pub is_sub_of : List ClassRow → ClassId → ClassId → Bool
is_sub_of rows low high = has high (order_of rows low)

-- a class of the order has an Unknown base
abbrev pub is_open_of : List ClassRow → ClassId → Bool
is_open_of rows c = list_any (λ d. (row_at rows d).unknown_base) (order_of rows c)

-- a class of the order has a keyword in its head
abbrev pub has_keyword_of : List ClassRow → ClassId → Bool
has_keyword_of rows c = list_any (λ d. (row_at rows d).keyword) (order_of rows c)

-- the symbol that a list of members has for a name
abbrev pub symbol_in : NameId → List (NameId × SymId) → Option SymId
symbol_in name members = lookup (λ n. n.0 == name.0) members

-- the symbol of the class's own member of this name
abbrev pub own_member_of : List ClassRow → ClassId → NameId → Option SymId
own_member_of rows c name = symbol_in name (row_at rows c).members

-- the symbol of the first class of the order that has the name among its own members
abbrev pub member_of : List ClassRow → ClassId → NameId → Option SymId
member_of rows c name = slice_get (filter_map (λ d. own_member_of rows d name) (order_of rows c)) 0

-- what is merged for a class with these bases
abbrev pub merged_lists : (ClassId → List ClassId) → List ClassId → List (List ClassId)
merged_lists order bases = map order bases ++ bases ∷ []

-- the bases give an order: none of them is `bool`, and the lists have a merge
abbrev pub HasOrder : List (List ClassId) → List ClassId → Type 0
HasOrder lists bases = (has (id_of class.Bool) bases ≡ false) × HasMerge lists

-- the order of a class with these bases: itself and a merge of the lists, or else itself and `object`
abbrev pub IsOrder : List (List ClassId) → List ClassId → ClassId → Bool → List ClassId → Type 0
IsOrder lists bases c true order = (has (id_of class.Bool) bases ≡ false) × IsMergeBehind c lists order
IsOrder lists bases c false order = (HasOrder lists bases → ⊥) × (order ≡ c ∷ id_of class.Object ∷ [])

-- the row of a class, where `orders` has the order of each of its bases
pub record IsRow (orders : ClassId → List ClassId) (c : ClassId) (class : Class) (row : ClassRow) : Type 0 where
  pub order : IsOrder (merged_lists orders class.bases) class.bases c row.ordered row.order
  pub unknown_base : row.unknown_base ≡ class.unknown_base
  pub keyword : row.keyword ≡ class.keyword
  pub members : (name : NameId) → symbol_in name row.members ≡ symbol_in name class.members

-- the rows of the classes of a file
pub record IsRows (heads : List ClassHead) (rows : List ClassRow) : Type 0 where
  pub count : length rows ≡ length (classes heads)
  pub each : (c : ClassId) → IsClass rows c → IsRow (order_of rows) c (class_at (classes heads) c) (row_at rows c)
