-- The classes of a file: the builtin ones by their numbers, then those of its class statements in the order of the text.
-- From: the Python language reference, class definitions: a class statement without bases makes a class whose base is `object`.
use Rattle.std.specs.Prelude.{◌<◌, ◌+◌, ℕ, Bool, true, false, List, [], ◌∷◌, ◌++◌, map, length, slice_index_or, All}
use Rattle.std.specs.List.{list_any}
use Rattle.py_base.specs.declared.ids.ClassId.{ClassId}
use Rattle.py_base.specs.declared.ids.NameId.{NameId}
use Rattle.py_base.specs.declared.ids.SymId.{SymId}
use Rattle.class_rows.specs.declared.head.Base.{Base}
use Rattle.class_rows.specs.declared.head.Base.TheVariants.{Known, Unknown}
use Rattle.class_rows.specs.declared.head.ClassHead.{ClassHead}
use Rattle.py_base.specs.declared.builtin.Builtin.{Builtin}
use Rattle.py_base.specs.declared.builtin.Builtin.TheVariants as class
use Rattle.py_base.specs.Builtins.{builtin_count, builtins, id_of}
use Rattle.class_rows.specs.Builtins.{bases_of}

-- a class: its bases, whether it has an Unknown one besides, whether a keyword stands in its head, and its own members
pub record Class : Type 0 where
  pub bases : List ClassId
  pub unknown_base : Bool
  pub keyword : Bool
  pub members : List (NameId × SymId)

-- the Known ones among the bases
abbrev pub known : List Base → List ClassId
known [] = []
known (Known c ∷ bases) = c ∷ known bases
known (Unknown ∷ bases) = known bases

abbrev pub is_unknown : Base → Bool
is_unknown (Known c) = false
is_unknown Unknown = true

-- `object` in place of no base
abbrev pub or_object : List ClassId → List ClassId
or_object [] = id_of class.Object ∷ []
or_object (c ∷ bases) = c ∷ bases

-- the class of a class statement
abbrev pub class_of : ClassHead → Class
class_of head = record { bases = or_object (known head.bases); unknown_base = list_any is_unknown head.bases; keyword = head.keyword; members = head.members }

abbrev pub builtin_class : Builtin → Class
builtin_class builtin = record { bases = map id_of (bases_of builtin); unknown_base = false; keyword = false; members = [] }

-- the classes by their numbers
abbrev pub classes : List ClassHead → List Class
classes heads = map builtin_class builtins ++ map class_of heads

-- no class, where a list of classes ends
abbrev pub no_class : Class
no_class = record { bases = []; unknown_base = false; keyword = false; members = [] }

abbrev pub class_at : List Class → ClassId → Class
class_at cs c = slice_index_or cs c.0 no_class

-- each Known base is a builtin class or one of an earlier class statement
abbrev pub BasesAreEarlier : List ClassHead → Type 0
BasesAreEarlier heads = (k : ℕ) (d : ClassHead) → k < length heads → All (λ c. c.0 < builtin_count + k) (known (slice_index_or heads k d).bases)
