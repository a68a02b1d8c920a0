-- What a test keeps of each member of a type: its two sides, row by row.
-- From: the Python typing specification, "Type narrowing", TypeGuard and TypeIs; the Python 3.12 language reference, 4.1 (truth values) and
-- 8.6 (patterns). The table is this project's own.
use Rattle.std.specs.Prelude.{◌==◌, ◌||◌, ◌&&◌, zero, pos, ℤ, Bool, true, false, not, List, [], ◌∷◌, ◌++◌, filter, map, Option, Some, None, codes, if◌then◌else◌}
use Rattle.std.specs.List.{list_any, flat_map}
use Rattle.py_base.specs.declared.ids.ClassId.{ClassId}
use Rattle.py_base.specs.declared.builtin.Builtin.{Builtin}
use Rattle.py_base.specs.declared.builtin.Builtin.TheVariants as builtin
use Rattle.type_terms.specs.declared.literal.Literal.{Literal}
use Rattle.type_terms.specs.declared.literal.Literal.TheVariants as literal
use Rattle.type_terms.specs.declared.atom.Atom.{Atom, out-Atom}
use Rattle.type_terms.specs.declared.atom.Atom.TheVariants as atom
use Rattle.type_terms.specs.declared.atom.Atom.TheOpen.{Atom-F}
use Rattle.type_terms.specs.declared.narrowing.Test.{Test, fold-Test, map-Test, out-Test}
use Rattle.type_terms.specs.declared.narrowing.Test.TheOpen.{Test-F}
use Rattle.type_terms.specs.Order.{literal_class}
use Rattle.type_terms.specs.Facts.{NameTable}
use Rattle.type_terms.specs.Types.{type_of}
use Rattle.class_rows.specs.Rows.{ClassRow, is_sub_of, is_open_of}
use Rattle.narrow_rules.specs.declared.sides.Kept.{Kept}
use Rattle.narrow_rules.specs.declared.sides.Kept.TheVariants.{Itself, Nothing, Others}
use Rattle.narrow_rules.specs.declared.classes.Standing.{Standing}
use Rattle.narrow_rules.specs.declared.classes.Standing.TheVariants.{Instances, Class}
use Rattle.narrow_rules.specs.Ground.{is_class, is_below, has_name, has_some, class_of, set_members, instances, same, is_under}

-- these members in place of the tested one
abbrev pub instead_of : List Atom → Kept
instead_of [] = Nothing
instead_of (a ∷ atoms) = Others (type_of (a ∷ atoms))

-- what is there behind a test, of this member
abbrev pub members : Kept → Atom → List Atom
members Itself a = a ∷ []
members Nothing a = []
members (Others type) a = type

-- WHAT A ROW SAYS OF A MEMBER
pub data Row : Type 0 where
  -- kept where the test is true, dropped where it is false
  only_true : Row
  -- dropped where the test is true, kept where it is false
  only_false : Row
  -- kept on both sides
  on_both : Row
  -- these where the test is true, kept where it is false
  becomes : List Atom → Row
  -- kept where the test is true, these where it is false
  leaves : List Atom → Row

abbrev pub side : Bool → Row → Kept
side true only_true = Itself
side false only_true = Nothing
side true only_false = Nothing
side false only_false = Itself
side positive on_both = Itself
side true (becomes atoms) = instead_of atoms
side false (becomes atoms) = Itself
side true (leaves atoms) = Itself
side false (leaves atoms) = instead_of atoms

-- 1. `x is None`: None; Unknown and object give None
abbrev pub none_row : Atom-F Atom → Row
none_row Atom-F.None = only_true
none_row Atom-F.Unknown = becomes (atom.None ∷ [])
none_row (Atom-F.Inst class) = if is_class class builtin.Object then becomes (atom.None ∷ []) else only_false
none_row other = only_false

abbrev pub is_of_class : Option ClassId → ClassId → Bool
is_of_class (Some class) other = class.0 == other.0
is_of_class None other = false

-- 3. `x == L`: L; an instance of L's class gives L; other literals of that class and None go; the rest stays
abbrev pub equal_level : Atom → Atom-F Atom → Row
equal_level l (Atom-F.Inst class) = if is_of_class (class_of l) class then becomes (l ∷ []) else on_both
equal_level l (Atom-F.Lit value) = if is_of_class (class_of l) (literal_class value) then only_false else on_both
equal_level l Atom-F.None = only_false
equal_level l other = on_both

abbrev pub equal_row : Atom → Atom → Row
equal_row l a = if same a l then only_true else equal_level l (out-Atom a)

-- 11. an entry of `x in (..)`: test 3, and 1 for None
abbrev pub entry_level : Atom → Atom-F Atom → Atom → Row
entry_level entry Atom-F.None a = none_row (out-Atom a)
entry_level entry other a = equal_row entry a

abbrev pub entry_row : Atom → Atom → Row
entry_row entry a = entry_level entry (out-Atom entry) a

abbrev pub entry_keeps : Atom → Bool → Atom → Kept
entry_keeps entry positive a = side positive (entry_row entry a)

-- what is kept of a member by one test, and what of it by another
abbrev pub both : Atom → Kept → Kept → Kept
both a Nothing other = other
both a one Nothing = one
both a Itself Itself = Itself
both a one other = Others (type_of (members one a ++ members other a))

-- what a test keeps of each of these members
abbrev pub of_each : (Atom → Kept) → List Atom → Kept
of_each keeps atoms = Others (type_of (flat_map (λ b. members (keeps b) b) atoms))

-- what a test keeps of what another has kept of a member
abbrev pub of_kept : (Atom → Kept) → Atom → Kept → Kept
of_kept keeps a Itself = keeps a
of_kept keeps a Nothing = Nothing
of_kept keeps a (Others type) = of_each keeps type

-- SEVERAL TESTS: the true sides together, the false sides one after the other
abbrev pub any_true : List (Bool → Atom → Kept) → Atom → Kept → Kept
any_true [] a so_far = so_far
any_true (test ∷ tests) a so_far = any_true tests a (both a so_far (test true a))

abbrev pub all_false : List (Bool → Atom → Kept) → Atom → Kept → Kept
all_false [] a so_far = so_far
all_false (test ∷ tests) a so_far = all_false tests a (of_kept (test false) a so_far)

abbrev pub several : List (Bool → Atom → Kept) → Bool → Atom → Kept
several tests true a = any_true tests a Nothing
several tests false a = all_false tests a Itself

-- what stands for a class that a test names: its instances, or the class itself
abbrev pub class_itself : ClassId → List Atom
class_itself class = atom.Class class ∷ []

abbrev pub standing : NameTable → Standing → ClassId → List Atom
standing names Instances = instances names
standing names Class = class_itself

-- an instance of `object` itself
abbrev pub is_object : Atom-F Atom → Bool
is_object (Atom-F.Inst class) = is_class class builtin.Object
is_object other = false

-- the builtin classes with instances that are false
abbrev pub falsy_classes : List Builtin
falsy_classes = builtin.Int ∷ builtin.Float ∷ builtin.Complex ∷ builtin.Str ∷ builtin.Bytes ∷ builtin.List ∷ builtin.Tuple ∷ builtin.Set ∷ builtin.Dict ∷ builtin.Range ∷ []

-- a member that is both, or else true
abbrev pub either_or_true : Bool → Row
either_or_true true = on_both
either_or_true false = only_true

abbrev pub is_zero : ℤ → Bool
is_zero (pos zero) = true
is_zero other = false

abbrev pub true_or_false : Bool → Row
true_or_false true = only_true
true_or_false false = only_false

-- the members that a member stands for: none, but for an instance of bool or of an enum
abbrev pub level_set : NameTable → Atom-F Atom → List Atom
level_set names (Atom-F.Inst class) = set_members names class
level_set names other = []

abbrev pub set_of : NameTable → Atom → List Atom
set_of names a = level_set names (out-Atom a)

-- AN INSTANCE OF BOOL OR OF AN ENUM is its set of members, and no value and the marks are kept by every test
abbrev pub as_set : (Atom → Kept) → Atom → List Atom → Kept
as_set keeps a [] = keeps a
as_set keeps a atoms = of_each keeps atoms

abbrev pub level_kept : NameTable → (Atom → Kept) → Atom → Atom-F Atom → Kept
level_kept names keeps a Atom-F.Unbound = Itself
level_kept names keeps a Atom-F.Open = Itself
level_kept names keeps a Atom-F.Here = Itself
level_kept names keeps a (Atom-F.Inst class) = as_set keeps a (set_members names class)
level_kept names keeps a other = keeps a

module _ (classes : List ClassRow) where
  abbrev pub is_over : Option ClassId → ClassId → Bool
  is_over (Some low) high = is_sub_of classes low high
  is_over None high = false

  -- 2. `x is L`: L; Unknown, and an instance of a class over that of L, give L
  abbrev pub literal_level : Atom → Atom-F Atom → Row
  literal_level l Atom-F.Unknown = becomes (l ∷ [])
  literal_level l (Atom-F.Inst class) = if is_over (class_of l) class then becomes (l ∷ []) else only_false
  literal_level l other = only_false

  abbrev pub literal_row : Atom → Atom → Row
  literal_row l a = if same a l then only_true else literal_level l (out-Atom a)

  -- a class against a list of classes: under one of them; else what is made of those below it; with an Unknown base on both sides, unless no class is listed
  abbrev pub class_row : (ClassId → List Atom) → List ClassId → ClassId → Row
  class_row make listed class =
      if is_open_of classes class && has_some listed then on_both
      else if list_any (is_sub_of classes class) listed then only_true
      else becomes (flat_map make (filter (λ low. is_sub_of classes low class) listed))

  -- 5. `issubclass(x, C)`: the same on classes; others but Unknown go
  abbrev pub subclass_row : List ClassId → Atom-F Atom → Row
  subclass_row listed (Atom-F.Class class) = class_row class_itself listed class
  subclass_row listed Atom-F.Unknown = becomes (flat_map class_itself listed)
  subclass_row listed other = only_false

  -- 7. `callable(x)`: classes, functions, Callable and instances with `__call__`; Unknown and object on both sides
  abbrev pub can_be_called : ClassId → Bool
  can_be_called class = is_below classes class builtin.Callable || has_name classes class (codes "__call__")

  abbrev pub callable_class : Option ClassId → Row
  callable_class None = on_both
  callable_class (Some class) = if can_be_called class then only_true else only_false

  abbrev pub callable_level : Atom → Atom-F Atom → Row
  callable_level a opened = if is_object opened then on_both else callable_class (class_of a)

  -- 9. TypeIs: under one of T itself; else those of T that are under it; Unknown gives T
  abbrev pub known_row : List Atom → Atom → Row
  known_row type a = if list_any (is_under classes a) type then only_true else becomes (filter (λ t. is_under classes t a) type)

  abbrev pub guard_both_level : List Atom → Atom → Atom-F Atom → Row
  guard_both_level type a Atom-F.Unknown = becomes type
  guard_both_level type a other = known_row type a

  -- 10. truth: an instance that can be both, by `__bool__`, `__len__`, an Unknown base or a builtin class whose instances can be both
  abbrev pub is_falsy : ClassId → Bool
  is_falsy class = list_any (is_below classes class) falsy_classes

  abbrev pub is_either : ClassId → Bool
  is_either class =
      has_name classes class (codes "__bool__") || has_name classes class (codes "__len__") || is_open_of classes class || is_falsy class

  abbrev pub literal_truth : Literal → Row
  literal_truth (literal.Int z) = true_or_false (not (is_zero z))
  literal_truth (literal.Bool b) = true_or_false b
  literal_truth (literal.Str t) = true_or_false (has_some t)
  literal_truth (literal.Bytes bs) = true_or_false (has_some bs)
  literal_truth (literal.Member class place) = either_or_true (is_either class)

  abbrev pub instance_truth : ClassId → Row
  instance_truth class =
      if is_class class builtin.Int then leaves (atom.Lit (literal.Int (pos 0)) ∷ [])
      else if is_class class builtin.Str then leaves (atom.Lit (literal.Str []) ∷ [])
      else if is_class class builtin.Bytes then leaves (atom.Lit (literal.Bytes []) ∷ [])
      else either_or_true (is_class class builtin.Object || is_either class)

  abbrev pub truth_row : Atom-F Atom → Row
  truth_row Atom-F.None = only_false
  truth_row (Atom-F.Lit value) = literal_truth value
  truth_row (Atom-F.Inst class) = instance_truth class
  truth_row (Atom-F.Site site) = either_or_true (not (is_class site.class builtin.Function))
  truth_row (Atom-F.Gen class slots) = on_both
  truth_row (Atom-F.Super class) = on_both
  truth_row (Atom-F.Mod name) = on_both
  truth_row (Atom-F.Special name) = on_both
  truth_row Atom-F.Unknown = on_both
  truth_row other = only_true

module _ (classes : List ClassRow) (names : NameTable) where
  -- 4. `isinstance(x, C)`, by the class of the member; Unknown gives the instances
  abbrev pub instance_row : List ClassId → Option ClassId → Row
  instance_row listed (Some class) = class_row classes (instances names) listed class
  instance_row listed None = becomes (flat_map (instances names) listed)

  -- 6. `type(x) is T`: the class itself; T below it gives the instance of T, and so does Unknown; all where it is false
  abbrev pub exact_row : ClassId → Option ClassId → Row
  exact_row t (Some class) =
      if is_open_of classes class || (class.0 == t.0) then on_both
      else if is_sub_of classes t class then becomes (instances names t)
      else only_false
  exact_row t None = becomes (instances names t)

  -- THE TABLE
  abbrev pub step : Test-F (Bool → Atom → Kept) → Bool → Atom → Kept
  step Test-F.IsNone positive a = side positive (none_row (out-Atom a))
  step (Test-F.IsLit l) positive a = side positive (literal_row classes l a)
  step (Test-F.EqualsLit l) positive a = side positive (equal_row l a)
  step (Test-F.Instance listed) positive a = side positive (instance_row listed (class_of a))
  step (Test-F.Subclass listed) positive a = side positive (subclass_row classes listed (out-Atom a))
  step (Test-F.ExactClass class) positive a = side positive (exact_row class (class_of a))
  step Test-F.CanCall positive a = side positive (callable_level classes a (out-Atom a))
  step (Test-F.Guard type) positive a = side positive (becomes type)
  step (Test-F.GuardBoth type) positive a = side positive (guard_both_level classes type a (out-Atom a))
  step Test-F.Truthy positive a = side positive (truth_row classes (out-Atom a))
  step (Test-F.Within entries) positive a = several (map entry_keeps entries) positive a
  step (Test-F.Swapped test) positive a = test (not positive) a
  step Test-F.KeepBoth positive a = Itself
  step Test-F.KeepTrue positive a = side positive only_true
  step (Test-F.WithParts class) true a = side true (instance_row (class ∷ []) (class_of a))
  step (Test-F.WithParts class) false a = Itself
  step (Test-F.Either tests) positive a = several tests positive a

  abbrev pub whole_step : Test-F (Bool → Atom → Kept) → Bool → Atom → Kept
  whole_step test positive a = level_kept names (step test positive) a (out-Atom a)

  unfoldable pub kept : Test → Bool → Atom → Kept
  kept = fold-Test (Bool → Atom → Kept) whole_step

  -- what the row of a test keeps
  unfoldable pub by_table : Test → Bool → Atom → Kept
  by_table test = step (map-Test Test (Bool → Atom → Kept) kept (out-Test test))

  -- what a test keeps of a member, and of a type
  abbrev pub keep : Test → Bool → Atom → List Atom
  keep test positive a = members (kept test positive a) a

  abbrev pub narrowed : Test → Bool → List Atom → List Atom
  narrowed test positive type = type_of (flat_map (keep test positive) type)

-- something else stands in the member's place
abbrev pub IsOthers : Kept → Type 0
IsOthers (Others type) = Unit {0}
IsOthers other = ⊥

-- something is left in the member's place
abbrev pub IsLeft : Kept → Type 0
IsLeft Nothing = ⊥
IsLeft other = Unit {0}
