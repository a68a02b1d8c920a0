-- The laws of types as sets of atoms.
use Rattle.std.proofs.Common.{◌≡◌, ℕ, Bool, true, false, ◌||◌, List, [], ◌∷◌, ◌++◌, length, Result, refl, sym, ap, ◌∙◌}
use Rattle.std.specs.Result.{is_ok}
use Rattle.std.specs.Cmp.{IsEquivalence, eq_by_cmp_equiv, both_ways, Equal-is}
use Rattle.std.specs.Bool.{Decides}
use Rattle.std.specs.Cmp.Lexicographic.{pointwise}
use Rattle.std.specs.List.{dedup, Contains}
use Rattle.std.proofs.lemmas.Slice.Eq.{slice_eq-Decides}
use Rattle.std.proofs.lemmas.Map.Made.{is_member-Decides}
use Rattle.std.specs.List.Sorted.{IsStrictlySortedBy, IsSearchInRange, IsBinarySearchResult, IsSorted, IsPermutation}
use Rattle.std.specs.Ordering.{eq_by_cmp}
use Rattle.std.proofs.lemmas.List.Kept.{Contains-dedup, Contains-from_dedup, IsStrictlySortedBy-dedup}
use Rattle.std.proofs.lemmas.List.Sorted.{list_any-IsPermutation}
use Rattle.std.proofs.lemmas.Map.Views.{Contains-from_any, list_any-from_Contains}
use Rattle.type_terms.specs.declared.atom.Atom.{Atom}
use Rattle.type_terms.specs.Order.{atom_cmp}
use Rattle.type_terms.specs.Types.{IsType, has, type_of, union, IsWithin, both_bools}
use Rattle.type_terms.specs.declared.literal.Literal.TheVariants as literal
use Rattle.type_terms.proofs.KeyOf.{key-Lit}
use Rattle.type_terms.proofs.OrderLaws.{atom_cmp_total, atom_cmp_tells}
use Rattle.type_terms.proofs.SetLaws.{rises_none, rises_one, searched_set, same_sets, rises_set_of, member_set_of, set_of_set, member_append}

pub type_of-IsType : (atoms : List Atom) → IsType (type_of atoms)
unfolding type_of
type_of-IsType = rises_set_of atom_cmp_total atom_cmp_tells

pub has-type_of : (atoms : List Atom) (a : Atom) → has (type_of atoms) a ≡ has atoms a
unfolding has type_of
has-type_of = member_set_of atom_cmp_total atom_cmp_tells

pub has-append : (one other : List Atom) (a : Atom) → has (one ++ other) a ≡ (has one a || has other a)
unfolding has
has-append = member_append atom_cmp_total atom_cmp_tells

pub union-IsType : (one other : List Atom) → IsType (union one other)
unfolding union
union-IsType one other = type_of-IsType (one ++ other)

pub has-union : (one other : List Atom) (a : Atom) → has (union one other) a ≡ (has one a || has other a)
unfolding union
has-union one other a = has-type_of (one ++ other) a ∙ has-append one other a

-- types with the same members are equal
pub same_types : (one other : List Atom) → IsType one → IsType other → ((a : Atom) → has one a ≡ has other a) → one ≡ other
unfolding has
same_types = same_sets atom_cmp_total atom_cmp_tells

pub type_of_type : (type : List Atom) → IsType type → type_of type ≡ type
unfolding type_of
type_of_type = set_of_set atom_cmp_total atom_cmp_tells

pub IsType-none : IsType []
IsType-none = rises_none atom_cmp_total atom_cmp_tells

pub IsType-one : (a : Atom) → IsType (a ∷ [])
IsType-one = rises_one atom_cmp_total atom_cmp_tells

pub searched : (type : List Atom) (a : Atom) (r : Result ℕ ℕ) → IsType type → IsSearchInRange r (length type) → IsBinarySearchResult (λ member. atom_cmp member a) type r → is_ok r ≡ has type a
unfolding has
searched = searched_set atom_cmp_total atom_cmp_tells

or_assoc : (a b c : Bool) → ((a || b) || c) ≡ (a || (b || c))
or_assoc true b c = refl
or_assoc false b c = refl

or_comm : (a b : Bool) → (a || b) ≡ (b || a)
or_comm true true = refl
or_comm true false = refl
or_comm false true = refl
or_comm false false = refl

or_self : (a : Bool) → (a || a) ≡ a
or_self true = refl
or_self false = refl

or_either : (a b c : Bool) → (a ≡ true → c ≡ true) → (b ≡ true → c ≡ true) → (a || b) ≡ true → c ≡ true
or_either true b c f g e = f refl
or_either false b c f g e = g e

or_first : (a b : Bool) → a ≡ true → (a || b) ≡ true
or_first a b e = ap (λ c. c || b) e

or_second : (a b : Bool) → b ≡ true → (a || b) ≡ true
or_second true b e = refl
or_second false b e = e

pub union-assoc : (one two three : List Atom) → union (union one two) three ≡ union one (union two three)
union-assoc one two three = same_types _ _ (union-IsType (union one two) three) (union-IsType one (union two three))
    (λ a. has-union (union one two) three a ∙ ap (λ b. b || has three a) (has-union one two a) ∙ or_assoc (has one a) (has two a) (has three a)
    ∙ sym (has-union one (union two three) a ∙ ap (λ b. has one a || b) (has-union two three a)))

pub union-comm : (one other : List Atom) → union one other ≡ union other one
union-comm one other = same_types _ _ (union-IsType one other) (union-IsType other one)
    (λ a. has-union one other a ∙ or_comm (has one a) (has other a) ∙ sym (has-union other one a))

pub union-self : (type : List Atom) → IsType type → union type type ≡ type
union-self type h = same_types _ _ (union-IsType type type) h (λ a. has-union type type a ∙ or_self (has type a))

pub union-none : (type : List Atom) → IsType type → union [] type ≡ type
unfolding union
union-none type h = type_of_type type h

pub within_first : (one other : List Atom) → IsWithin one (union one other)
within_first one other a e = has-union one other a ∙ or_first (has one a) (has other a) e

pub within_second : (one other : List Atom) → IsWithin other (union one other)
within_second one other a e = has-union one other a ∙ or_second (has one a) (has other a) e

pub union_least : (one other above : List Atom) → IsWithin one above → IsWithin other above → IsWithin (union one other) above
union_least one other above f g a e = or_either (has one a) (has other a) (has above a) (f a) (g a) (sym (has-union one other a) ∙ e)

ties_are_equal : (x y : Atom) → eq_by_cmp atom_cmp x y ≡ true → x ≡ y
ties_are_equal x y e = atom_cmp_tells x y ((Equal-is (atom_cmp x y)).0 e)

same_order : IsEquivalence (eq_by_cmp atom_cmp)
same_order = eq_by_cmp_equiv atom_cmp_total

has-dedup : (sorted : List Atom) (a : Atom) → has (dedup (eq_by_cmp atom_cmp) sorted) a ≡ has sorted a
unfolding has
has-dedup sorted a = both_ways _ _
    (λ e. list_any-from_Contains same_order a sorted (Contains-from_dedup (eq_by_cmp atom_cmp) sorted a (Contains-from_any ties_are_equal a _ e)))
    (λ e. list_any-from_Contains same_order a _ (Contains-dedup same_order ties_are_equal sorted a (Contains-from_any ties_are_equal a sorted e)))

-- a sorted list without its repeats is the type of its elements
pub sorted-IsType : (sorted : List Atom) → IsSorted atom_cmp sorted → IsType (dedup (eq_by_cmp atom_cmp) sorted)
sorted-IsType = IsStrictlySortedBy-dedup atom_cmp_total (λ x y. refl)

pub sorted_is : (atoms sorted : List Atom) → IsPermutation atoms sorted → IsSorted atom_cmp sorted → dedup (eq_by_cmp atom_cmp) sorted ≡ type_of atoms
unfolding has
sorted_is atoms sorted moved h = same_types _ _ (sorted-IsType sorted h) (type_of-IsType atoms)
    (λ a. has-dedup sorted a ∙ sym (list_any-IsPermutation (eq_by_cmp atom_cmp a) atoms sorted moved) ∙ sym (has-type_of atoms a))

pub IsType-bools : IsType both_bools
unfolding IsStrictlySortedBy atom_cmp
IsType-bools = ((rw (key-Lit (literal.Bool false), key-Lit (literal.Bool true)) refl, tt), (tt, tt))

-- equal lists, by comparing each two atoms
atoms_decide : (a b : Atom) → Decides (eq_by_cmp atom_cmp a b) (a ≡ b)
atoms_decide a b = (ties_are_equal a b, λ e. ap (λ x. eq_by_cmp atom_cmp a x) (sym e) ∙ same_order.refl a)

pub lists_decide : (one other : List Atom) → Decides (pointwise (eq_by_cmp atom_cmp) one other) (one ≡ other)
lists_decide one other = slice_eq-Decides atoms_decide one other (pointwise (eq_by_cmp atom_cmp) one other) refl

pub has_decides : (type : List Atom) (a : Atom) → Decides (has type a) (Contains type a)
unfolding has
has_decides type a = is_member-Decides atoms_decide type a
