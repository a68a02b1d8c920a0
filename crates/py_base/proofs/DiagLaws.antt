-- Diagnostics that compare as equal are the same: no two rules have one name.
use Rattle.std.proofs.Common.{◌≡◌, ℕ, List, [], ◌∷◌, Option, Some, refl, sym, ◌∙◌, ap}
use Rattle.std.specs.Prelude.{bytes_eq}
use Rattle.std.specs.List.{find}
use Rattle.std.specs.Cmp.Lexicographic.{slice_cmp}
use Rattle.std.specs.Ordering.{nat_cmp, ordering_then}
use Rattle.std.specs.FinMap.{IsAntisymmetric, nat_cmp-IsAntisymmetric, slice_cmp-IsAntisymmetric}
use Rattle.std.specs.declared.cmp.Ordering.{Ordering}
use Rattle.std.specs.declared.cmp.Ordering.TheVariants as order
use Rattle.py_base.specs.declared.diag.Diag.{Diag}
use Rattle.py_base.specs.declared.diag.Rule.{Rule}
use Rattle.py_base.specs.declared.diag.Rule.TheVariants.{Syntax, Limit, OutsideProfile, RevealType, UndefinedName, Unbound, PossiblyUnbound, Attribute, NoneAttribute, Operator, Subscript, Iteration, Unpack, Call, Arguments, ArgumentType, Assignment, ReturnType, AssertNever, BaseOrder, Annotation}
use Rattle.py_base.specs.RuleName.{rule_name}
use Rattle.py_base.specs.DiagOrder.{diag_cmp}

rules : List Rule
rules = Syntax ∷ Limit ∷ OutsideProfile ∷ RevealType ∷ UndefinedName ∷ Unbound ∷ PossiblyUnbound ∷ Attribute ∷ NoneAttribute ∷ Operator ∷ Subscript ∷ Iteration ∷ Unpack ∷ Call ∷ Arguments ∷ ArgumentType ∷ Assignment ∷ ReturnType ∷ AssertNever ∷ BaseOrder ∷ Annotation ∷ []

-- the rule of a name
named : List ℕ → Option Rule
named name = find (λ rule. bytes_eq (rule_name rule) name) rules

named_back : (rule : Rule) → named (rule_name rule) ≡ Some rule
unfolding named rules
named_back Syntax = refl
named_back Limit = refl
named_back OutsideProfile = refl
named_back RevealType = refl
named_back UndefinedName = refl
named_back Unbound = refl
named_back PossiblyUnbound = refl
named_back Attribute = refl
named_back NoneAttribute = refl
named_back Operator = refl
named_back Subscript = refl
named_back Iteration = refl
named_back Unpack = refl
named_back Call = refl
named_back Arguments = refl
named_back ArgumentType = refl
named_back Assignment = refl
named_back ReturnType = refl
named_back AssertNever = refl
named_back BaseOrder = refl
named_back Annotation = refl

one_name : (x y : Rule) → rule_name x ≡ rule_name y → x ≡ y
one_name x y e =
    let same : Some x ≡ Some y = sym (named_back x) ∙ ap named e ∙ named_back y in
    cc

both_equal : (a b : Ordering) → ordering_then a b ≡ order.Equal → (a ≡ order.Equal) × (b ≡ order.Equal)
both_equal order.Less b e = cc
both_equal order.Equal b e = (refl, e)
both_equal order.Greater b e = cc

texts : IsAntisymmetric (slice_cmp nat_cmp)
texts = slice_cmp-IsAntisymmetric nat_cmp-IsAntisymmetric

diag : List ℕ → Rule → List ℕ → Diag
diag at rule text = record { at = at; rule = rule; text = text }

pub diag_cmp-IsAntisymmetric : IsAntisymmetric diag_cmp
unfolding diag
diag_cmp-IsAntisymmetric x y e =
    let (place, more) = both_equal _ _ e in
    let (rule, text) = both_equal _ _ more in
    let at : x.at ≡ y.at = texts x.at y.at place in
    let one : x.rule ≡ y.rule = one_name x.rule y.rule (texts (rule_name x.rule) (rule_name y.rule) rule) in
    let written : x.text ≡ y.text = texts x.text y.text text in
    ap (λ a. diag a x.rule x.text) at ∙ (ap (λ r. diag y.at r x.text) one ∙ ap (diag y.at y.rule) written)
