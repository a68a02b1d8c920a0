-- What each kind of test is, opened by one level.
use Rattle.std.proofs.Common.{◌≡◌, List, sym, ap, ◌∙◌}
use Rattle.py_base.specs.declared.ids.ClassId.{ClassId}
use Rattle.type_terms.specs.declared.atom.Atom.{Atom}
use Rattle.type_terms.specs.declared.narrowing.Test.{Test, out-Test, out-roll-Test}
use Rattle.type_terms.specs.declared.narrowing.Test.TheVariants as test
use Rattle.type_terms.specs.declared.narrowing.Test.TheOpen.{Test-F}

pub out-IsNone : out-Test test.IsNone ≡ Test-F.IsNone
out-IsNone = ap out-Test (sym test.rolls-IsNone) ∙ out-roll-Test Test-F.IsNone

pub out-IsLit : (literal : Atom) → out-Test (test.IsLit literal) ≡ Test-F.IsLit literal
out-IsLit literal = ap out-Test (sym (test.rolls-IsLit literal)) ∙ out-roll-Test (Test-F.IsLit literal)

pub out-EqualsLit : (literal : Atom) → out-Test (test.EqualsLit literal) ≡ Test-F.EqualsLit literal
out-EqualsLit literal = ap out-Test (sym (test.rolls-EqualsLit literal)) ∙ out-roll-Test (Test-F.EqualsLit literal)

pub out-Instance : (listed : List ClassId) → out-Test (test.Instance listed) ≡ Test-F.Instance listed
out-Instance listed = ap out-Test (sym (test.rolls-Instance listed)) ∙ out-roll-Test (Test-F.Instance listed)

pub out-Subclass : (listed : List ClassId) → out-Test (test.Subclass listed) ≡ Test-F.Subclass listed
out-Subclass listed = ap out-Test (sym (test.rolls-Subclass listed)) ∙ out-roll-Test (Test-F.Subclass listed)

pub out-ExactClass : (class : ClassId) → out-Test (test.ExactClass class) ≡ Test-F.ExactClass class
out-ExactClass class = ap out-Test (sym (test.rolls-ExactClass class)) ∙ out-roll-Test (Test-F.ExactClass class)

pub out-CanCall : out-Test test.CanCall ≡ Test-F.CanCall
out-CanCall = ap out-Test (sym test.rolls-CanCall) ∙ out-roll-Test Test-F.CanCall

pub out-Guard : (type : List Atom) → out-Test (test.Guard type) ≡ Test-F.Guard type
out-Guard type = ap out-Test (sym (test.rolls-Guard type)) ∙ out-roll-Test (Test-F.Guard type)

pub out-GuardBoth : (type : List Atom) → out-Test (test.GuardBoth type) ≡ Test-F.GuardBoth type
out-GuardBoth type = ap out-Test (sym (test.rolls-GuardBoth type)) ∙ out-roll-Test (Test-F.GuardBoth type)

pub out-Truthy : out-Test test.Truthy ≡ Test-F.Truthy
out-Truthy = ap out-Test (sym test.rolls-Truthy) ∙ out-roll-Test Test-F.Truthy

pub out-Within : (entries : List Atom) → out-Test (test.Within entries) ≡ Test-F.Within entries
out-Within entries = ap out-Test (sym (test.rolls-Within entries)) ∙ out-roll-Test (Test-F.Within entries)

pub out-Swapped : (inner : Test) → out-Test (test.Swapped inner) ≡ Test-F.Swapped inner
out-Swapped inner = ap out-Test (sym (test.rolls-Swapped inner)) ∙ out-roll-Test (Test-F.Swapped inner)

pub out-KeepBoth : out-Test test.KeepBoth ≡ Test-F.KeepBoth
out-KeepBoth = ap out-Test (sym test.rolls-KeepBoth) ∙ out-roll-Test Test-F.KeepBoth

pub out-KeepTrue : out-Test test.KeepTrue ≡ Test-F.KeepTrue
out-KeepTrue = ap out-Test (sym test.rolls-KeepTrue) ∙ out-roll-Test Test-F.KeepTrue

pub out-WithParts : (class : ClassId) → out-Test (test.WithParts class) ≡ Test-F.WithParts class
out-WithParts class = ap out-Test (sym (test.rolls-WithParts class)) ∙ out-roll-Test (Test-F.WithParts class)

pub out-Either : (tests : List Test) → out-Test (test.Either tests) ≡ Test-F.Either tests
out-Either tests = ap out-Test (sym (test.rolls-Either tests)) ∙ out-roll-Test (Test-F.Either tests)

pub ruleset tests = (out-IsNone, out-IsLit, out-EqualsLit, out-Instance, out-Subclass, out-ExactClass, out-CanCall, out-Guard, out-GuardBoth, out-Truthy, out-Within, out-Swapped, out-KeepBoth, out-KeepTrue, out-WithParts, out-Either)
