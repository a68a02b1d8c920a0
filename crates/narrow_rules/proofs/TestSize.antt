-- How large a test is, by which the calls of a test's parts end.
use Rattle.std.proofs.Common.{◌≡◌, ℕ, zero, suc, ◌+◌, ◌<◌, ◌≤◌, List, [], ◌∷◌, map, length, get_or, sym, ap, subst, ◌∙◌, arith}
use Rattle.type_terms.specs.declared.narrowing.Test.{Test, fold-Test, fold-roll-Test}
use Rattle.type_terms.specs.declared.narrowing.Test.TheVariants as test
use Rattle.type_terms.specs.declared.narrowing.Test.TheOpen.{Test-F}

abbrev pub sum : List ℕ → ℕ
sum [] = 0
sum (n ∷ ns) = n + sum ns

abbrev pub size_step : Test-F ℕ → ℕ
size_step (Test-F.Swapped n) = n + 1
size_step (Test-F.Either ns) = sum ns + 1
size_step other = 1

unfoldable pub size : Test → ℕ
size = fold-Test ℕ size_step

abbrev pub sizes : List Test → ℕ
sizes tests = sum (map size tests)

pub size_swapped : (inner : Test) → size (test.Swapped inner) ≡ size inner + 1
unfolding size
size_swapped inner = ap (fold-Test ℕ size_step) (sym (test.rolls-Swapped inner)) ∙ fold-roll-Test ℕ size_step (Test-F.Swapped inner)

pub size_either : (tests : List Test) → size (test.Either tests) ≡ sizes tests + 1
unfolding size
size_either tests = ap (fold-Test ℕ size_step) (sym (test.rolls-Either tests)) ∙ fold-roll-Test ℕ size_step (Test-F.Either tests)

pub size_at : (tests : List Test) (i : ℕ) (d : Test) → i < length tests → size (get_or tests i d) ≤ sizes tests
size_at [] i d within = absurd (omega (arith, within))
size_at (x ∷ xs) zero d within = omega arith
size_at (x ∷ xs) (suc i) d within = omega (arith, size_at xs i d (omega (arith, within)))

pub size_item : (tests : List Test) (i : ℕ) (x : Test) → i < length tests → x ≡ get_or tests i x → size x ≤ sizes tests
size_item tests i x within is = subst (λ t. size t ≤ sizes tests) (sym is) (size_at tests i x within)
