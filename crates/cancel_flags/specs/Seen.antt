-- How a flag counts the raises that it sees: the count never falls, and a poll is true only where it rose. No standard speaks of it.
use Rattle.std.specs.Prelude.{◌≡◌, ◌≢◌, ◌≤◌, ◌==◌, ℕ, Bool, true, not, List, length, filter}
use Rattle.py_base.specs.Causes.{Rose}

pub record Sees (before now : ℕ) (answer : Bool) : Type 0 where
  pub later : before ≤ now
  pub rose : answer ≡ true → Rose before now

-- how many polls found a number above 0
abbrev pub raises_found : List (ℕ × ℕ) → ℕ
raises_found found = length (filter (λ f. not (f.1 == 0)) found)
