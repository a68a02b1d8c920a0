-- What a call asks of an assignment of types to keys, and when it is cancelled. The keys asked so far
-- are told or not told; where they are told they stay told, and only the order and the repeats in the
-- list say nothing.
use Rattle.std.specs.Prelude.{◌≡◌, ◌≤◌, ℕ, List, ◌⊎◌, Option, None, MatchOption, IsSomeAnd, Result, Err}
use Rattle.std.specs.List.{Contains}
use Rattle.py_base.specs.declared.key.Key.{Key}
use Rattle.py_base.specs.declared.stop.Stop.{Stop}
use Rattle.py_base.specs.declared.stop.Stop.TheVariants.{Cancelled}
use Rattle.py_base.specs.Causes.{Rose}

-- the keys asked before are asked behind it, and those that are new are among the named
pub record AsksAmong (before named after : List Key) : Type 0 where
  pub kept : (key : Key) → Contains before key → Contains after key
  pub among : (key : Key) → Contains after key → Contains before key ⊎ Contains named key

-- just the keys asked before and the named
pub record AsksAll (before named after : List Key) : Type 0 where
  pub kept : (key : Key) → Contains before key → Contains after key
  pub asked : (key : Key) → Contains named key → Contains after key
  pub among : (key : Key) → Contains after key → Contains before key ⊎ Contains named key

-- the same where the keys are told before; where they aren't they aren't behind it
abbrev pub AsksSome : Option (List Key) → List Key → Option (List Key) → Type 0
AsksSome before named after = MatchOption before (after ≡ None) (λ b. IsSomeAnd after (λ a. AsksAmong b named a))

abbrev pub AsksJust : Option (List Key) → List Key → Option (List Key) → Type 0
AsksJust before named after = MatchOption before (after ≡ None) (λ b. IsSomeAnd after (λ a. AsksAll b named a))

-- a call is cancelled only where the count of seen raises, which never falls, rose in it
pub record Cancels {T : Type 0} (before now : ℕ) (result : Result T Stop) : Type 0 where
  pub later : before ≤ now
  pub caused : result ≡ Err Cancelled → Rose before now
