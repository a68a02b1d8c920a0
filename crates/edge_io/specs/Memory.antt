-- A source in memory is the bytes that it has left, a sink the bytes that were written; each fails
-- exactly the calls whose numbers are listed (a sink also where its memory isn't had), and counts them.
use Rattle.std.specs.Prelude.{◌≡◌, ◌+◌, ◌-◌, ◌^◌, ℕ, Bool, Result, OnErr, OnOk, List, min}
use Rattle.std.specs.List.{Contains}

-- the calls of an object that fails just those whose numbers are listed; counts stay at their end
pub record Calls : Type 0 where
  -- the numbers of the calls that fail, the first call having number 0
  pub failing : List ℕ
  -- how many calls were made
  pub made : ℕ
  -- how many of them failed
  pub failed : ℕ

pub record Feed : Type 0 where
  -- the bytes that are left
  pub left : List ℕ
  -- how many bytes a call gives at most
  pub piece : ℕ
  -- whether the last call met the end
  pub ended : Bool
  pub calls : Calls

pub record Store : Type 0 where
  -- the bytes that were written
  pub bytes : List ℕ
  pub calls : Calls

-- one more, in a count of 64 bits that stays at its end
abbrev pub counted : ℕ → ℕ
counted count = min (count + 1) (2 ^ 64 - 1)

-- a call was made; it counts among those that failed exactly where its answer is an error
pub record Calling {T E : Type 0} (result : Result T E) (old new : Calls) : Type 0 where
  pub failing : new.failing ≡ old.failing
  pub made : new.made ≡ counted old.made
  pub err : OnErr result (new.failed ≡ counted old.failed)
  pub ok : OnOk result (new.failed ≡ old.failed)

-- the next call is one of those that are to fail
abbrev pub IsListed : Calls → Type 0
IsListed calls = Contains calls.failing calls.made
