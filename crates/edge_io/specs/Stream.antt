-- What a source has left and what a sink has written, where they tell it. A call moves some next bytes
-- and gives their number, which is 0 at the end of the input, as `read` and `write` do in POSIX.1-2017,
-- System Interfaces.
use Rattle.std.specs.Prelude.{◌≡◌, ◌==◌, ℕ, Bool, false, Option, Some, None, Result, Ok, Err, List, [], ◌++◌}

-- what was left before these bytes were taken
abbrev pub before : List ℕ → Option (List ℕ) → Option (List ℕ)
before bytes None = None
before bytes (Some rest) = Some (bytes ++ rest)

-- what is written once these bytes are
abbrev pub behind : Option (List ℕ) → List ℕ → Option (List ℕ)
behind None bytes = None
behind (Some written) bytes = Some (written ++ bytes)

-- the call answered that the input has ended
abbrev pub is_end : {E : Type 0} → Result ℕ E → Bool
is_end (Ok n) = n == 0
is_end (Err e) = false

-- where it is told, nothing is left
abbrev pub IsUsedUp : Option (List ℕ) → Type 0
IsUsedUp None = Unit {0}
IsUsedUp (Some rest) = rest ≡ []
