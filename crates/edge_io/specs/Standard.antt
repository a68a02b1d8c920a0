-- A reader of std, as its callers see it, is how often it failed and whether its last call met the end.
use Rattle.std.specs.Prelude.{ℕ, Bool}

pub record Device : Type 0 where
  pub faults : ℕ
  pub ended : Bool
