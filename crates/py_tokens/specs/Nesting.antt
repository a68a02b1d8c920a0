-- What is open at a place, the innermost first, and how deep the place is: the number of brackets and fields that have
-- opened before it, less one for each closing bracket, but never below 0. The depth is a number apart: a field stays
-- open at ) and ], and yet they lower the depth.
-- Python 3.12 language reference, 2.1.6 "Implicit line joining" and 2.4.3 "f-strings".
use Rattle.std.specs.Prelude.{ℕ, List, []}
use Rattle.py_tokens.specs.declared.opens.Nest.{Nest}

pub record Nesting : Type 0 where
  pub nests : List Nest
  pub depth : ℕ

abbrev pub none_open : Nesting
none_open = record { nests = []; depth = 0 }
