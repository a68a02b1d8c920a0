-- A reader of lines, as its callers see it, is the bytes that wait in it, two counts, a mark for the end
-- of the input, and the fault that stopped it.
use Rattle.std.specs.Prelude.{ℕ, Bool, Option, List}
use Rattle.edge_io.specs.declared.reader.LineFault.{LineFault}

pub record Reading : Type 0 where
  -- the bytes that were taken and not yet handed out
  pub waiting : List ℕ
  -- how many bytes were taken in all
  pub taken : ℕ
  -- how many may be taken
  pub most : ℕ
  -- whether the end of the input was met
  pub at_end : Bool
  -- the fault that each call answers from now on
  pub fault : Option LineFault
