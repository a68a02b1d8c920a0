-- What is true of the parts of a reader of lines, and what its steps do.
use Rattle.std.specs.Prelude.{◌≡◌, ◌+◌, Option, ◌<◌, ◌≤◌, ℕ, Bool, true, false, if◌then◌else◌, Result, Ok, Err, List, [], ◌∷◌, ◌++◌, length}
use Rattle.edge_io.specs.declared.line.Line.{Line}
use Rattle.edge_io.specs.declared.reader.LineFault.{LineFault}
use Rattle.edge_io.specs.declared.reader.LineFault.TheVariants.{ReadFault, TooLong, Memory}
use Rattle.edge_io.specs.Line.{IsLine, IsLineOf}
use Rattle.edge_io.specs.Reading.{Reading}
use Rattle.edge_io.specs.Stream.{before}

-- the bytes from `at` up to `len` of the buffer wait
pub record IsBuffered (buf : List ℕ) (at len taken most : ℕ) : Type 0 where
  pub ordered : at ≤ len
  pub fits : len ≤ 4096
  pub whole : length buf ≡ 4096
  pub within : taken ≤ most

-- nothing but what waits may have changed
pub record IsKept (old new : Reading) : Type 0 where
  pub taken : new.taken ≡ old.taken
  pub most : new.most ≡ old.most
  pub at_end : new.at_end ≡ old.at_end
  pub fault : new.fault ≡ old.fault

-- the bytes that waited, up to an LF or all, went behind those of the line, and the LF was dropped
pub record Moves (line longer : Line) (whole : Bool) (old new : Reading) : Type 0 where
  pub run : List ℕ
  pub plain : IsLine run
  pub joined : (bytes : List ℕ) → IsLineOf line bytes → IsLineOf longer (bytes ++ run)
  pub split : old.waiting ≡ run ++ (if whole then 10 ∷ new.waiting else [])
  pub rest : whole ≡ false → new.waiting ≡ []
  pub kept : IsKept old new

-- the bytes that the source gave are those that wait now
pub record Gives (old new : Reading) (left left' : Option (List ℕ)) : Type 0 where
  pub taken_is : left ≡ before new.waiting left'
  pub counted : new.taken ≡ old.taken + length new.waiting
  pub most : new.most ≡ old.most

-- what the answers of a step that takes bytes say
abbrev pub Fills : Result Bool LineFault → Reading → Reading → Type 0
Fills (Ok true) old new = (old.taken < new.taken) × (old.at_end ≡ false) × (new.at_end ≡ false)
Fills (Ok false) old new = (new.at_end ≡ true) × (new.waiting ≡ [])
Fills (Err ReadFault) old new = (new.waiting ≡ []) × (old.at_end ≡ false) × (new.at_end ≡ false) × (new.taken < new.most)
Fills (Err TooLong) old new = (new.waiting ≡ []) × (old.at_end ≡ false) × (new.at_end ≡ false) × (new.taken ≡ new.most)
Fills (Err Memory) old new = ⊥
