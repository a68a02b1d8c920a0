-- Bytes are cut into pieces as they come, in whatever pieces a source gives them. The pieces of bytes are the cutter's own: for a reader of
-- lines they are the lines of Line.antt. No standard speaks of it: bytes go in, their pieces come out one after the other.
use Rattle.std.specs.Prelude.{◌≡◌, ◌≢◌, ◌+◌, ◌<◌, ◌≤◌, ◌⊎◌, ℕ, Bool, true, false, Option, Some, None, Result, Ok, Err, List, [], ◌∷◌, ◌++◌, length}
use Rattle.edge_io.specs.declared.line.Line.{Line}
use Rattle.edge_io.specs.declared.reader.LineFault.{LineFault}
use Rattle.edge_io.specs.declared.reader.LineFault.TheVariants.{ReadFault, TooLong, Memory}
use Rattle.edge_io.specs.Stream.{before}
use Rattle.edge_io.specs.Line.{IsLineOf}
use Rattle.edge_io.specs.Reading.{Reading}

-- what may come behind the bytes that were taken: anything, but nothing once the input has ended
abbrev pub Follows : Bool → Bool → List ℕ → Type 0
Follows false at_end more = Unit {0}
Follows true at_end more = (at_end ≡ true) × (more ≡ [])

-- THE PIECES HANDED OUT ARE THE FIRST PIECES OF THE BYTES TAKEN, whatever comes behind these; the others are those of what waits, and each
-- piece took at least one byte
pub record IsCut (pieces : Bool → List ℕ → List (List ℕ)) (cutter : Reading) (bytes : List ℕ) (given : List (List ℕ)) : Type 0 where
  pub counted : cutter.taken ≡ length bytes
  pub few : length given + length cutter.waiting ≤ length bytes
  pub cut : (at_end : Bool) (more : List ℕ) → Follows cutter.at_end at_end more → pieces at_end (bytes ++ more) ≡ given ++ pieces at_end (cutter.waiting ++ more)

-- all pieces of the bytes taken were handed out, and the input may go on
pub record IsBegun (pieces : Bool → List ℕ → List (List ℕ)) (cutter : Reading) (bytes : List ℕ) (given : List (List ℕ)) : Type 0 where
  pub counted : cutter.taken ≡ length bytes
  pub all : pieces false bytes ≡ given
  pub at_end : cutter.at_end ≡ false

-- what each answer says of the bytes taken by then, if these pieces were handed out before
abbrev pub Cuts : (Bool → List ℕ → List (List ℕ)) → Result (Option Line) LineFault → Reading → List ℕ → List (List ℕ) → Type 0
Cuts pieces (Ok (Some line)) cutter bytes given = (piece : List ℕ) × IsLineOf line piece × IsCut pieces cutter bytes (given ++ piece ∷ [])
Cuts pieces (Ok None) cutter bytes given = (cutter.at_end ≡ true) × (cutter.taken ≡ length bytes) × (pieces true bytes ≡ given)
Cuts pieces (Err ReadFault) cutter bytes given = IsBegun pieces cutter bytes given × (cutter.taken < cutter.most)
Cuts pieces (Err TooLong) cutter bytes given = IsBegun pieces cutter bytes given × (cutter.taken ≡ cutter.most)
Cuts pieces (Err Memory) cutter bytes given = (cutter.taken ≡ length bytes) × (others : List (List ℕ)) × (pieces cutter.at_end bytes ≡ given ++ others)

-- what a cutter took in a call of this answer
pub record Answers (pieces : Bool → List ℕ → List (List ℕ)) (answer : Result (Option Line) LineFault) (old new : Reading) (left left' : Option (List ℕ)) : Type 0 where
  pub more : List ℕ
  pub taken_is : left ≡ before more left'
  pub cuts : (bytes : List ℕ) (given : List (List ℕ)) → IsCut pieces old bytes given → Cuts pieces answer new (bytes ++ more) given

-- the fault of an answer
abbrev pub fault_of : Result (Option Line) LineFault → Option LineFault
fault_of (Ok line) = None
fault_of (Err fault) = Some fault

-- the next answer needs no byte of the source: a whole piece waits, or the input has ended
abbrev pub IsReady : (Bool → List ℕ → List (List ℕ)) → Reading → Type 0
IsReady pieces cutter = (pieces false cutter.waiting ≢ []) ⊎ (cutter.at_end ≡ true)

-- the next answer would need a byte that must not be taken
pub record IsFull (pieces : Bool → List ℕ → List (List ℕ)) (cutter : Reading) : Type 0 where
  pub taken : cutter.taken ≡ cutter.most
  pub at_end : cutter.at_end ≡ false
  pub none : pieces false cutter.waiting ≡ []

-- nothing was taken, and no fault was answered; at most so many bytes may be taken
pub record IsNew (cutter : Reading) (limit : ℕ) : Type 0 where
  pub waiting : cutter.waiting ≡ []
  pub taken : cutter.taken ≡ 0
  pub most : cutter.most ≡ limit
  pub at_end : cutter.at_end ≡ false
  pub fault : cutter.fault ≡ None
