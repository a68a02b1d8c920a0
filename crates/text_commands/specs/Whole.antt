-- The whole input of a source. Its terms are those of POSIX.1-2017, System Interfaces, `read`, which gives 0 bytes at the end of the input.
use Rattle.std.specs.Prelude.{◌≡◌, ◌<◌, ◌≤◌, ℕ, Bool, true, false, Result, Ok, Err, Option, List, [], ◌++◌, length}
use Rattle.edge_io.specs.Stream.{before}
use Rattle.text_commands.specs.declared.whole.WholeFault.{WholeFault}
use Rattle.text_commands.specs.declared.whole.WholeFault.TheVariants.{ReadFault, TooLong, Memory}

-- What an answer says of the number of bytes that came, of which there may be 4,194,304, and of the end of the input.
abbrev pub TakesWhole : {T : Type 0} → Result T WholeFault → ℕ → Bool → Type 0
TakesWhole (Ok done) count ended = (count ≤ 4194304) × (ended ≡ true)
TakesWhole (Err ReadFault) count ended = (count ≤ 4194304) × (ended ≡ false)
TakesWhole (Err TooLong) count ended = count ≡ 4194305
TakesWhole (Err Memory) count ended = count ≤ 4194304

-- what one call says: whether the input goes on
abbrev pub SaysEnd : Result Bool WholeFault → List ℕ → Bool → Type 0
SaysEnd (Ok true) more ended = 0 < length more
SaysEnd (Ok false) more ended = (more ≡ []) × (ended ≡ true)
SaysEnd (Err ReadFault) more ended = (more ≡ []) × (ended ≡ false)
SaysEnd (Err TooLong) more ended = ⊥
SaysEnd (Err Memory) more ended = more ≡ []

-- at most so many bytes went behind those that were there
pub record TakesSome (result : Result Bool WholeFault) (room : ℕ) (old new : List ℕ) (ended : Bool) (left left' : Option (List ℕ)) : Type 0 where
  pub more : List ℕ
  pub behind_are : new ≡ old ++ more
  pub taken_is : left ≡ before more left'
  pub few : length more ≤ room
  pub says : SaysEnd result more ended
