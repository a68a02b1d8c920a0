-- What a session has come to when it stops.
use Rattle.std.specs.Prelude.{◌≡◌, ◌⊎◌, ◌^◌, ℕ, List, [], ◌++◌, Bool, true, false, Option, length}
use Rattle.edge_io.specs.Stream.{before, behind}
use Rattle.serial_session.specs.declared.entry.Entry.{Entry}
use Rattle.serial_session.specs.declared.status.Status.{Status}
use Rattle.serial_session.specs.declared.status.Status.TheVariants.{Done, Usage, ReadFault, WriteFault, NoMemory, TooLong}
use Rattle.serial_session.specs.Journal.{session_lines, has_end, Legal, Settled, text_of, serial}

abbrev pub IsPrefix : List ℕ → List ℕ → Type 0
IsPrefix xs ys = (rest : List ℕ) × (ys ≡ xs ++ rest)

-- the exit status as a number
abbrev pub code_of : Status → ℕ
code_of Done = 0
code_of Usage = 2
code_of ReadFault = 3
code_of WriteFault = 4
code_of NoMemory = 5
code_of TooLong = 6

-- all lines of the bytes taken are in the journal, and what was put is its text
pub record IsWhole (lines : List (List ℕ)) (journal : List Entry) (put : List ℕ) : Type 0 where
  pub legal : Legal lines journal
  pub text : put ≡ text_of lines journal

-- each line is in the journal with all that answers it, and none of them ends the session
pub record IsStopped (lines : List (List ℕ)) (journal : List Entry) (put : List ℕ) : Type 0 where
  pub whole : IsWhole lines journal put
  pub serial_is : journal ≡ serial lines
  pub going : has_end lines ≡ false

-- all that was opened is answered, line by line, and the lines end as a session does
pub record IsDone (at_end : Bool) (lines : List (List ℕ)) (journal : List Entry) (put : List ℕ) : Type 0 where
  pub whole : IsWhole lines journal put
  pub settled : Settled lines journal
  pub serial_is : journal ≡ serial lines
  pub ends : (has_end lines ≡ true) ⊎ (at_end ≡ true)

-- the first lines are in the journal, which is a beginning of their serial one, and what was put is a beginning of its text
pub record IsBroken (lines : List (List ℕ)) (journal : List Entry) (put : List ℕ) : Type 0 where
  pub taken : List (List ℕ)
  pub left : List (List ℕ)
  pub lines_are : lines ≡ taken ++ left
  pub legal : Legal taken journal
  pub unentered : List Entry
  pub in_turn : serial taken ≡ journal ++ unentered
  pub text : IsPrefix put (text_of taken journal)

-- as many bytes as may be were taken, and neither the input nor a line that ends the session ended them
pub record IsTooLong (at_end : Bool) (bytes : List ℕ) : Type 0 where
  pub full : length bytes ≡ 2 ^ 40
  pub open_end : at_end ≡ false

-- what holds at each status, of the bytes taken and the bytes put
abbrev pub Outcome : Status → Bool → List ℕ → List Entry → List ℕ → Type 0
Outcome Done at_end bytes journal put = IsDone at_end (session_lines at_end bytes) journal put
Outcome Usage at_end bytes journal put = (bytes ≡ []) × (journal ≡ []) × (put ≡ [])
Outcome ReadFault at_end bytes journal put = IsStopped (session_lines at_end bytes) journal put × (at_end ≡ false)
Outcome WriteFault at_end bytes journal put = IsBroken (session_lines at_end bytes) journal put
Outcome NoMemory at_end bytes journal put = IsBroken (session_lines at_end bytes) journal put
Outcome TooLong at_end bytes journal put = IsStopped (session_lines at_end bytes) journal put × IsTooLong at_end bytes

-- What a session has done when it stops: of what was left it took these bytes, behind what was written it put
-- others, and of these the outcome of its status holds. `at_end` says whether the input ended behind the bytes.
pub record Account (status : Status) (journal : List Entry) (count : ℕ) (at_end : Bool) (left left' written written' : Option (List ℕ)) : Type 0 where
  pub bytes : List ℕ
  pub taken_is : left ≡ before bytes left'
  pub counted : length bytes ≡ count
  pub put : List ℕ
  pub written_is : written' ≡ behind written put
  pub outcome : Outcome status at_end bytes journal put

-- the source's own mark says whether the input ended; where it is as it was before, the session may have met no end
abbrev pub IsMarked : Bool → Bool → Bool → Type 0
IsMarked ended ended' at_end = ((ended' ≡ ended) × (at_end ≡ false)) ⊎ (ended' ≡ at_end)

-- The same by the number of the status, with what the source's mark says.
pub record Reports (code : ℕ) (journal : List Entry) (count : ℕ) (ended ended' : Bool) (left left' written written' : Option (List ℕ)) : Type 0 where
  pub status : Status
  pub code_is : code ≡ code_of status
  pub at_end : Bool
  pub at_end_is : IsMarked ended ended' at_end
  pub account : Account status journal count at_end left left' written written'
