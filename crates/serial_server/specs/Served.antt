-- What a session has come to when it stops, and what more is said of one that has one thread. Its terms are those of POSIX.1-2017,
-- System Interfaces, `read` and `write`, for the bytes, and of the session machine for the rest.
use Rattle.std.specs.Prelude.{◌≡◌, ◌⊎◌, ◌^◌, ℕ, List, ◌++◌, Bool, true, false, Option, length}
use Rattle.py_base.specs.declared.diag.Diag.{Diag}
use Rattle.py_base.specs.declared.span.Place.{Place}
use Rattle.edge_io.specs.Stream.{before, behind}
use Rattle.wire_json.specs.declared.message.WireStep.{WireStep}
use Rattle.wire_json.specs.declared.reply.Out.{Out}
use Rattle.session_core.specs.declared.entry.Entry.{Entry}
use Rattle.session_core.specs.Journal.{Legal, Settled, serial}
use Rattle.serial_server.specs.declared.status.Status.{Status}
use Rattle.serial_server.specs.declared.status.Status.TheVariants.{Done, Found, Usage, ReadFault, WriteFault, NoMemory, TooLong, NotText}
use Rattle.serial_server.specs.Bytes.{session_lines, has_end, texts}

abbrev pub IsPrefix : List ℕ → List ℕ → Type 0
IsPrefix xs ys = (rest : List ℕ) × (ys ≡ xs ++ rest)

-- the exit status as a number
abbrev pub code_of : Status → ℕ
code_of Done = 0
code_of Found = 1
code_of Usage = 2
code_of ReadFault = 3
code_of WriteFault = 4
code_of NoMemory = 5
code_of TooLong = 6
code_of NotText = 7

-- as many bytes as may be were taken, and neither the input nor a line that ends the session ended them
pub record IsTooLong (at_end : Bool) (bytes : List ℕ) : Type 0 where
  pub full : length bytes ≡ 2 ^ 40
  pub open_end : at_end ≡ false

-- the source's own mark says whether the input ended; where it is as it was before, the session may have met no end
abbrev pub IsMarked : Bool → Bool → Bool → Type 0
IsMarked ended ended' at_end = ((ended' ≡ ended) × (at_end ≡ false)) ⊎ (ended' ≡ at_end)

-- The journal of a session of one thread is the serial one of its lines; where a reply was broken off it is a beginning of that one.
abbrev pub IsInTurn : Status → List WireStep → List Entry → Type 0
IsInTurn WriteFault lines journal = (missing : List Entry) × (serial lines ≡ journal ++ missing)
IsInTurn NoMemory lines journal = (missing : List Entry) × (serial lines ≡ journal ++ missing)
IsInTurn status lines journal = journal ≡ serial lines

module _ (HasList : List ℕ → List Diag → Type 0) (HasHover : List ℕ → Place → Option (List ℕ) → Type 0) where
  -- Each line is in the journal, none of them ends the session, and what was put is the journal's text.
  pub record IsStopped (lines : List WireStep) (journal : List Entry) (put : List ℕ) : Type 0 where
    pub outs : List Out
    pub legal : Legal HasList HasHover lines journal outs
    pub text : put ≡ texts outs
    pub going : has_end lines ≡ false

  -- All that was opened is answered, the lines end as a session does, and what was put is the journal's text.
  pub record IsDone (at_end : Bool) (lines : List WireStep) (journal : List Entry) (put : List ℕ) : Type 0 where
    pub outs : List Out
    pub settled : Settled HasList HasHover lines journal outs
    pub text : put ≡ texts outs
    pub ends : (has_end lines ≡ true) ⊎ (at_end ≡ true)

  -- The first lines are in the journal, and what was put is a beginning of its text.
  pub record IsBroken (lines : List WireStep) (journal : List Entry) (put : List ℕ) : Type 0 where
    pub taken : List WireStep
    pub left : List WireStep
    pub lines_are : lines ≡ taken ++ left
    pub outs : List Out
    pub legal : Legal HasList HasHover taken journal outs
    pub text : IsPrefix put (texts outs)

  -- what holds at each status of a session, of the bytes taken and the bytes put; it has no other
  abbrev pub Outcome : Status → Bool → List ℕ → List Entry → List ℕ → Type 0
  Outcome Done at_end bytes journal put = IsDone at_end (session_lines at_end bytes) journal put
  Outcome ReadFault at_end bytes journal put = IsStopped (session_lines at_end bytes) journal put × (at_end ≡ false)
  Outcome WriteFault at_end bytes journal put = IsBroken (session_lines at_end bytes) journal put
  Outcome NoMemory at_end bytes journal put = IsBroken (session_lines at_end bytes) journal put
  Outcome TooLong at_end bytes journal put = IsStopped (session_lines at_end bytes) journal put × IsTooLong at_end bytes
  Outcome Found at_end bytes journal put = ⊥
  Outcome Usage at_end bytes journal put = ⊥
  Outcome NotText at_end bytes journal put = ⊥

  -- What a session has done when it stops: of what was left it took these bytes, behind what was written it put
  -- others, and of these the outcome of its status holds. `at_end` says whether the input ended behind the bytes.
  pub record Account (status : Status) (journal : List Entry) (count : ℕ) (at_end : Bool) (left left' written written' : Option (List ℕ)) : Type 0 where
    pub bytes : List ℕ
    pub taken_is : left ≡ before bytes left'
    pub counted : length bytes ≡ count
    pub put : List ℕ
    pub written_is : written' ≡ behind written put
    pub outcome : Outcome status at_end bytes journal put

  -- The same by the number of the status, with what the source's mark says.
  pub record Reports (code : ℕ) (journal : List Entry) (count : ℕ) (ended ended' : Bool) (left left' written written' : Option (List ℕ)) : Type 0 where
    pub status : Status
    pub code_is : code ≡ code_of status
    pub at_end : Bool
    pub at_end_is : IsMarked ended ended' at_end
    pub account : Account status journal count at_end left left' written written'

  -- The same of a session of one thread: its journal is in turn besides.
  pub record SerialAccount (status : Status) (journal : List Entry) (count : ℕ) (at_end : Bool) (left left' written written' : Option (List ℕ)) : Type 0 where
    pub account : Account status journal count at_end left left' written written'
    pub in_turn : IsInTurn status (session_lines at_end account.bytes) journal

  pub record SerialReports (code : ℕ) (journal : List Entry) (count : ℕ) (ended ended' : Bool) (left left' written written' : Option (List ℕ)) : Type 0 where
    pub status : Status
    pub code_is : code ≡ code_of status
    pub at_end : Bool
    pub at_end_is : IsMarked ended ended' at_end
    pub account : SerialAccount status journal count at_end left left' written written'
