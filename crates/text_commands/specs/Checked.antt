-- What the command `check` has come to when it stops. Its terms are those of POSIX.1-2017, System Interfaces, `read` and `write`, for the
-- bytes, and of The Unicode Standard, section 3.9, UTF-8, for texts.
use Rattle.std.specs.Prelude.{◌≡◌, ◌≢◌, ◌<◌, ◌≤◌, ℕ, Bool, true, Option, List, [], length}
use Rattle.std.specs.Str.{IsUtf8}
use Rattle.py_base.specs.declared.diag.Diag.{Diag}
use Rattle.edge_io.specs.Stream.{before, behind}
use Rattle.serial_server.specs.declared.status.Status.{Status}
use Rattle.serial_server.specs.declared.status.Status.TheVariants.{Done, Found, Usage, ReadFault, WriteFault, NoMemory, TooLong, NotText}
use Rattle.serial_server.specs.Served.{code_of, IsPrefix}
use Rattle.text_commands.specs.CheckText.{check_text}

-- as many bytes came as a text to be checked may have, 4,194,304, or fewer, and behind them the end of the input
pub record IsInput (bytes : List ℕ) (ended : Bool) : Type 0 where
  pub few : length bytes ≤ 4194304
  pub ends : ended ≡ true

-- What a list of a text is, is a parameter.
module _ (HasList : List ℕ → List Diag → Type 0) where
  -- the bytes are a text, and this is its list
  pub record IsListed (bytes : List ℕ) (ended : Bool) (list : List Diag) : Type 0 where
    pub input : IsInput bytes ended
    pub is_text : IsUtf8 bytes
    pub list_is : HasList bytes list

  -- what holds at each status, of the bytes taken, of the end of the input and of the bytes put; there is no other
  abbrev pub CheckOutcome : Status → List ℕ → Bool → List ℕ → Type 0
  CheckOutcome Done bytes ended put = IsListed bytes ended [] × (put ≡ [])
  CheckOutcome Found bytes ended put = (list : List Diag) × IsListed bytes ended list × (list ≢ []) × (put ≡ check_text list)
  CheckOutcome ReadFault bytes ended put = (length bytes ≤ 4194304) × (put ≡ [])
  CheckOutcome WriteFault bytes ended put = (list : List Diag) × IsListed bytes ended list × IsPrefix put (check_text list)
  CheckOutcome NoMemory bytes ended put = (length bytes ≤ 4194304) × (put ≡ [])
  CheckOutcome TooLong bytes ended put = (4194304 < length bytes) × (put ≡ [])
  CheckOutcome NotText bytes ended put = IsInput bytes ended × (¬ IsUtf8 bytes) × (put ≡ [])
  CheckOutcome Usage bytes ended put = ⊥

  -- what was put behind what was written, with the outcome of the status
  pub record Comes (status : Status) (bytes : List ℕ) (ended : Bool) (written written' : Option (List ℕ)) : Type 0 where
    pub put : List ℕ
    pub written_is : written' ≡ behind written put
    pub outcome : CheckOutcome status bytes ended put

  -- what `check` has done when it stops, by the number of its status, with the bytes that it took of what was left
  pub record Checks (code count : ℕ) (ended : Bool) (left left' written written' : Option (List ℕ)) : Type 0 where
    pub status : Status
    pub code_is : code ≡ code_of status
    pub bytes : List ℕ
    pub taken_is : left ≡ before bytes left'
    pub counted : length bytes ≡ count
    pub comes : Comes status bytes ended written written'
