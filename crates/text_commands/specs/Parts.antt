-- What the parts of the command `check` do: with a list, and with the bytes of a whole input.
use Rattle.std.specs.Prelude.{◌≡◌, ◌≢◌, ℕ, Option, List, [], take}
use Rattle.std.specs.Str.{IsUtf8}
use Rattle.py_base.specs.declared.diag.Diag.{Diag}
use Rattle.edge_io.specs.Stream.{behind}
use Rattle.serial_server.specs.declared.status.Status.{Status}
use Rattle.serial_server.specs.declared.status.Status.TheVariants.{Done, Found, Usage, ReadFault, WriteFault, NoMemory, TooLong, NotText}
use Rattle.text_commands.specs.CheckText.{check_text}

-- the list was written, or some first bytes of its text, or none
abbrev pub WritesList : Status → List Diag → Option (List ℕ) → Option (List ℕ) → Type 0
WritesList Done list written written' = (list ≡ []) × (written' ≡ written)
WritesList Found list written written' = (list ≢ []) × (written' ≡ behind written (check_text list))
WritesList WriteFault list written written' = (n : ℕ) × (written' ≡ behind written (take n (check_text list)))
WritesList NoMemory list written written' = written' ≡ written
WritesList Usage list written written' = ⊥
WritesList ReadFault list written written' = ⊥
WritesList TooLong list written written' = ⊥
WritesList NotText list written written' = ⊥

-- the bytes are a text, and its list was written
pub record ChecksText (HasList : List ℕ → List Diag → Type 0) (status : Status) (bytes : List ℕ) (written written' : Option (List ℕ)) : Type 0 where
  pub is_text : IsUtf8 bytes
  pub list : List Diag
  pub list_is : HasList bytes list
  pub writes : WritesList status list written written'

abbrev pub ChecksBytes : (List ℕ → List Diag → Type 0) → Status → List ℕ → Option (List ℕ) → Option (List ℕ) → Type 0
ChecksBytes HasList NotText bytes written written' = (¬ IsUtf8 bytes) × (written' ≡ written)
ChecksBytes HasList NoMemory bytes written written' = written' ≡ written
ChecksBytes HasList status bytes written written' = ChecksText HasList status bytes written written'

-- all bytes were written, or some first of them
abbrev pub PutsAll : Status → List ℕ → Option (List ℕ) → Option (List ℕ) → Type 0
PutsAll Done bytes written written' = written' ≡ behind written bytes
PutsAll WriteFault bytes written written' = (n : ℕ) × (written' ≡ behind written (take n bytes))
PutsAll other bytes written written' = ⊥
