-- What the parts of a session of one thread do: with a reply, with a job, with all that is open, and with a line.
use Rattle.std.specs.Prelude.{◌≡◌, ℕ, List, [], ◌∷◌, ◌++◌, Option}
use Rattle.py_base.specs.declared.diag.Diag.{Diag}
use Rattle.py_base.specs.declared.span.Place.{Place}
use Rattle.edge_io.specs.Stream.{behind}
use Rattle.wire_json.specs.declared.message.WireStep.{WireStep}
use Rattle.wire_json.specs.declared.reply.Out.{Out}
use Rattle.session_core.specs.declared.entry.Entry.{Entry}
use Rattle.session_core.specs.Machine.{State, take_line}
use Rattle.session_core.specs.Journal.{Run, settling, settled, serial_from}
use Rattle.session_core.specs.Calls.{Serving}
use Rattle.serial_server.specs.Bytes.{texts}

-- of these replies some first bytes were written
pub record PutsPart (outs : List Out) (written written' : Option (List ℕ)) : Type 0 where
  pub put : List ℕ
  pub unput : List ℕ
  pub text_is : texts outs ≡ put ++ unput
  pub written_is : written' ≡ behind written put

-- no job waits, and each job from now on will
pub record IsFresh (v : Serving) : Type 0 where
  pub handed : v.handed ≡ v.state.made
  pub back : v.back ≡ []

module _ (HasList : List ℕ → List Diag → Type 0) (HasHover : List ℕ → Place → Option (List ℕ) → Type 0) where
  -- these entries were made, by steps of the machine, and their replies written
  pub record Enters (entries : List Entry) (lines : List WireStep) (old new : Serving) (written written' : Option (List ℕ)) : Type 0 where
    pub outs : List Out
    pub run : Run HasList HasHover old.state entries lines outs new.state
    pub journal : new.journal ≡ old.journal ++ entries
    pub written_is : written' ≡ behind written (texts outs)

  -- some first of these entries were made, and some first bytes of their replies written
  pub record EntersPart (entries : List Entry) (lines : List WireStep) (old new : Serving) (written written' : Option (List ℕ)) : Type 0 where
    pub done : List Entry
    pub undone : List Entry
    pub entries_are : entries ≡ done ++ undone
    pub outs : List Out
    pub state : State
    pub run : Run HasList HasHover old.state done lines outs state
    pub journal : new.journal ≡ old.journal ++ done
    pub put : PutsPart outs written written'

  -- all that was open is answered, and written
  pub record Settles (old new : Serving) (written written' : Option (List ℕ)) : Type 0 where
    pub enters : Enters (settling old.state) [] old new written written'
    pub state : new.state ≡ settled old.state
    pub fresh : IsFresh new

  -- the line was taken, what it opened is answered, and all is written
  pub record ServesLine (line : WireStep) (old new : Serving) (written written' : Option (List ℕ)) : Type 0 where
    pub enters : Enters (serial_from old.state (line ∷ [])) (line ∷ []) old new written written'
    pub state : new.state ≡ settled (take_line old.state line).state
    pub fresh : IsFresh new

  -- nothing was done of the line, or some first of its entries are in the journal, and some first bytes of their replies are written
  pub record BreaksLine (line : WireStep) (old new : Serving) (written written' : Option (List ℕ)) : Type 0 where
    pub lines : List WireStep
    pub left : List WireStep
    pub lines_are : line ∷ [] ≡ lines ++ left
    pub enters : EntersPart (serial_from old.state lines) lines old new written written'
