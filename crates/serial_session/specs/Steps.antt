-- What a session of one thread does with a line: the steps of the line, each with what it writes. That
-- these steps are the machine's is proved of every session.
use Rattle.std.specs.Prelude.{◌≡◌, ℕ, List, [], ◌∷◌, ◌++◌, Bool, true, false, Option, Result, Ok, Err, map, flat_map}
use Rattle.edge_io.specs.Stream.{behind}
use Rattle.serial_session.specs.declared.message.Msg.{Msg}
use Rattle.serial_session.specs.declared.message.Msg.TheVariants.{Open, End}
use Rattle.serial_session.specs.declared.message.LineRefusal.{LineRefusal}
use Rattle.serial_session.specs.declared.message.LineRefusal.TheVariants.{UnknownOp}
use Rattle.serial_session.specs.declared.reply.Out.TheVariants.{Listed, Refused}
use Rattle.serial_session.specs.declared.entry.Entry.{Entry}
use Rattle.serial_session.specs.declared.entry.Entry.TheVariants.{Line, Publish}
use Rattle.serial_session.specs.Reply.{reply_text}
use Rattle.serial_session.specs.Listing.{list_of}

pub record Step : Type 0 where
  pub entry : Entry
  pub text : List ℕ

abbrev pub step_of : Entry → List ℕ → Step
step_of entry text = record { entry = entry; text = text }

-- the line of this number says this, and a file is open or none is
abbrev pub steps_of : ℕ → Bool → Result Msg LineRefusal → List Step
steps_of k opened (Err refusal) = step_of (Line k) (reply_text (Refused k refusal)) ∷ []
steps_of k opened (Ok End) = step_of (Line k) [] ∷ []
steps_of k true (Ok (Open file version text)) = step_of (Line k) (reply_text (Refused k UnknownOp)) ∷ []
steps_of k false (Ok (Open file version text)) = step_of (Line k) [] ∷ step_of (Publish file version) (reply_text (Listed file version (list_of text))) ∷ []

-- whether a file is open behind it
abbrev pub opens : Bool → Result Msg LineRefusal → Bool
opens opened (Err refusal) = opened
opens opened (Ok End) = opened
opens opened (Ok (Open file version text)) = true

abbrev pub entries_of : List Step → List Entry
entries_of steps = map (λ step. step.entry) steps

abbrev pub texts_of : List Step → List ℕ
texts_of steps = flat_map (λ step. step.text) steps

-- some first steps were taken: they are in the journal, and some first bytes of what they write were put
pub record Partly (steps : List Step) (old new : List Entry) (written written' : Option (List ℕ)) : Type 0 where
  pub done : List Step
  pub undone : List Step
  pub steps_are : steps ≡ done ++ undone
  pub journal : new ≡ old ++ entries_of done
  pub put : List ℕ
  pub unput : List ℕ
  pub text_is : texts_of done ≡ put ++ unput
  pub written_is : written' ≡ behind written put

-- a line was taken with all its steps, or its steps were broken off
abbrev pub Took : {E : Type 0} → Result Bool E → List Step → Bool → List Entry → List Entry → Option (List ℕ) → Option (List ℕ) → Type 0
Took (Ok ended) steps is_end old new written written' = (ended ≡ is_end) × (new ≡ old ++ entries_of steps) × (written' ≡ behind written (texts_of steps))
Took (Err broken) steps is_end old new written written' = Partly steps old new written written'
