-- What the command `sample` has come to when it stops. Its terms are those of POSIX.1-2017, System Interfaces, `write`.
use Rattle.std.specs.Prelude.{◌≡◌, ℕ, Option, List, []}
use Rattle.py_base.specs.declared.diag.Diag.{Diag}
use Rattle.edge_io.specs.Stream.{behind}
use Rattle.serial_server.specs.declared.status.Status.{Status}
use Rattle.serial_server.specs.declared.status.Status.TheVariants.{Done, Found, Usage, ReadFault, WriteFault, NoMemory, TooLong, NotText}
use Rattle.serial_server.specs.Served.{code_of, IsPrefix}
use Rattle.text_commands.specs.Sample.{sample_module, summary}

-- What a list of a text is, is a parameter.
module _ (HasList : List ℕ → List Diag → Type 0) where
  -- what holds at each status, of the number of functions and of the bytes put; there is no other
  abbrev pub SampleOutcome : Status → ℕ → List ℕ → Type 0
  SampleOutcome Done n put = (list : List Diag) × HasList (sample_module n) list × (put ≡ summary n (sample_module n) list)
  SampleOutcome WriteFault n put = (list : List Diag) × HasList (sample_module n) list × IsPrefix put (summary n (sample_module n) list)
  SampleOutcome NoMemory n put = put ≡ []
  SampleOutcome Found n put = ⊥
  SampleOutcome Usage n put = ⊥
  SampleOutcome ReadFault n put = ⊥
  SampleOutcome TooLong n put = ⊥
  SampleOutcome NotText n put = ⊥

  -- what was put behind what was written, with the outcome of the status
  pub record Shows (status : Status) (n : ℕ) (written written' : Option (List ℕ)) : Type 0 where
    pub put : List ℕ
    pub written_is : written' ≡ behind written put
    pub outcome : SampleOutcome status n put

  -- what `sample` of n functions has done when it stops, by the number of its status
  pub record Samples (code n : ℕ) (written written' : Option (List ℕ)) : Type 0 where
    pub status : Status
    pub code_is : code ≡ code_of status
    pub shows : Shows status n written written'
