-- An open file, as the session machine sees it: the session's own terms, which follow those of text
-- documents in the Language Server Protocol 3.17, "Text Document Synchronization".
use Rattle.std.specs.Prelude.{ℕ, List, Bool}

pub record Doc : Type 0 where
  pub version : ℕ
  pub text : List ℕ
  -- the number of the job that makes the list of this version
  pub job : ℕ
  -- whether that list was published, or the want of memory for it said
  pub published : Bool

-- the open files by their names, in the order of opening
abbrev pub Docs : Type 0
Docs = List (List ℕ × Doc)
