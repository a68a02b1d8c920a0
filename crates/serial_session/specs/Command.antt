-- The words of a command, which are those behind the program's own name.
use Rattle.std.specs.Prelude.{ℕ, List, [], ◌∷◌, Bool, false, Option, Some, None, codes, if◌then◌else◌, ◌&&◌}
use Rattle.std.specs.Str.{bytes_eq}
use Rattle.serial_session.specs.declared.command.Command.{Command}
use Rattle.serial_session.specs.declared.command.Command.TheVariants.{Serve}

-- the two lists of words that are a command of this stage: `serve`, and `serve --workers 0`
abbrev pub is_serve : List (List ℕ) → Bool
is_serve [] = false
is_serve (word ∷ []) = bytes_eq word (codes "serve")
is_serve (word ∷ option ∷ []) = false
is_serve (word ∷ option ∷ number ∷ []) = bytes_eq word (codes "serve") && (bytes_eq option (codes "--workers") && bytes_eq number (codes "0"))
is_serve (word ∷ option ∷ number ∷ more ∷ rest) = false

-- the command that the words are; no command where they are none, which is called Usage
abbrev pub command_of : List (List ℕ) → Option Command
command_of words = if is_serve words then Some Serve else None
