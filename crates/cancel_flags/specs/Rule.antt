-- The rule of the flags: each of 320 words is 0 or a number that the raiser's view lists as raised in that slot, and so is each number that a poll found.
-- No standard speaks of it: one thread, the raiser, writes the words, and others, the watchers, look at them.
use Rattle.std.specs.Prelude.{◌≡◌, ◌⊎◌, ℕ, List, [], ◌∷◌, ◌++◌, All, Contains, length, replicate, slice_index, slice_set}
use mathlib.Core.Option.{some}
use lib.ListN.{get_elem?}
use Rattle.atomic_table.specs.Table.{State}
use Rattle.cancel_flags.specs.declared.view.View.{View}

-- The rule

-- what is found in a slot is 0, or a number that stands in the list as raised in that slot
abbrev pub IsRaised : List (ℕ × ℕ) → ℕ → ℕ → Type 0
IsRaised raised slot number = (number ≡ 0) ⊎ Contains raised (slot, number)

abbrev pub AreRaised : List (ℕ × ℕ) → List (ℕ × ℕ) → Type 0
AreRaised raised found = All (λ f. IsRaised raised f.0 f.1) found

-- a watcher that has polled nothing, and a view that is spent: it lists nothing
abbrev pub new_watcher : View
new_watcher = record { words = []; raised = []; found = [] }

-- the raiser has the first seat
abbrev pub raiser_of : List View → View
raiser_of [] = new_watcher
raiser_of (view ∷ views) = view

pub record IsRuled (s : State (Unit {0}) View) : Type 0 where
  pub slots : length s.words ≡ 320
  pub known : s.words ≡ (raiser_of s.views).words
  pub raised : (slot : ℕ) → IsRaised (raiser_of s.views).raised slot (slice_index s.words slot)
  pub found : (seat : ℕ) (view : View) → get_elem? s.views seat ≡ some view → AreRaised (raiser_of s.views).raised view.found

-- What the five kinds of atomic step do to the view of the seat that makes the step. They leave all other views alone, but that a joined seat's view is spent

-- at the start each word is 0; a split gives a new watcher, and leaves the raiser's view
abbrev pub new_raiser : View
new_raiser = record { words = replicate 320 0; raised = []; found = [] }

-- a raise: the word becomes the number, and the list has it
abbrev pub after_raise : ℕ → ℕ → View → View
after_raise slot number v = record { words = slice_set v.words slot number; raised = (slot, number) ∷ v.raised; found = v.found }

-- a clear: the word becomes 0, and the list stays
abbrev pub after_clear : ℕ → View → View
after_clear slot v = record { words = slice_set v.words slot 0; raised = v.raised; found = v.found }

-- a poll: the number found is noted
abbrev pub after_poll : ℕ → ℕ → View → View
after_poll slot number v = record { words = v.words; raised = v.raised; found = (slot, number) ∷ v.found }

-- a join: what the watcher found is noted by the raiser
abbrev pub after_join : View → View → View
after_join v watcher = record { words = v.words; raised = v.raised; found = watcher.found ++ v.found }
