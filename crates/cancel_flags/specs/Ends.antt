-- The two ends of the flags as a contract sees them, and what their calls do. A claim gives a job a slot, and a release frees it again.
-- No standard speaks of it.
use Rattle.std.specs.Prelude.{◌≡◌, ◌↔◌, ◌<◌, ◌==◌, ℕ, Bool, true, Option, Some, None, List, replicate, slice_index, slice_set}
use Rattle.std.specs.List.{position}
use Rattle.atomic_table.specs.Seated.{TableId}
use Rattle.cancel_flags.specs.declared.view.View.{View}
use Rattle.cancel_flags.specs.declared.slot.Slot.{Slot}
use Rattle.cancel_flags.specs.Rule.{new_raiser, new_watcher, after_raise, after_clear, after_poll, after_join}

-- the raiser: its flags, the number of the job that has each slot, 0 where the slot is free, and its view
pub record Raising : Type 0 where
  pub flags : TableId
  pub claimed : List ℕ
  pub view : View

-- a watcher: its flags and its view
pub record Polling : Type 0 where
  pub flags : TableId
  pub view : View

abbrev pub new_raising : TableId → Raising
new_raising flags = record { flags = flags; claimed = replicate 320 0; view = new_raiser }

abbrev pub new_polling : TableId → Polling
new_polling flags = record { flags = flags; view = new_watcher }

abbrev pub is_free : ℕ → Bool
is_free number = number == 0

abbrev pub IsClaimed : Raising → ℕ → Type 0
IsClaimed r slot = 0 < slice_index r.claimed slot

-- the first free slot takes the number; nothing is given and nothing changes exactly where no slot is free
abbrev pub Claims : ℕ → Raising → Option Slot → Raising → Type 0
Claims number r None r' = (position is_free r.claimed ≡ None) × (r' ≡ r)
Claims number r (Some slot) r' = (position is_free r.claimed ≡ Some slot.number) × (r' ≡ record { flags = r.flags; claimed = slice_set r.claimed slot.number number; view = r.view })

-- the word becomes the number of the job that has the slot
abbrev pub raised_in : ℕ → Raising → Raising
raised_in slot r = record { flags = r.flags; claimed = r.claimed; view = after_raise slot (slice_index r.claimed slot) r.view }

-- the word becomes 0, and the slot is free
abbrev pub released : ℕ → Raising → Raising
released slot r = record { flags = r.flags; claimed = slice_set r.claimed slot 0; view = after_clear slot r.view }

-- what the watcher found is noted
abbrev pub joined : Polling → Raising → Raising
joined w r = record { flags = r.flags; claimed = r.claimed; view = after_join r.view w.view }

-- what the one load of a poll found is noted, and the answer is true exactly where this is the number, and it is above 0
pub record Polls (slot number : ℕ) (answer : Bool) (w w' : Polling) : Type 0 where
  pub found : ℕ
  pub noted : w' ≡ record { flags = w.flags; view = after_poll slot found w.view }
  pub exact : (answer ≡ true) ↔ ((0 < number) × (found ≡ number))
