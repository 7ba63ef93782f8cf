-- A part that an extent can name is not refused.
use mathlib.Core.Path.{◌≡◌}
use mathlib.Core.List.{List}
use Prim.Native.Nat.{ℕ, ◌≤◌}
use lib.ListN.{length}
use borrow.Author.Tests.{le-leb}
use Rattle.rules.specs.declared.receive.Arrival.{Arrival}
use Rattle.rules.specs.declared.slots.Slot.{Slot}
use Rattle.rules.specs.Source.{goes_on}
use Rattle.session.specs.Turns.{greatest_part, went_on}

pub within : (slot : Slot) (part : List ℕ) (a : Arrival) (bytes : List ℕ) → length part ≤ greatest_part → went_on slot part a bytes ≡ goes_on slot part a bytes
within slot part a bytes h = simp (le-leb _ _ h)
