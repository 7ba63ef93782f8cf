-- What the code answers and leaves of one slot and one part, as the book's turn of one source.
use Rattle.std.specs.Prelude.{ℕ, ◌-◌, ◌^◌, cond, List, leb, length}
use Rattle.rules.specs.declared.refusal.Refusal.TheVariants.{ExtentTooLarge}
use Rattle.rules.specs.declared.receive.Arrival.{Arrival}
use Rattle.rules.specs.declared.slots.Slot.{Slot}
use Rattle.rules.specs.Answers.{answer_of, refused_by}
use Rattle.rules.specs.Source.{Turn, leaves, goes_on}
use Rattle.session.specs.declared.Step.{Step}

-- a step and the part that it leaves, as a turn
abbrev pub turn_of : Step → List ℕ → Turn
turn_of r part = leaves (answer_of r.answer) r.slot part

-- the greatest part: an extent is a number of 16 bits
abbrev pub greatest_part : ℕ
greatest_part = 2 ^ 16 - 1

-- a frame that the ID rule let through; a part over the greatest is refusal 8, and nothing changes
abbrev pub went_on : Slot → List ℕ → Arrival → List ℕ → Turn
went_on slot part a bytes = cond (leb (length part) greatest_part) (goes_on slot part a bytes) (leaves (refused_by ExtentTooLarge) slot part)
