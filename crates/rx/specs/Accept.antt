-- What `Subscription` does to the memory that it is lent: 128 slots in four words each, and the store. A slot that a frame goes on with is written in one form;
-- where document 01 says "no change", the words stay as they are, whatever they are.
use Rattle.std.specs.Prelude.{ℕ, ◌*◌, ◌<◌, List, [], map, length, replicate, slice_index_or, slice_set, Err, None, Ok, Option, Result, Some}
use Rattle.rules.specs.declared.types.CanNodeId.{CanNodeId}
use Rattle.rules.specs.declared.refusal.Refusal.{Refusal}
use Rattle.rules.specs.declared.slots.Slot.{Slot}
use Rattle.rx.specs.declared.subscription.Subscription.{Subscription}
use Rattle.rules.specs.declared.subscription.Settings.{Settings}
use Rattle.rules.specs.declared.receive.Arrival.{Arrival}
use Rattle.rules.specs.Limits.{nodes}
use Rattle.rules.specs.Frames.{Frame}
use Rattle.rules.specs.Slot.{fresh_slot, admitted}
use Rattle.rules.specs.Answers.{Answer, nothing, answer_from}
use Rattle.rules.specs.Source.{Turn, goes_on}
use Rattle.rules.specs.Receiver.{Receiver, Outcome, part_of, with_part, judged}
use Rattle.slots.specs.Words.{words_of, slot_of}

-- ---- making

-- the settings of the subscription that was made, or the refusal
abbrev pub settings_made : Result Subscription Refusal → Result Settings Refusal
settings_made (Ok s) = Ok s.settings
settings_made (Err r) = Err r

-- the words after making: 128 fresh slots, or as they were
abbrev pub words_made : Result Settings Refusal → List (List ℕ) → List (List ℕ)
words_made (Ok s) words = replicate nodes (words_of fresh_slot)
words_made (Err r) words = words

-- ---- 128 sources

-- a source that has a slot
abbrev pub Known : Option CanNodeId → Type 0
Known (Some n) = n.0 < nodes
Known None = Unit {0}

-- the answer, the words and the store after a frame
pub record Closing : Type 0 where
  pub answer : Answer
  pub words : List (List ℕ)
  pub store : List ℕ

abbrev pub closes : Answer → List (List ℕ) → List ℕ → Closing
closes answer words store = record { answer = answer; words = words; store = store }

-- a turn of source n, written back
abbrev pub saved : ℕ → List (List ℕ) → List ℕ → ℕ → Turn → Closing
saved extent words store n t =
    closes (answer_from (n * extent) t.answer) (slice_set words n (words_of t.cell.slot)) (with_part extent n store t.cell.part)

abbrev pub ruled : Option Slot → ℕ → List (List ℕ) → List ℕ → ℕ → Arrival → List ℕ → Closing
ruled None extent words store n a bytes = closes nothing words store
ruled (Some slot) extent words store n a bytes = saved extent words store n (goes_on slot (part_of extent n store) a bytes)

-- a frame of source n
unfoldable pub in_words : Settings → List (List ℕ) → List ℕ → ℕ → Arrival → List ℕ → Closing
in_words s words store n a bytes =
    ruled (admitted s.timeout (slot_of (slice_index_or words n [])) a.tail.transfer_id a.stamp) s.extent words store n a bytes

-- a frame
unfoldable pub accepted : Settings → List (List ℕ) → List ℕ → Frame → Closing
accepted s words store f = judged s (length store) f (λ answer. closes answer words store) (in_words s words store)

-- ---- the words as the book has them

-- the receiver of the book that the lent memory stands for
abbrev pub viewed : List (List ℕ) → List ℕ → Receiver
viewed words store = record { slots = map slot_of words; store = store }

abbrev pub viewed_after : Closing → Outcome
viewed_after c = record { answer = c.answer; receiver = viewed c.words c.store }
