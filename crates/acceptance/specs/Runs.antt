-- Runs of `Subscription::accept`. The caller lends the same words and the same store at each call, and asks `payload` for an answer's bytes right after it.
use Rattle.std.specs.Prelude.{Bool, List, [], ℕ, get_or}
use Rattle.rules.specs.declared.subscription.Settings.{Settings}
use Rattle.rules.specs.declared.slots.Slot.{Slot}
use Rattle.rules.specs.Frames.{Frame}
use Rattle.rules.specs.Answers.{shown}
use Rattle.rules.specs.Histories.{Told, Reply, run_of, hears_after}
use Rattle.slots.specs.Words.{slot_of}
use Rattle.rx.specs.Accept.{Closing, accepted}

-- what the caller lends
pub record Lent : Type 0 where
  pub words : List (List ℕ)
  pub store : List ℕ

-- a call: its answer, and the words and the store that it leaves
abbrev pub called : Settings → Lent → Frame → Closing
called s m f = accepted s m.words m.store f

abbrev pub left_by : Closing → Lent
left_by c = record { words = c.words; store = c.store }

-- the answer to a frame, with the bytes that `payload` returns for it
abbrev pub answered : Frame → Closing → Told
answered f c = record { answer = c.answer; bytes = shown c.answer f.bytes c.store }

abbrev pub calls : Settings → Lent → Frame → Reply Lent
calls s m f = record { told = answered f (called s m f); left = left_by (called s m f) }

-- the memory after a run of calls
abbrev pub ran : Settings → Lent → List Frame → Lent
ran s m fs = run_of (calls s) m fs

-- the slot of source n, as its words are read
abbrev pub slot_in : Lent → ℕ → Slot
slot_in m n = slot_of (get_or m.words n [])

-- whoever lends m to the code: what is told after a history, the slot of source n then, and the store, as the book speaks of them
abbrev pub in_code : Settings → Lent → (Frame → Bool) → List Frame → List Frame → List Told
in_code s m test history fs = hears_after (calls s) m test history fs

abbrev pub slot_in_code : Settings → Lent → ℕ → List Frame → Slot
slot_in_code s m n history = slot_in (ran s m history) n

abbrev pub store_in_code : Settings → Lent → List Frame → List ℕ
store_in_code s m history = (ran s m history).store
