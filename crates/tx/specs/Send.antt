-- What a send promises, over a queue that is known by what is queued, what is free and its capacity.
use Rattle.std.specs.Prelude.{◌≡◌, ℕ, ◌+◌, ◌-◌, List, length, Err, Ok, Result}
use Rattle.rules.specs.declared.send.Outgoing.{Outgoing}
use Rattle.rules.specs.declared.refusal.Refusal.{Refusal}
use Rattle.rules.specs.declared.frame.Marks.{Marks}
use Rattle.rules.specs.declared.send.Transfer.{Transfer}
use Rattle.rules.specs.Sending.{Counts, judged, granted, answer, all_pushed, queued_after, counted}
use Rattle.queue.specs.declared.ArrayQueue.{ArrayQueue}
use Rattle.queue.specs.Queue.{contents, free, capacity_of}
use Rattle.tx.specs.declared.CanTransmitter.{CanTransmitter}
use Rattle.tx.specs.declared.Sent.{Sent}

-- a transmitter's two counts
abbrev pub counts_of : CanTransmitter → Counts
counts_of t = record { done = t.transfer_count; refused = t.error_count }

-- a transmitter with these counts, its MTU as before
abbrev pub with_counts : CanTransmitter → Counts → CanTransmitter
with_counts t c = record { mtu = t.mtu; transfer_count = c.done; error_count = c.refused }

-- how a transfer goes out, or the first refusal of 9, 12, 10, 11, 13
abbrev pub verdict : CanTransmitter → ArrayQueue → List (List ℕ) → Transfer → List ℕ → Result Outgoing Refusal
verdict t q places transfer payload = granted (free q places) (judged t.mtu transfer payload)

-- the free places after a send
abbrev pub free_after : Result Outgoing Refusal → ℕ → ℕ
free_after (Ok o) n = n - o.stats.frames
free_after (Err r) n = n

-- after a refused send the queue and the lent places are as before
abbrev pub Kept : Result Outgoing Refusal → ArrayQueue → List (List ℕ) → ArrayQueue → List (List ℕ) → Type 0
Kept (Ok o) q places q' places' = Unit {0}
Kept (Err r) q places q' places' = (q' ≡ q) × (places' ≡ places)

pub record Sends (j : Result Outgoing Refusal) (t : CanTransmitter) (q : ArrayQueue) (places : List (List ℕ)) (transfer : Transfer) (payload : List ℕ) (r : Sent) (places' : List (List ℕ)) : Type 0 where
  pub answered : r.answer ≡ answer j
  pub counts : r.transmitter ≡ with_counts t (counted j (counts_of t))
  pub queued : contents r.queue places' ≡ queued_after j transfer payload (contents q places)
  pub left : free r.queue places' ≡ free_after j (free q places)
  pub capacity : capacity_of r.queue ≡ capacity_of q
  pub kept : Kept j q places r.queue places'

-- ---- within a send

-- frames with these marks were pushed one after the other, and took as many free places
pub record Puts (marks : Marks) (fs : List (List ℕ)) (q : ArrayQueue) (places : List (List ℕ)) (q' : ArrayQueue) (places' : List (List ℕ)) : Type 0 where
  pub queued : contents q' places' ≡ all_pushed marks fs (contents q places)
  pub left : free q' places' + length fs ≡ free q places
  pub capacity : capacity_of q' ≡ capacity_of q
