-- What the doors of the queue and of sending give, from what the functions behind them answer.
use Rattle.std.specs.Prelude.{◌≡◌, ℕ, List, replicate, Option, Some, None, Err, Ok, Result}
use Rattle.rules.specs.Limits.{greatest_frame}
use Rattle.queue.specs.declared.ArrayQueue.{ArrayQueue}
use Rattle.rules.specs.declared.types.CanTransferId.{CanTransferId}
use Rattle.rules.specs.declared.stats.FrameStats.{FrameStats}
use Rattle.rules.specs.declared.data.Mtu.{Mtu}
use Rattle.rules.specs.declared.send.Outgoing.{Outgoing}
use Rattle.rules.specs.declared.refusal.Refusal.{Refusal}
use Rattle.rules.specs.Frames.{Frame}
use Rattle.rules.specs.Queue.{first, placed}
use Rattle.rules.specs.Plan.{planned}
use Rattle.rules.specs.Sending.{answer}
use Rattle.rules.specs.Refusals.{number_of}
use Rattle.rules.specs.declared.send.Transfer.{Transfer}
use Rattle.queue.specs.declared.Held.{Held}
use Rattle.queue.specs.Place.{held_of}
use Rattle.queue.specs.Queue.{contents, free, Places, Pops}
use Rattle.tx.specs.Send.{verdict, Sends}
use Rattle.dolomisc.specs.declared.answers.Answer.{Answer}
use Rattle.dolomisc.specs.declared.queueing.Frame.{Frame as FlatFrame}
use Rattle.dolomisc.specs.declared.sending.FlatTransfer.{FlatTransfer}
use Rattle.dolomisc.specs.declared.sending.Given.{Given}
use Rattle.dolomisc.specs.declared.sending.Plan.{Plan}
use Rattle.dolomisc.specs.Flat.{told, yes, marks_told, header_from}
use Rattle.tx.specs.declared.CanTransmitter.{CanTransmitter}

-- ---- the queue

-- the queue that was made, or the one before it
abbrev pub queue_made : Result ArrayQueue Refusal → ArrayQueue → ArrayQueue
queue_made (Ok q) before = q
queue_made (Err r) before = before

-- through a door a frame f was to be put among those queued, by the rule `put`: the answer is told, and what is left is as the queue promises
pub record PlacedThrough (put : Frame → List Frame → List Frame) (q : ArrayQueue) (places : List (List ℕ)) (f : Frame) (r : Answer) (q' : ArrayQueue) (places' : List (List ℕ)) : Type 0 where
  pub told : r ≡ told (placed (free q places) f)
  pub left : Places put q places f (record { queue = q'; answer = placed (free q places) f }) places'

-- a frame that was found; of none every field but `what` is zero
abbrev pub held_told : Option Held → FlatFrame
held_told (Some h) = record { length = h.length; marks = marks_told h.marks; what = 0; bytes = h.bytes }
held_told None =
    record { length = 0; marks = record { stamp = 0; id = 0; loopback = 0 }; what = 2; bytes = replicate greatest_frame 0 }

-- through a door the first frame was popped: it is told, and what is left is as the queue promises
pub record PoppedThrough (q : ArrayQueue) (places : List (List ℕ)) (r : FlatFrame) (q' : ArrayQueue) : Type 0 where
  pub told : r ≡ held_told (held_of (first (contents q places)))
  pub left : Pops q places (record { queue = q'; held = held_of (first (contents q places)) })

-- ---- sending

abbrev pub transfer_from : FlatTransfer → Transfer
transfer_from t = record {
  header = header_from t.header;
  transfer_id = record { 0 = t.transfer_id };
  stamp = t.stamp;
  loopback = yes t.loopback;
}

-- how a transfer goes out of what the caller keeps, or the first refusal
abbrev pub verdict_through : CanTransmitter → ArrayQueue → List (List ℕ) → FlatTransfer → List ℕ → Result Outgoing Refusal
verdict_through t q places transfer payload = verdict t q places (transfer_from transfer) payload

-- through a door a transfer was sent, with this verdict j: the answer is told, and what is left is as a send promises
pub record SentThrough (j : Result Outgoing Refusal) (t : CanTransmitter) (q : ArrayQueue) (places : List (List ℕ)) (transfer : FlatTransfer) (payload : List ℕ) (r : Answer) (t' : CanTransmitter) (q' : ArrayQueue) (places' : List (List ℕ)) : Type 0 where
  pub told : r ≡ told (answer j)
  pub left : Sends j t q places (transfer_from transfer) payload (record { transmitter = t'; queue = q'; answer = answer j }) places'

abbrev pub given_told : Result CanTransferId Refusal → Given
given_told (Ok id) = record { what = 0; refusal = 0; transfer_id = id.0 }
given_told (Err r) = record { what = 4; refusal = number_of r; transfer_id = 0 }

abbrev pub plan_refused : ℕ → Plan
plan_refused n = record { frames = 0; padding = 0; what = 4; refusal = n }

abbrev pub plan_told : Result FrameStats Refusal → Plan
plan_told (Ok s) = record { frames = s.frames; padding = s.last_frame_padding; what = 0; refusal = 0 }
plan_told (Err r) = plan_refused (number_of r)

-- the plan for a payload of n bytes
abbrev pub planned_for : ℕ → Result Mtu Refusal → Plan
planned_for n (Ok u) = plan_told (planned u n)
planned_for n (Err r) = plan_refused (number_of r)
