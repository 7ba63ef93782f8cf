-- Sending. Document 01: "A send places all its frames or none; equal IDs keep sending order. Two 64-bit counts, of sends done and sends refused, wrap to 0."
-- Refusals, in this order: 9 for an MTU that is neither 8 nor 64; 12 for a field out of its limits or a service transfer with no source; 10 for a payload over
-- its limit; 11 for an anonymous payload over MTU − 1 bytes; 13 for fewer free places than frames. A refused send changes nothing but its count.
use Rattle.std.specs.Prelude.{ℕ, ◌+◌, ◌%◌, ◌^◌, Bool, true, false, cond, ◌&&◌, List, [], ◌∷◌, length, nat_lt, Err, None, Ok, Option, Result, Some}
use Rattle.rules.specs.declared.types.CanNodeId.{CanNodeId}
use Rattle.rules.specs.declared.types.CanTransferId.{CanTransferId}
use Rattle.rules.specs.declared.stats.FrameStats.{FrameStats}
use Rattle.rules.specs.declared.refusal.Refusal.{Refusal}
use Rattle.rules.specs.declared.refusal.Refusal.TheVariants.{AnonymousTooLong}
use Rattle.rules.specs.declared.data.CanId.{CanId}
use Rattle.rules.specs.declared.data.Mtu.{Mtu}
use Rattle.rules.specs.declared.header.Header.{Header}
use Rattle.rules.specs.declared.header.Header.TheVariants.{Message, Request, Response}
use Rattle.rules.specs.declared.frame.Marks.{Marks}
use Rattle.rules.specs.declared.send.Transfer.{Transfer}
use Rattle.rules.specs.declared.send.Outgoing.{Outgoing}
use Rattle.rules.specs.Limits.{room_of, tried_mtu, tried_transfer_id}
use Rattle.rules.specs.CanId.{can_id_of}
use Rattle.rules.specs.Plan.{planned}
use Rattle.rules.specs.Transfer.{frames_of}
use Rattle.rules.specs.Frames.{Frame, frame}
use Rattle.rules.specs.Queue.{pushed, room_for}

-- ---- the judgement

abbrev pub unnamed : Option CanNodeId → Bool
unnamed (Some n) = false
unnamed None = true

-- only a message can be anonymous
abbrev pub anonymous : Header → Bool
anonymous (Message h) = unnamed h.source
anonymous (Request h) = false
anonymous (Response h) = false

-- 11: an anonymous payload must fit one frame
abbrev pub judged_fit : Transfer → List ℕ → Outgoing → Result Outgoing Refusal
judged_fit t payload o = cond (anonymous t.header && nat_lt (room_of o.mtu) (length payload)) (Err AnonymousTooLong) (Ok o)

-- 10: a payload over its limit has no plan
abbrev pub judged_plan : Transfer → List ℕ → Mtu → CanId → Result FrameStats Refusal → Result Outgoing Refusal
judged_plan t payload u id (Err r) = Err r
judged_plan t payload u id (Ok s) = judged_fit t payload (record { mtu = u; id = id; stats = s })

-- 12: a header with a field out of its limits has no CAN ID ..
abbrev pub judged_id : Transfer → List ℕ → Mtu → Result CanId Refusal → Result Outgoing Refusal
judged_id t payload u (Err r) = Err r
judged_id t payload u (Ok id) = judged_plan t payload u id (planned u (length payload))

-- .. and a transfer ID may be out of its limits
abbrev pub judged_transfer_id : Transfer → List ℕ → Mtu → Result CanTransferId Refusal → Result Outgoing Refusal
judged_transfer_id t payload u (Err r) = Err r
judged_transfer_id t payload u (Ok i) = judged_id t payload u (can_id_of t.header payload)

-- 9: there are two MTUs
abbrev pub judged_mtu : Transfer → List ℕ → Result Mtu Refusal → Result Outgoing Refusal
judged_mtu t payload (Err r) = Err r
judged_mtu t payload (Ok u) = judged_transfer_id t payload u (tried_transfer_id t.transfer_id.0)

-- how a transfer goes out at an MTU of so many bytes, or why not, the queue left aside
unfoldable pub judged : ℕ → Transfer → List ℕ → Result Outgoing Refusal
judged mtu t payload = judged_mtu t payload (tried_mtu mtu)

-- 13: the queue must have a place for each frame
abbrev pub with_places : Result (Unit {0}) Refusal → Outgoing → Result Outgoing Refusal
with_places (Ok _) o = Ok o
with_places (Err r) o = Err r

abbrev pub granted : ℕ → Result Outgoing Refusal → Result Outgoing Refusal
granted free (Ok o) = with_places (room_for free o.stats.frames) o
granted free (Err r) = Err r

-- ---- what a send answers and leaves

abbrev pub answer : Result Outgoing Refusal → Result (Unit {0}) Refusal
answer (Ok o) = Ok tt
answer (Err r) = Err r

-- frames with the same marks, pushed one after the other
abbrev pub all_pushed : Marks → List (List ℕ) → List Frame → List Frame
all_pushed marks [] queued = queued
all_pushed marks (bytes ∷ more) queued = all_pushed marks more (pushed (frame marks bytes) queued)

-- each frame bears the transfer's stamp and loopback flag, and its CAN ID
abbrev pub marks_of : Transfer → CanId → Marks
marks_of t id = record { stamp = t.stamp; id = id.0; loopback = t.loopback }

-- what is queued after a send: all frames of the published rule, or what was queued before
abbrev pub queued_after : Result Outgoing Refusal → Transfer → List ℕ → List Frame → List Frame
queued_after (Ok o) t payload queued = all_pushed (marks_of t o.id) (frames_of o.mtu t.transfer_id.0 payload) queued
queued_after (Err r) t payload queued = queued

-- the sends done and refused so far, modulo 2^64
pub record Counts : Type 0 where
  pub done : ℕ
  pub refused : ℕ

abbrev pub wrapped : ℕ → ℕ
wrapped n = n % 2 ^ 64

abbrev pub counted : Result Outgoing Refusal → Counts → Counts
counted (Ok o) c = record { done = wrapped (c.done + 1); refused = c.refused }
counted (Err r) c = record { done = c.done; refused = wrapped (c.refused + 1) }

-- after any list of sends
abbrev pub counted_all : List (Result Outgoing Refusal) → Counts → Counts
counted_all [] c = c
counted_all (j ∷ js) c = counted_all js (counted j c)
