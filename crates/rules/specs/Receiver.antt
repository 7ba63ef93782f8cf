-- The whole receiver: 128 slots, and one store in which "slot n's bytes .. are bytes n×extent up to (n+1)×extent". A received frame is judged in document 01's
-- order: "7, 2, 3, 1, 4, then 'not ours' (other kind, port or destination; no change), then the slot rules". Making a subscription: 12, 8.
use Rattle.std.specs.Prelude.{ℕ, ◌+◌, ◌-◌, ◌*◌, Bool, false, cond, ◌&&◌, List, ◌++◌, length, take, drop, replicate, ◌==◌, nat_le, slice_index, slice_index_or, slice_set, Err, None, Ok, Option, Result, Some}
use Rattle.rules.specs.declared.types.CanNodeId.{CanNodeId}
use Rattle.rules.specs.declared.refusal.Refusal.{Refusal}
use Rattle.rules.specs.declared.refusal.Refusal.TheVariants.{NoBytes, FrameTooLong, StoreTooSmall, ExtentTooLarge, Field}
use Rattle.rules.specs.declared.header.ServiceHeader.{ServiceHeader}
use Rattle.rules.specs.declared.header.Header.{Header}
use Rattle.rules.specs.declared.header.Header.TheVariants.{Message, Request, Response}
use Rattle.rules.specs.declared.subscription.ServicePort.{ServicePort}
use Rattle.rules.specs.declared.subscription.Port.{Port}
use Rattle.rules.specs.declared.subscription.Port.TheVariants.{Message as Messages, Request as Requests, Response as Responses}
use Rattle.rules.specs.declared.subscription.Settings.{Settings}
use Rattle.rules.specs.declared.receive.Arrival.{Arrival}
use Rattle.rules.specs.declared.receive.Part.TheVariants.{OfFrame}
use Rattle.rules.specs.declared.slots.Slot.{Slot}
use Rattle.rules.specs.Limits.{greatest_frame, greatest_extent, greatest_subject, greatest_service, greatest_node, nodes}
use Rattle.rules.specs.CanId.{parsed_can_id}
use Rattle.rules.specs.TailByte.{parsed_tail}
use Rattle.rules.specs.Frames.{Frame}
use Rattle.rules.specs.Slot.{fresh_slot}
use Rattle.rules.specs.Answers.{Answer, not_ours, refused_by, answer_from}
use Rattle.rules.specs.Source.{Cell, Turn, delivered_at, turn}

-- ---- making

-- each field of a port within its limits
abbrev pub service_valid : ServicePort → Bool
service_valid p = nat_le p.service.0 greatest_service && nat_le p.node.0 greatest_node

abbrev pub port_valid : Port → Bool
port_valid (Messages s) = nat_le s.0 greatest_subject
port_valid (Requests p) = service_valid p
port_valid (Responses p) = service_valid p

-- a subscription is made, or refused by 12, 8
abbrev pub made : Port → ℕ → ℕ → Result Settings Refusal
made port timeout extent =
    cond (port_valid port)
    (cond (nat_le extent greatest_extent) (Ok (record { port = port; timeout = timeout; extent = extent })) (Err ExtentTooLarge))
    (Err Field)

abbrev pub fresh_slots : List Slot
fresh_slots = replicate nodes fresh_slot

-- ---- what a frame is to a subscription

abbrev pub same_service : ServicePort → ServiceHeader → Bool
same_service p h = p.service.0 == h.service.0 && p.node.0 == h.destination.0

-- the kind and the port, and for services the destination
abbrev pub wants : Port → Header → Bool
wants (Messages s) (Message h) = s.0 == h.subject.0
wants (Messages s) (Request h) = false
wants (Messages s) (Response h) = false
wants (Requests p) (Message h) = false
wants (Requests p) (Request h) = same_service p h
wants (Requests p) (Response h) = false
wants (Responses p) (Message h) = false
wants (Responses p) (Request h) = false
wants (Responses p) (Response h) = same_service p h

-- the bytes before the tail byte, which is the last
abbrev pub before_tail : List ℕ → List ℕ
before_tail bytes = take (length bytes - 1) bytes

abbrev pub tail_of : List ℕ → ℕ
tail_of bytes = slice_index bytes (length bytes - 1)

abbrev pub arrival_of : Frame → Header → Arrival
arrival_of f h = record { header = h; tail = parsed_tail (tail_of f.bytes); stamp = f.stamp; loopback = f.loopback }

-- 1 and 4: the ID says no header; otherwise the header is ours or not
abbrev pub addressed : Port → Frame → Result Header Refusal → Result (Option Arrival) Refusal
addressed port f (Err r) = Err r
addressed port f (Ok h) = cond (wants port h) (Ok (Some (arrival_of f h))) (Ok None)

-- 2 and 3: a frame has 1 to 64 bytes
unfoldable pub reading : Port → Frame → Result (Option Arrival) Refusal
reading port f =
    cond (length f.bytes == 0) (Err NoBytes)
    (cond (nat_le (length f.bytes) greatest_frame) (addressed port f (parsed_can_id f.id)) (Err FrameTooLong))

-- ---- the 128 slots and the store

pub record Receiver : Type 0 where
  pub slots : List Slot
  pub store : List ℕ

-- what a frame is answered, and what it leaves
pub record Outcome : Type 0 where
  pub answer : Answer
  pub receiver : Receiver

-- the part of slot n
abbrev pub part_of : ℕ → ℕ → List ℕ → List ℕ
part_of extent n store = take extent (drop (n * extent) store)

-- the store with another part for slot n
abbrev pub with_part : ℕ → ℕ → List ℕ → List ℕ → List ℕ
with_part extent n store part = take (n * extent) store ++ part ++ drop (n * extent + extent) store

unfoldable pub cell_at : ℕ → Receiver → ℕ → Cell
cell_at extent w n = record { slot = slice_index_or w.slots n fresh_slot; part = part_of extent n w.store }

-- a turn of source n, in the whole receiver
unfoldable pub at_source : ℕ → Receiver → ℕ → Turn → Outcome
at_source extent w n t = record {
  answer = answer_from (n * extent) t.answer;
  receiver = record { slots = slice_set w.slots n t.cell.slot; store = with_part extent n w.store t.cell.part };
}

-- who sent it; a service transfer that was read has a source
abbrev pub source_in : Header → Option CanNodeId
source_in (Message h) = h.source
source_in (Request h) = h.source
source_in (Response h) = h.source

-- ---- the judgement of a received frame: `same` is the outcome where nothing changes but the answer, `slot n` that of the rules for source n

-- an anonymous frame is delivered uncut, whatever its tail bits, and touches no slot
abbrev pub by_source : {A : Type 0} → Option CanNodeId → Arrival → List ℕ → (Answer → A) → (ℕ → Arrival → List ℕ → A) → A
by_source None a bytes same slot = same (delivered_at a a.stamp a.loopback (OfFrame (length bytes)))
by_source (Some n) a bytes same slot = slot n.0 a bytes

abbrev pub by_reading : {A : Type 0} → Result (Option Arrival) Refusal → List ℕ → (Answer → A) → (ℕ → Arrival → List ℕ → A) → A
by_reading (Err r) bytes same slot = same (refused_by r)
by_reading (Ok None) bytes same slot = same not_ours
by_reading (Ok (Some a)) bytes same slot = by_source (source_in a.header) a bytes same slot

-- a frame, where the store has so many bytes: 7 for fewer than 128 parts need
unfoldable pub judged : {A : Type 0} → Settings → ℕ → Frame → (Answer → A) → (ℕ → Arrival → List ℕ → A) → A
judged s room f same slot =
    cond (nat_le (nodes * s.extent) room) (by_reading (reading s.port f) (before_tail f.bytes) same slot) (same (refused_by StoreTooSmall))

-- a frame comes to a subscription
unfoldable pub received : Settings → Receiver → Frame → Outcome
received s w f =
    judged s (length w.store) f
    (λ answer. record { answer = answer; receiver = w })
    (λ n a bytes. at_source s.extent w n (turn s.timeout (cell_at s.extent w n) a bytes))
