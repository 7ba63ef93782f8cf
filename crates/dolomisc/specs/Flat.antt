-- What goes through the doors in flat numbers, as include/dolomisc.h has them: what happened, headers, and the marks of a frame. A flag is any byte, and 0 alone is
-- "no". A kind is 0 for a message, 1 for a request and 2 for a response; what is of another kind is for a subject that there is not, so that it is refused by 12
-- wherever it is judged. 255 stands in the place of a node where there is none.
use Rattle.std.specs.Prelude.{ℕ, Bool, cond, not, eqb, Err, None, Ok, Option, Result, Some}
use Rattle.rules.specs.declared.types.CanNodeId.{CanNodeId}
use Rattle.rules.specs.CanId.{bit}
use Rattle.rules.specs.Refusals.{number_of}
use Rattle.rules.specs.declared.refusal.Refusal.{Refusal}
use Rattle.rules.specs.declared.frame.Marks.{Marks}
use Rattle.rules.specs.declared.header.MessageHeader.{MessageHeader}
use Rattle.rules.specs.declared.header.ServiceHeader.{ServiceHeader}
use Rattle.rules.specs.declared.header.Header.{Header}
use Rattle.rules.specs.declared.header.Header.TheVariants.{Message, Request, Response}
use Rattle.rules.specs.declared.subscription.ServicePort.{ServicePort}
use Rattle.rules.specs.declared.subscription.Port.{Port}
use Rattle.rules.specs.declared.subscription.Port.TheVariants.{Message as MessagePort, Request as RequestPort, Response as ResponsePort}
use Rattle.dolomisc.specs.declared.answers.Answer.{Answer}
use Rattle.dolomisc.specs.declared.headers.FlatHeader.{FlatHeader}
use Rattle.dolomisc.specs.declared.headers.FlatMarks.{FlatMarks}

-- ---- what happened

abbrev pub did : Answer
did = record { what = 0; refusal = 0 }

abbrev pub refused_by : Refusal → Answer
refused_by r = record { what = 4; refusal = number_of r }

-- whatever was to be done, whether it was
abbrev pub told : {A : Type 0} → Result A Refusal → Answer
told (Ok _) = did
told (Err r) = refused_by r

-- ---- the marks of a frame

-- whether a byte says yes
abbrev pub yes : ℕ → Bool
yes n = not (eqb n 0)

abbrev pub marks_from : FlatMarks → Marks
marks_from m = record { stamp = m.stamp; id = m.id; loopback = yes m.loopback }

abbrev pub marks_told : Marks → FlatMarks
marks_told m = record { stamp = m.stamp; id = m.id; loopback = bit m.loopback }

-- ---- what comes in

abbrev pub source_from : ℕ → Option CanNodeId
source_from n = cond (eqb n 255) None (Some (record { 0 = n }))

abbrev pub message_to : ℕ → FlatHeader → MessageHeader
message_to subject h = record { priority = record { 0 = h.priority }; subject = record { 0 = subject }; source = source_from h.source }

abbrev pub service_from : FlatHeader → ServiceHeader
service_from h = record {
  priority = record { 0 = h.priority };
  service = record { 0 = h.port };
  source = source_from h.source;
  destination = record { 0 = h.destination };
}

-- one of the three by its kind, or the last where there is no such kind
abbrev pub by_kind : {A : Type 0} → ℕ → A → A → A → A → A
by_kind kind message request response other = cond (eqb kind 0) message (cond (eqb kind 1) request (cond (eqb kind 2) response other))

-- no subject has this number
abbrev pub no_subject : ℕ
no_subject = 65535

abbrev pub header_from : FlatHeader → Header
header_from h = by_kind h.kind (Message (message_to h.port h)) (Request (service_from h)) (Response (service_from h)) (Message (message_to no_subject h))

abbrev pub service_at : ℕ → ℕ → ServicePort
service_at port node = record { service = record { 0 = port }; node = record { 0 = node } }

abbrev pub port_from : ℕ → ℕ → ℕ → Port
port_from kind port node =
    by_kind kind (MessagePort (record { 0 = port })) (RequestPort (service_at port node)) (ResponsePort (service_at port node)) (MessagePort (record { 0 = no_subject }))

-- ---- what goes out

abbrev pub node_told : Option CanNodeId → ℕ
node_told None = 255
node_told (Some n) = n.0

abbrev pub message_told : MessageHeader → FlatHeader
message_told h = record { port = h.subject.0; kind = 0; priority = h.priority.0; source = node_told h.source; destination = 255 }

abbrev pub service_told : ℕ → ServiceHeader → FlatHeader
service_told kind h =
    record { port = h.service.0; kind = kind; priority = h.priority.0; source = node_told h.source; destination = h.destination.0 }

abbrev pub header_told : Header → FlatHeader
header_told (Message h) = message_told h
header_told (Request h) = service_told 1 h
header_told (Response h) = service_told 2 h
