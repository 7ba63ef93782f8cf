-- To whom a received CAN ID speaks, and whether from a source that is named: the book's reading of the ID, and its rule for what a port wants. An ID that is
-- refused speaks to nobody.
use Rattle.std.specs.Prelude.{Bool, false, not, cond, ◌&&◌, Err, Ok, Result}
use Rattle.rules.specs.declared.header.Header.{Header}
use Rattle.rules.specs.declared.refusal.Refusal.{Refusal}
use Rattle.rules.specs.declared.types.CanNodeId.{CanNodeId}
use Rattle.rules.specs.declared.types.ServiceId.{ServiceId}
use Rattle.rules.specs.declared.types.SubjectId.{SubjectId}
use Rattle.rules.specs.declared.subscription.Port.{Port}
use Rattle.rules.specs.declared.subscription.Port.TheVariants.{Message as Messages, Request as Requests, Response as Responses}
use Rattle.rules.specs.Sending.{unnamed}
use Rattle.rules.specs.Receiver.{wants, source_in}

-- what the ID says goes to this port, and its source is named
abbrev pub comes_to : Port → Result Header Refusal → Bool
comes_to port (Ok h) = not (unnamed (source_in h)) && wants port h
comes_to port (Err r) = false

-- a message to this subject
abbrev pub message_to : SubjectId → Result Header Refusal → Bool
message_to subject p = comes_to (Messages subject) p

-- a request, or else a response, of this service to this node
abbrev pub service_to : Bool → ServiceId → CanNodeId → Result Header Refusal → Bool
service_to request service node p =
    comes_to (cond request (Requests (record { service = service; node = node })) (Responses (record { service = service; node = node }))) p
