-- The CAN ID, 29 bits. Document 01: "priority at bits 26 to 28; source at 0 to 6. Message: bit 25 clear, subject at 8 to 20, bits 21 and 22 set when sent and
-- not looked at when read, bit 24 set when anonymous, bits 23 and 7 clear. Service: bit 25 set, bit 24 set for a request, bit 23 clear, service at 14 to 22,
-- destination at 7 to 13." An anonymous sender's source field: "XOR of 0x55 and all payload bytes, padding left out, low seven bits; 126 and 127 become 125."
use Rattle.std.specs.Prelude.{ℕ, ◌+◌, ◌-◌, ◌*◌, ◌/◌, ◌%◌, ◌^◌, min, Bool, true, false, cond, not, ◌&&◌, ◌||◌, List, ◌==◌, bit_xor, nat_le, Err, None, Ok, Option, Result, Some}
use Rattle.rules.specs.declared.data.CanId.{CanId}
use Rattle.rules.specs.declared.types.CanNodeId.{CanNodeId}
use Rattle.rules.specs.declared.refusal.Refusal.{Refusal}
use Rattle.std.specs.List.{fold}
use Rattle.rules.specs.declared.refusal.Refusal.TheVariants.{CanId as CanIdTooLarge, Field, ReservedBit}
use Rattle.rules.specs.declared.header.MessageHeader.{MessageHeader}
use Rattle.rules.specs.declared.header.ServiceHeader.{ServiceHeader}
use Rattle.rules.specs.declared.header.Header.{Header}
use Rattle.rules.specs.declared.header.Header.TheVariants.{Message, Request, Response}
use Rattle.rules.specs.Limits.{greatest_priority, greatest_subject, greatest_service, greatest_node, greatest_can_id, nodes}

-- ---- made

-- a flag as a bit
abbrev pub bit : Bool → ℕ
bit b = cond b 1 0

abbrev pub message_id : ℕ → ℕ → ℕ → Bool → ℕ
message_id priority subject source anonymous = priority * 2 ^ 26 + bit anonymous * 2 ^ 24 + 2 ^ 22 + 2 ^ 21 + subject * 2 ^ 8 + source

abbrev pub service_id : ℕ → ℕ → ℕ → ℕ → Bool → ℕ
service_id priority service destination source request =
    priority * 2 ^ 26 + 2 ^ 25 + bit request * 2 ^ 24 + service * 2 ^ 14 + destination * 2 ^ 7 + source

-- the sum without carry of x and all of a list
abbrev pub xor_all : ℕ → List ℕ → ℕ
xor_all x bs = fold bit_xor x bs

-- the source field of an anonymous sender
abbrev pub pseudo_source : List ℕ → ℕ
pseudo_source payload = min (greatest_node - 2) (xor_all 0x55 payload % nodes)

-- an ID is made where every field is within its limit; otherwise refusal 12
abbrev pub made_where : Bool → ℕ → Result CanId Refusal
made_where valid id = cond valid (Ok (record { 0 = id })) (Err Field)

abbrev pub message_made : ℕ → ℕ → ℕ → Bool → Result CanId Refusal
message_made priority subject source anonymous =
    made_where (nat_le priority greatest_priority && nat_le subject greatest_subject && nat_le source greatest_node) (message_id priority subject source anonymous)

abbrev pub service_made : ℕ → ℕ → ℕ → ℕ → Bool → Result CanId Refusal
service_made priority service destination source request =
    made_where (nat_le priority greatest_priority && nat_le service greatest_service && nat_le destination greatest_node && nat_le source greatest_node)
    (service_id priority service destination source request)

-- a message goes out under its node, or under the pseudo source of its payload, marked anonymous
abbrev pub message_from : Option CanNodeId → ℕ → ℕ → List ℕ → Result CanId Refusal
message_from (Some n) priority subject payload = message_made priority subject n.0 false
message_from None priority subject payload = message_made priority subject (pseudo_source payload) true

-- a service transfer with no source is refusal 12
abbrev pub service_from : Option CanNodeId → ℕ → ℕ → ℕ → Bool → Result CanId Refusal
service_from (Some n) priority service destination request = service_made priority service destination n.0 request
service_from None priority service destination request = Err Field

abbrev pub service_can_id : ServiceHeader → Bool → Result CanId Refusal
service_can_id h request = service_from h.source h.priority.0 h.service.0 h.destination.0 request

-- the CAN ID under which a transfer with this header and payload is sent
unfoldable pub can_id_of : Header → List ℕ → Result CanId Refusal
can_id_of (Message h) payload = message_from h.source h.priority.0 h.subject.0 payload
can_id_of (Request h) payload = service_can_id h true
can_id_of (Response h) payload = service_can_id h false

-- ---- read

-- the field of k bits from bit p on
abbrev pub bits_at : ℕ → ℕ → ℕ → ℕ
bits_at id p k = id / 2 ^ p % 2 ^ k

abbrev pub is_set : ℕ → ℕ → Bool
is_set id p = bits_at id p 1 == 1

-- bit 23 is reserved in every ID, bit 7 in that of a message
abbrev pub reserved : ℕ → Bool
reserved id = is_set id 23 || (not (is_set id 25) && is_set id 7)

-- a message's source; an anonymous one names none
abbrev pub source_of : ℕ → Option CanNodeId
source_of id = cond (is_set id 24) None (Some (record { 0 = bits_at id 0 7 }))

abbrev pub message_header_of : ℕ → MessageHeader
message_header_of id = record { priority = record { 0 = bits_at id 26 3 }; subject = record { 0 = bits_at id 8 13 }; source = source_of id }

abbrev pub service_header_of : ℕ → ServiceHeader
service_header_of id =
    record {
      priority = record { 0 = bits_at id 26 3 };
      service = record { 0 = bits_at id 14 9 };
      destination = record { 0 = bits_at id 7 7 };
      source = Some (record { 0 = bits_at id 0 7 });
    }

-- the header that an ID says; bits 21 and 22 are not looked at
abbrev pub header_of : ℕ → Header
header_of id = cond (is_set id 25) (cond (is_set id 24) (Request (service_header_of id)) (Response (service_header_of id))) (Message (message_header_of id))

-- what an ID says: a reserved bit is refusal 4
abbrev pub said_by : ℕ → Result Header Refusal
said_by id = cond (reserved id) (Err ReservedBit) (Ok (header_of id))

-- a CAN ID as it is received: 2^29 or more is refusal 1
unfoldable pub parsed_can_id : ℕ → Result Header Refusal
parsed_can_id id = cond (nat_le id greatest_can_id) (said_by id) (Err CanIdTooLarge)
