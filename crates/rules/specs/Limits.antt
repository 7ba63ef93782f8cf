-- The kinds of number and their limits. Document 01: "Named limits belong to their own kinds of number: priority 0 to 7, subject 0 to 8191, service 0 to 511,
-- node 0 to 127, transfer ID 0 to 31." A CAN ID has 29 bits. MTU 8 or 64; payload and extent 0 to 1,024 bytes; queue capacity 0 to 256 frames.
use Rattle.std.specs.Prelude.{ℕ, ◌+◌, ◌-◌, ◌%◌, ◌^◌, Bool, cond, ◌==◌, nat_le, Err, Ok, Result}
use Rattle.rules.specs.declared.data.CanId.{CanId}
use Rattle.rules.specs.declared.types.Priority.{Priority}
use Rattle.rules.specs.declared.refusal.Refusal.{Refusal}
use Rattle.rules.specs.declared.types.ServiceId.{ServiceId}
use Rattle.rules.specs.declared.types.SubjectId.{SubjectId}
use Rattle.rules.specs.declared.refusal.Refusal.TheVariants.{CanId as CanIdTooLarge, Field, Mtu as WrongMtu}
use Rattle.rules.specs.declared.types.CanNodeId.{CanNodeId}
use Rattle.rules.specs.declared.types.CanTransferId.{CanTransferId}
use Rattle.rules.specs.declared.data.Mtu.{Mtu}
use Rattle.rules.specs.declared.data.Mtu.TheVariants.{Can8, CanFd64}

abbrev pub greatest_priority : ℕ
greatest_priority = 7

abbrev pub greatest_subject : ℕ
greatest_subject = 8191

abbrev pub greatest_service : ℕ
greatest_service = 511

abbrev pub greatest_node : ℕ
greatest_node = 127

abbrev pub greatest_transfer_id : ℕ
greatest_transfer_id = 31

abbrev pub greatest_can_id : ℕ
greatest_can_id = 2 ^ 29 - 1

abbrev pub greatest_frame : ℕ
greatest_frame = 64

abbrev pub greatest_payload : ℕ
greatest_payload = 1024

abbrev pub greatest_extent : ℕ
greatest_extent = 1024

abbrev pub greatest_capacity : ℕ
greatest_capacity = 256

-- there are 32 transfer IDs, and 128 nodes
abbrev pub transfer_ids : ℕ
transfer_ids = greatest_transfer_id + 1

abbrev pub nodes : ℕ
nodes = greatest_node + 1

-- ---- a number as its kind, or a refusal where it is over the kind's greatest

abbrev pub within : {A : Type 0} → Refusal → ℕ → ℕ → A → Result A Refusal
within over greatest n kind = cond (nat_le n greatest) (Ok kind) (Err over)

-- refusal 12 for all kinds but one
abbrev pub tried_priority : ℕ → Result Priority Refusal
tried_priority n = within Field greatest_priority n (record { 0 = n })

abbrev pub tried_subject : ℕ → Result SubjectId Refusal
tried_subject n = within Field greatest_subject n (record { 0 = n })

abbrev pub tried_service : ℕ → Result ServiceId Refusal
tried_service n = within Field greatest_service n (record { 0 = n })

abbrev pub tried_node : ℕ → Result CanNodeId Refusal
tried_node n = within Field greatest_node n (record { 0 = n })

abbrev pub tried_transfer_id : ℕ → Result CanTransferId Refusal
tried_transfer_id n = within Field greatest_transfer_id n (record { 0 = n })

-- a CAN ID of 2^29 or more is refusal 1
abbrev pub tried_can_id : ℕ → Result CanId Refusal
tried_can_id n = within CanIdTooLarge greatest_can_id n (record { 0 = n })

-- ---- steps

-- the node of the low seven bits
abbrev pub truncated : ℕ → CanNodeId
truncated n = record { 0 = n % nodes }

-- the two highest nodes are kept for diagnostic and debugging tools
abbrev pub is_reserved : CanNodeId → Bool
is_reserved n = nat_le (greatest_node - 1) n.0

-- the transfer ID after this one, modulo 32
abbrev pub incremented : CanTransferId → CanTransferId
incremented t = record { 0 = (t.0 + 1) % transfer_ids }

-- ---- the MTU

-- the bytes of a frame
abbrev pub size_of : Mtu → ℕ
size_of Can8 = 8
size_of CanFd64 = 64

-- the room before a tail byte
abbrev pub room_of : Mtu → ℕ
room_of u = size_of u - 1

-- an MTU that is neither 8 nor 64 is refusal 9
abbrev pub tried_mtu : ℕ → Result Mtu Refusal
tried_mtu n = cond (n == 8) (Ok Can8) (cond (n == 64) (Ok CanFd64) (Err WrongMtu))
