-- Worked answers of the receiver that the bench sheet does not have, by computation: the order in which a frame is judged, which frames are ours, anonymous frames,
-- making, and a session that no run leaves.
use Rattle.std.specs.Prelude.{Err, None, Ok, Some}
use Rattle.std.proofs.Common.{◌≡◌, ℕ, true, false, List, [], ◌∷◌, replicate, refl}
use Rattle.rules.specs.declared.refusal.Refusal.TheVariants.{ExtentTooLarge, Field}
use Rattle.rules.specs.declared.receive.Part.TheVariants.{OfFrame}
use Rattle.rules.specs.declared.slots.Slot.{Slot as TheSlot}
use Rattle.rules.specs.declared.subscription.ServicePort.{ServicePort}
use Rattle.rules.specs.declared.subscription.Port.{Port}
use Rattle.rules.specs.declared.subscription.Port.TheVariants.{Message, Request, Response}
use Rattle.rules.specs.CanId.{parsed_can_id, header_of}
use Rattle.rules.specs.Slot.{admitted}
use Rattle.rules.specs.Session.{joined, stored}
use Rattle.rules.specs.Answers.{Answer, delivers, not_ours, refuses}
use Rattle.rules.specs.Source.{ended, continued, in_session, goes_on, turn}
use Rattle.rules.specs.Receiver.{made, fresh_slots, reading, cell_at, at_source, judged, received}

-- the answer to a frame under this CAN ID, of a subscription with an extent of two bytes, fresh slots and a store of so many bytes
abbrev answer : Port → ℕ → ℕ → List ℕ → Answer
answer port room id bytes =
    (received (record { port = port; timeout = 32; extent = 2 }) (record { slots = fresh_slots; store = replicate room 0 })
    (record { stamp = 0; id = id; loopback = false; bytes = bytes })).answer

abbrev scans : Port
scans = Message (record { 0 = 256 })

abbrev port : ServicePort
port = record { service = record { 0 = 430 }; node = record { 0 = 5 } }

-- each frame has the faults of all below it, but a frame of no bytes is not also too long: 7, 2, 3, 1, 4, not ours, 5
pub order_of_refusals :
    (answer scans 255 0x3080_0180 [] ≡ refuses 7) × (answer scans 256 0x3080_0180 [] ≡ refuses 2) × (answer scans 256 0x3080_0180 (replicate 65 0) ≡ refuses 3)
    × (answer scans 256 0x3080_0180 (replicate 64 0) ≡ refuses 1) × (answer scans 256 0x1080_0180 (0 ∷ []) ≡ refuses 4)
    × (answer scans 256 0x1000_012A (0 ∷ []) ≡ not_ours) × (answer scans 256 0x1001_002A (0 ∷ []) ≡ refuses 5)
unfolding received judged reading parsed_can_id at_source cell_at turn goes_on admitted
order_of_refusals = (refl, refl, refl, refl, refl, refl, refl)

-- a message is ours by its subject, neither a lower nor a higher one
pub own_subject : (answer scans 256 0x1000_FF2A (0 ∷ []) ≡ not_ours) × (answer scans 256 0x1001_012A (0 ∷ []) ≡ not_ours)
unfolding received judged reading parsed_can_id at_source cell_at turn goes_on admitted
own_subject = (refl, refl)

-- a service transfer is ours by its kind, its service and its destination: case 4's request goes to requests of service 430 at node 5 alone
pub own_service :
    (answer (Request port) 256 0x076B_8289 (0 ∷ []) ≡ refuses 5) × (answer (Response port) 256 0x076B_8289 (0 ∷ []) ≡ not_ours)
    × (answer (Request port) 256 0x076B_8309 (0 ∷ []) ≡ not_ours) × (answer (Request port) 256 0x076B_C289 (0 ∷ []) ≡ not_ours)
unfolding received judged reading parsed_can_id at_source cell_at turn goes_on admitted
own_service = (refl, refl, refl, refl)

-- an anonymous frame is delivered, whatever its tail bits, with all its bytes: four of them at an extent of two
pub anonymous_uncut :
    answer scans 256 0x1101_0055 (1 ∷ 2 ∷ 3 ∷ 4 ∷ 0 ∷ [])
    ≡ delivers (record { header = header_of 0x1101_0055; transfer_id = record { 0 = 0 }; stamp = 0; loopback = false; part = OfFrame 4 })
unfolding received judged reading parsed_can_id
anonymous_uncut = refl

-- making is refused by 12, then 8
pub order_of_making :
    (made (Message (record { 0 = 8192 })) 0 1025 ≡ Err Field) × (made (Message (record { 0 = 8191 })) 0 1025 ≡ Err ExtentTooLarge)
    × (made (Message (record { 0 = 8191 })) 0 1024 ≡ Ok (record { port = Message (record { 0 = 8191 }); timeout = 0; extent = 1024 }))
order_of_making = (refl, refl, refl)

-- a slot whose session has residue 0 and fewer than two bytes, as no run leaves it
abbrev short : TheSlot
short = record {
  expected = record { 0 = 0 };
  last_time = None;
  session = Some (record { stamp = 0; loopback = false; expect_start = false; expect_toggle = true; crc = 0; total = 0 });
}

-- at the end bit it is refused by 6 all the same
pub short_refused : (goes_on short (0 ∷ 0 ∷ [])
    (record { header = header_of 0; tail = record { start = false; end = true; toggle = true; transfer_id = record { 0 = 0 } }; stamp = 0; loopback = false }) []
    ).answer ≡ refuses 6
unfolding goes_on in_session continued ended joined stored
short_refused = refl
