-- The gap that was made is where a push puts the frame, and the ring starts where it did.
use Rattle.std.proofs.Common.{refl, arith}
use Rattle.queue.proofs.State.{with_room}
use Rattle.queue.proofs.Putting.{opens}
use Rattle.queue.proofs.ArrayQueue.open_behind.Goals as goal

pub invariant_of-ring : goal.invariant_of-ring
invariant_of-ring c =
    let s = with_room _ _ c.requires in
    record { inside = s.0.head; small = s.0.small }

pub make_room-j-requires : goal.make_room-j-requires
make_room-j-requires c =
    let s = with_room _ _ c.requires in
    (s.1, s.0.enough)

pub slot-requires : goal.slot-requires
slot-requires c =
    let s = with_room _ _ c.requires in
    omega arith

pub returns : goal.returns
returns c =
    let s = with_room _ _ c.requires in
    opens s.0 s.1 s.0.head (λ k h. refl) c.make_room-j.ensures c.slot.ensures.0
