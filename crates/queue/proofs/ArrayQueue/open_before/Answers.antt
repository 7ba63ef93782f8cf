-- The gap that was made is where a return puts the frame, and the ring starts one place back.
use Rattle.std.proofs.Common.{ap, [], ℕ, ◌-◌, arith, get_or}
use Rattle.queue.proofs.State.{with_room}
use Rattle.queue.proofs.Putting.{opens}
use Rattle.queue.proofs.Slots.{slot_in, slot_back}
use Rattle.queue.proofs.ArrayQueue.open_before.Goals as goal

-- the place in front of the head is in the ring
pub invariant_of-ring : goal.invariant_of-ring
invariant_of-ring c =
    let q = c.args.self in
    let s = with_room _ _ c.requires.0 in
    record { inside = slot_in q.head q.capacity (q.capacity - 1) c.args.head s.0.head (omega arith) c.requires.1; small = s.0.small }

pub draw_up-j-requires : goal.draw_up-j-requires
draw_up-j-requires c =
    let s = with_room _ _ c.requires.0 in
    (s.1, s.0.enough)

pub slot-requires : goal.slot-requires
slot-requires c =
    let s = with_room _ _ c.requires.0 in
    omega arith

pub returns : goal.returns
returns c =
    let q = c.args.self in
    let s = with_room _ _ c.requires.0 in
    opens s.0 s.1 (slot_in q.head q.capacity (q.capacity - 1) c.args.head s.0.head (omega arith) c.requires.1)
    (λ k h. ap (λ (p : ℕ). get_or c.args.places.now p []) (rw c.requires.1 (slot_back q.head q.capacity k s.0.head (omega arith))))
    c.draw_up-j.ensures c.slot.ensures.0
