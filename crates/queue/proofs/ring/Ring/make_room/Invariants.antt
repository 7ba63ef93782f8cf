-- The search goes from the last frame towards the head and moves each frame that is above the ID: these stand behind the gap, which is at p.
use Rattle.std.proofs.Common.{◌≡◌, ◌<◌}
use Rattle.queue.specs.Ring.{slot_of}
use Rattle.queue.proofs.Gaps.{Above}
use Rattle.queue.proofs.ring.Ring.make_room.Given as goal

abbrev pub invariant-loop-j : goal.invariant-loop-j
invariant-loop-j l = record {
  kept : Above l.self.head l.self.cap l.n l.fn.places l.id l.places l.j;
  at_p : l.p ≡ slot_of l.self.head l.self.cap l.j;
  inside : l.p < l.self.cap;
}
