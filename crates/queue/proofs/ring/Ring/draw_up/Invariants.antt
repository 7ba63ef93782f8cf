-- The search goes from the head on and moves each frame that is below the ID: these stand before the gap, which is at p.
use Rattle.std.proofs.Common.{◌≡◌, ◌<◌}
use Rattle.queue.specs.Ring.{slot_of}
use Rattle.queue.proofs.Gaps.{Below}
use Rattle.queue.proofs.ring.Ring.draw_up.Given as goal

abbrev pub invariant-loop-j : goal.invariant-loop-j
invariant-loop-j l = record {
  kept : Below l.self.head l.self.cap l.n l.fn.places l.id l.places l.j;
  at_p : l.p ≡ slot_of l.self.head l.self.cap l.j;
  inside : l.p < l.self.cap;
}
