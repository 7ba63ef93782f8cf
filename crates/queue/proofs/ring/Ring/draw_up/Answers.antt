-- Each frame that is moved joins those before the gap, and the gap is then one place behind.
use Rattle.std.proofs.Common.{rules, ◌≡◌, ◌∙◌, ◌+◌, ◌≤◌, ◌<◌, [], sym, arith, get_or}
use Rattle.queue.specs.Place.{frame_of}
use Rattle.queue.proofs.Slots.{slot_zero, to_behind}
use Rattle.queue.proofs.Gaps.{below_none, below_more, below_found, below_all}
use Rattle.queue.proofs.ring.Ring.draw_up.Goals as goal

pub loop-j-init : goal.loop-j-init
loop-j-init c = record {
  kept = below_none _ _ _ _ (omega arith) (omega arith) _;
  at_p = sym (slot_zero _ _ (omega arith));
  inside = omega arith;
}

-- the place that is looked at is the one behind the gap
pub returns-then-id-id_of : goal.returns-then-id-id_of
returns-then-id-id_of c =
    let e = c.after-q.ensures.0 ∙ to_behind c.args.self.head c.args.self.cap (c.loop-j.j + 1) c.loop-j.j c.loop-j.p (omega arith) (omega arith) (omega arith) c.loop-j.invariant.at_p in
    let at_most : c.args.id ≤ (frame_of (get_or c.loop-j.places c.after-q.result [])).id = omega (arith, c.id_of.ensures) in
    below_found _ _ _ _ (omega arith) (omega arith) _ _ _ _ _ (omega arith) c.loop-j-test.true e c.loop-j.invariant.kept at_most

pub loop-j-preserved : goal.loop-j-preserved
loop-j-preserved c =
    let e = c.after-q.ensures.0 ∙ to_behind c.args.self.head c.args.self.cap (c.loop-j.j + 1) c.loop-j.j c.loop-j.p (omega arith) (omega arith) (omega arith) c.loop-j.invariant.at_p in
    let past : (frame_of (get_or c.loop-j.places c.after-q.result [])).id < c.args.id = omega (arith, c.id_of.ensures) in
    record {
      kept = below_more _ _ _ _ (omega arith) (omega arith) _ _ _ _ _ _ (omega arith) c.loop-j-test.true e c.loop-j.invariant.at_p (omega arith) c.loop-j.invariant.kept past;
      at_p = e;
      inside = search rules;
    }

pub returns : goal.returns
returns c =
    let all : c.loop-j.j ≡ c.args.n = omega arith in
    below_all _ _ _ _ (omega arith) (omega arith) _ _ (rw all at c.loop-j.invariant.kept)
