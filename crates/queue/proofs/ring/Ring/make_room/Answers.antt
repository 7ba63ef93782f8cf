-- Each frame that is moved joins those behind the gap, and the gap is then one place nearer to the head.
use Rattle.std.proofs.Common.{rules, ◌≡◌, ◌∙◌, ◌+◌, ◌-◌, ◌≤◌, ◌<◌, [], arith, get_or}
use Rattle.queue.specs.Place.{frame_of}
use Rattle.queue.proofs.Slots.{to_before}
use Rattle.queue.proofs.Gaps.{above_more, above_found, above_all}
use Rattle.queue.proofs.ring.Ring.make_room.Goals as goal

-- the place that is looked at is the one before the gap
pub returns-then-id_of-id : goal.returns-then-id_of-id
returns-then-id_of-id c =
    let e = c.before-q.ensures.0 ∙ to_before c.args.self.head c.args.self.cap (c.loop-j.j - 1) c.loop-j.j c.loop-j.p (omega arith) (omega arith) (omega arith) c.loop-j.invariant.at_p in
    let at_most : (frame_of (get_or c.loop-j.places c.before-q.result [])).id ≤ c.args.id = omega (arith, c.id_of.ensures) in
    let same : c.loop-j.j - 1 + 1 ≡ c.loop-j.j = omega arith in
    rw same (above_found _ _ _ _ (omega arith) (omega arith) _ _ _ _ _ (omega arith) e c.loop-j.invariant.kept at_most)

pub loop-j-preserved : goal.loop-j-preserved
loop-j-preserved c =
    let e = c.before-q.ensures.0 ∙ to_before c.args.self.head c.args.self.cap (c.loop-j.j - 1) c.loop-j.j c.loop-j.p (omega arith) (omega arith) (omega arith) c.loop-j.invariant.at_p in
    let past : c.args.id < (frame_of (get_or c.loop-j.places c.before-q.result [])).id = omega (arith, c.id_of.ensures) in
    record {
      kept = above_more _ _ _ _ (omega arith) (omega arith) _ _ _ _ _ _ (omega arith) e c.loop-j.invariant.at_p (omega arith) c.loop-j.invariant.kept past;
      at_p = e;
      inside = search rules;
    }

pub returns : goal.returns
returns c =
    let none : c.loop-j.j ≡ 0 = omega arith in
    above_all _ _ _ _ (omega arith) (omega arith) _ _ (rw none at c.loop-j.invariant.kept)
